-- The view of a Reference: the octets whose digest is compared (XML Signature 1.1, section 4.4.3.2).
use Rattle.std.specs.Prelude.{ℕ, ◌+◌, List, [], ◌∷◌, Option, Result, Ok, Err, encode_utf8_all}
use Rattle.sig_base.specs.declared.method.CanonMethod.TheVariants.{C10}
use Rattle.sig_outside.specs.Told.{Held}
use Rattle.c14n_methods.specs.Methods.{canonical_form}
use Rattle.uri_refs.specs.Targets.{target_of}
use Rattle.uri_refs.specs.declared.target.Place.{Place}
use Rattle.uri_refs.specs.declared.target.Target.{Target}
use Rattle.dsig_fields.specs.declared.fields.Reference.{Reference}
use Rattle.dsig_fields.specs.declared.fields.Step.{Step}
use Rattle.sig_base.specs.Outcomes.{and_then, with_cause}
use Rattle.transforms.specs.Start.{start}
use Rattle.transforms.specs.Steps.{step_value, within}
use Rattle.transforms.specs.Values.{Origin, Value}
use Rattle.transforms.specs.Values.{OfNodes, OfOctets}
use Rattle.transforms.specs.declared.refusal.RefRefusal.{RefRefusal}
use Rattle.transforms.specs.declared.refusal.RefRefusal.TheVariants.{Uri}

-- a node set that is left behind the last step is written by Canonical XML 1.0 without comments
abbrev pub closing : (number : ℕ) → Value → Result (List ℕ) RefRefusal
closing number (OfOctets octets) = within number octets
closing number (OfNodes nodes) = within number (canonical_form C10 [] nodes.rows nodes.set)

-- the view that steps, of which the first has this number, make of a value; the first that is refused decides
unfoldable pub view_from : Origin → (number : ℕ) → List Step → Value → Result (List ℕ) RefRefusal
view_from origin number [] v = closing number v
view_from origin number (step ∷ more) v = and_then (step_value origin number step v) (view_from origin (number + 1) more)

-- what a Reference refers to
abbrev pub target_in : Place → Reference → Result Target RefRefusal
target_in place reference = with_cause Uri (target_of (encode_utf8_all reference.uri) place)

-- the view of a Reference
unfoldable pub view_of : Origin → Place → Held → Reference → Result (List ℕ) RefRefusal
view_of origin place files reference =
    and_then (target_in place reference) (λ target. and_then (start origin.rows files target) (view_from origin 1 reference.steps))
