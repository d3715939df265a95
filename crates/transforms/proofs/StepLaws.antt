-- What each step makes of a set.
use Rattle.std.proofs.Common.{◌≡◌, ◌∙◌, ℕ, List, Option, Some, None, Result, Ok, Err, ap, refl, map}
use Rattle.std.specs.Prelude.{encode_utf8_all}
use Rattle.sig_base.specs.declared.method.CanonMethod.{CanonMethod}
use Rattle.c14n_methods.specs.Methods.{canonical_form}
use Rattle.dsig_base64.specs.Loose.{octets_in}
use Rattle.dsig_fields.specs.declared.fields.Step.TheVariants as step
use Rattle.dsig_fields.specs.declared.fields.Filter.{Filter}
use Rattle.transforms.specs.Expressions.{nodes_filtered, xpath_filtered}
use Rattle.transforms.specs.Steps.{as_octets, enveloped, nodes_step, spelled, text_of_set, within}
use Rattle.transforms.specs.Values.{Nodes, OfOctets, Origin, Value}
use Rattle.transforms.specs.declared.refusal.RefRefusal.{RefRefusal}

module _ (origin : Origin) (number : ℕ) (nodes : Nodes) where
  canon_is : (method : CanonMethod) (prefixes : List (List ℕ)) → nodes_step origin number (step.Canon method prefixes) nodes ≡ as_octets (within number (canonical_form method (map encode_utf8_all prefixes) nodes.rows nodes.set))
  unfolding nodes_step
  canon_is method prefixes = refl

  base64_is : nodes_step origin number step.Base64 nodes ≡ as_octets (spelled number (octets_in (text_of_set nodes.rows nodes.set)))
  unfolding nodes_step
  base64_is = refl

  pub enveloped_is : nodes_step origin number step.Enveloped nodes ≡ enveloped number origin.signature nodes
  unfolding nodes_step
  enveloped_is = refl

  pub xpath_is : (row : ℕ) (text : List ℕ) → nodes_step origin number (step.XPath row text) nodes ≡ xpath_filtered origin.rows number row text nodes
  unfolding nodes_step
  xpath_is row text = refl

  pub filters_is : (filters : List Filter) → nodes_step origin number (step.Filters filters) nodes ≡ nodes_filtered origin.rows number filters nodes
  unfolding nodes_step
  filters_is filters = refl

  pub canon_given : (method : CanonMethod) (prefixes : List (List ℕ)) (r : Result (List ℕ) RefRefusal)
      → within number (canonical_form method (map encode_utf8_all prefixes) nodes.rows nodes.set) ≡ r → nodes_step origin number (step.Canon method prefixes) nodes ≡ as_octets r
  canon_given method prefixes r e = canon_is method prefixes ∙ ap as_octets e

  pub base64_given : (r : Result (List ℕ) RefRefusal) → spelled number (octets_in (text_of_set nodes.rows nodes.set)) ≡ r → nodes_step origin number step.Base64 nodes ≡ as_octets r
  base64_given r e = base64_is ∙ ap as_octets e
