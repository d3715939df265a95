-- Octets within the limit.
use Rattle.std.proofs.Common.{◌≡◌, ◌<◌, ◌≤◌, ◌⊎◌, ℕ, ◌+◌, Bool, List, [], ◌∷◌, length, Result, Ok, Err, refl, ap, sym, ◌∙◌, inl, inr, arith}
use Rattle.std.specs.Prelude.{if◌then◌else◌}
use Rattle.std.proofs.lemmas.Bool.{cases_lt, le-leb, lt-leb}
use Rattle.dsig_fields.specs.declared.fields.Step.{Step}
use Rattle.sig_base.specs.Outcomes.{and_then}
use Rattle.transforms.specs.Steps.{octet_limit, step_value, within}
use Rattle.transforms.specs.Values.{Origin, Value}
use Rattle.transforms.specs.Values.{OfNodes, OfOctets}
use Rattle.transforms.specs.Views.{closing, view_from}
use Rattle.transforms.specs.declared.refusal.RefRefusal.{RefRefusal}
use Rattle.transforms.specs.declared.refusal.RefRefusal.TheVariants.{OctetsTooLong}

pub within_ok : (number : ℕ) (octets : List ℕ) → length octets ≤ octet_limit → within number octets ≡ Ok octets
within_ok number octets le = ap (λ (b : Bool). if b then Ok octets else Err (OctetsTooLong number)) (le-leb (length octets) octet_limit le)

pub within_err : (number : ℕ) (octets : List ℕ) → octet_limit < length octets → within number octets ≡ Err (OctetsTooLong number)
within_err number octets gt = ap (λ (b : Bool). if b then Ok octets else Err (OctetsTooLong number)) (lt-leb (length octets) octet_limit gt)

-- what is given is within the limit
within_given : (number : ℕ) (octets view : List ℕ) → within number octets ≡ Ok view → length view ≤ octet_limit
within_given number octets view e = elim (cases_lt octet_limit (length octets)) [
  | inl long ↦ let no = sym (within_err number octets long) ∙ e in cc
  | inr short ↦
      let same = sym (within_ok number octets (omega (arith, short))) ∙ e in
      let view_is : octets ≡ view = cc in
      rw (sym view_is) (omega (arith, short))
]

closing_given : (number : ℕ) (v : Value) (view : List ℕ) → closing number v ≡ Ok view → length view ≤ octet_limit
closing_given number (OfOctets octets) view e = within_given number octets view e
closing_given number (OfNodes nodes) view e = within_given number _ view e

behind_given : (origin : Origin) (number : ℕ) (steps : List Step) (r : Result Value RefRefusal) (view : List ℕ)
    → ((v : Value) → view_from origin number steps v ≡ Ok view → length view ≤ octet_limit)
    → and_then r (view_from origin number steps) ≡ Ok view → length view ≤ octet_limit
behind_given origin number steps (Ok v) view all e = all v e
behind_given origin number steps (Err cause) view all e = cc

-- a view is within the limit
pub view_given : (origin : Origin) (number : ℕ) (steps : List Step) (v : Value) (view : List ℕ) → view_from origin number steps v ≡ Ok view → length view ≤ octet_limit
unfolding view_from
view_given origin number [] v view e = closing_given number v view e
view_given origin number (step ∷ more) v view e =
    behind_given origin (number + 1) more (step_value origin number step v) view (λ w. view_given origin (number + 1) more w view) e
