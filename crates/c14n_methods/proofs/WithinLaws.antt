-- Counts of octets and the limit.
use Rattle.std.proofs.Common.{◌≡◌, ◌<◌, ◌≤◌, ◌-◌, ◌+◌, ◌^◌, ◌++◌, ℕ, Bool, true, false, List, [], length, min, refl, sym, ◌∙◌, ap, inl, inr, arith}
use Rattle.std.specs.Prelude.{nat_le, Some, None, if◌then◌else◌}
use Rattle.std.proofs.lemmas.Bool.{cases_lt, le-leb, lt-leb}
use Rattle.std.proofs.lemmas.List.{length-append}
use Rattle.sig_base.specs.Counts.{Rose}
use Rattle.c14n_methods.specs.Limits.{form_within, is_within, octet_limit}
use Rattle.c14n_methods.specs.Code.Limited.{Counts}

-- a count that stays at its end tells whether there was more than the limit
pub count_within : (n : ℕ) → nat_le (min n (2 ^ 64 - 1)) octet_limit ≡ nat_le n octet_limit
count_within n = elim (cases_lt octet_limit n) [
  | inl more ↦ lt-leb (min n (2 ^ 64 - 1)) octet_limit (omega (arith, more)) ∙ sym (lt-leb n octet_limit more)
  | inr less ↦ le-leb (min n (2 ^ 64 - 1)) octet_limit (omega (arith, less)) ∙ sym (le-leb n octet_limit (omega (arith, less)))
]

-- where a part of the octets is above the limit, all are
pub front_above : (front back octets : List ℕ) → front ++ back ≡ octets → octet_limit < min (length front) (2 ^ 64 - 1) → false ≡ is_within octets
front_above front back octets joined above =
    let whole : length octets ≡ length front + length back = sym (ap length joined) ∙ length-append front back in
    sym (lt-leb (length octets) octet_limit (omega (arith, above, whole)))

-- a sink that has taken nothing counts nothing
pub nothing_counted : (s : ℕ × ℕ) → s ≡ (0, 0) → Counts s []
nothing_counted s is = rw is (refl, λ lt. absurd (omega (arith, lt)))

-- a sink that began with nothing, and has refused
pub refused_at : (old new : ℕ × ℕ) (front back octets : List ℕ) → old ≡ (0, 0) → front ++ back ≡ octets → Rose old.1 new.1 → Counts new front
    → false ≡ is_within octets
refused_at old new front back octets is joined rose counts =
    let none : old.1 ≡ 0 = ap (λ (s : ℕ × ℕ). s.1) is in
    let above = counts.1 (omega (arith, none, rose)) in
    front_above front back octets joined (rw counts.0 at above)

-- what is within the limit is given
pub given_within : (fits : Bool) (result octets : List ℕ) → fits ≡ is_within octets → fits ≡ true → result ≡ octets → Some result ≡ form_within octets
given_within fits result octets is kept same =
    ap Some same ∙ ap (λ (b : Bool). if b then Some octets else None) (sym kept ∙ is)
