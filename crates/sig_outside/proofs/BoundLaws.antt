-- What a keeper with a bound has counted, behind a view that is kept or isn't.
use Rattle.std.proofs.Common.{◌≡◌, ◌≢◌, ◌∙◌, ◌+◌, ◌++◌, ℕ, List, [], ◌∷◌, length, Option, Some, refl, ap, append-nil, arith, rules}
use Rattle.std.specs.List.{sum_by}
use Rattle.std.proofs.lemmas.List.Sums.{sum-map, sum_by-append}
use Rattle.sig_outside.specs.Bounds.{octets_of}
use Rattle.sig_outside.specs.Keeps.{Keeps}
use Rattle.sig_outside.specs.declared.keeper.Kept.{Kept}
use Rattle.sig_outside.specs.declared.keeper.Kept.TheVariants.{Done, Failed, NoMemory}

abbrev Pairs : Type 0
Pairs = List (List ℕ × List ℕ)

some_same : (one other : Pairs) → ◌≡◌ {A = Option Pairs} (Some one) (Some other) → one ≡ other
some_same one other e = cc

more : (pairs : Pairs) (pair : List ℕ × List ℕ) → octets_of (pairs ++ pair ∷ []) ≡ octets_of pairs + length pair.1
more pairs pair =
    let size : List ℕ × List ℕ → ℕ = λ p. length p.1 in
    let all = sum-map size (pairs ++ pair ∷ []) in
    let before = sum-map size pairs in
    let parts = sum_by-append size pairs (pair ∷ []) in
    let last : sum_by size (pair ∷ []) ≡ length pair.1 = search rules in
    omega arith

-- one more view is kept
pub octets-kept : (pair : List ℕ × List ℕ) (old new : Pairs) → Keeps pair Done (Some old) (Some new) → octets_of new ≡ octets_of old + length pair.1
octets-kept pair old new e = ap octets_of (some_same new (old ++ pair ∷ []) (e old refl)) ∙ more old pair

same : (old new : Pairs) → ◌≡◌ {A = Option Pairs} (Some new) (Some (old ++ [])) → new ≡ old
same old new e = some_same new (old ++ []) e ∙ append-nil old

-- no view is kept
pub none-kept : (kept : Kept) (pair : List ℕ × List ℕ) (old new : Pairs) → kept ≢ Done → Keeps pair kept (Some old) (Some new) → new ≡ old
none-kept Done pair old new h e = absurd (h refl)
none-kept Failed pair old new h e = same old new (e old refl)
none-kept NoMemory pair old new h e = same old new (e old refl)
