-- A list from a place on.
use Rattle.std.proofs.Common.{◌≡◌, ◌≤◌, ◌<◌, ℕ, zero, suc, Bool, true, Some, None, List, [], ◌∷◌, length, refl, sym, subst, ap, ◌∙◌, arith}
use Rattle.std.specs.Prelude.{slice_get}
use Rattle.std.specs.List.{All, list_all}
use Rattle.std.proofs.lemmas.Bool.{and_parts}
use Rattle.std.proofs.lemmas.List.Elements.{All-get_or}
use Rattle.std.proofs.lemmas.Option.{get_or_from_slice_get, slice_get_within}

-- what holds of all members holds of that one
pub all_at : {X : Type 0} (P : X → Type 0) (xs : List X) (k : ℕ) (x : X) → All P xs → Some x ≡ slice_get xs k → P x
all_at P xs k x all e =
    subst P (get_or_from_slice_get xs k x x (sym e)) (All-get_or P xs k x (slice_get_within xs k x (sym e)) all)

-- a test that all members pass
pub passed_at : {X : Type 0} (p : X → Bool) (xs : List X) (k : ℕ) (x : X) → list_all p xs ≡ true → Some x ≡ slice_get xs k → p x ≡ true
passed_at p [] k x all e = cc
passed_at p (y ∷ ys) zero x all e = let same : x ≡ y = cc in ap p same ∙ (and_parts (p y) (list_all p ys) all).0
passed_at p (y ∷ ys) (suc k) x all e = passed_at p ys k x (and_parts (p y) (list_all p ys) all).1 e

-- no member is left at the end alone
pub none_left : {X : Type 0} (xs : List X) (k : ℕ) → None ≡ slice_get xs k → k ≤ length xs → k ≡ length xs
none_left [] k e le = omega arith
none_left (y ∷ ys) zero e le = cc
none_left (y ∷ ys) (suc k) e le = let same = none_left ys k e (omega (arith, le)) in ap suc same
