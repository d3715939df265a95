-- A list from a place on.
use Rattle.std.proofs.Common.{◌≡◌, ◌+◌, ◌∙◌, ℕ, zero, suc, Bool, true, false, Some, List, [], ◌∷◌, ◌++◌, drop, refl, sym, subst, ap}
use Rattle.std.specs.Prelude.{slice_get}
use Rattle.std.specs.List.{All, find, flat_map, list_all}
use Rattle.std.proofs.lemmas.List.Elements.{All-get_or}
use Rattle.std.proofs.lemmas.Option.{get_or_from_slice_get, slice_get_within}
use Rattle.sig_base.proofs.ListLemmas.{drop-at}

-- what holds of all members holds of that one
pub all_at : {X : Type 0} (P : X → Type 0) (xs : List X) (k : ℕ) (x : X) → All P xs → Some x ≡ slice_get xs k → P x
all_at P xs k x all e =
    subst P (get_or_from_slice_get xs k x x (sym e)) (All-get_or P xs k x (slice_get_within xs k x (sym e)) all)

-- ---- a test of all members
pub passed_here : {X : Type 0} (p : X → Bool) (xs : List X) (k : ℕ) (x : X) → Some x ≡ slice_get xs k → p x ≡ true
    → list_all p (drop (k + 1) xs) ≡ list_all p (drop k xs)
passed_here p xs k x e t = sym (ap (list_all p) (drop-at xs k x e) ∙ rw t refl)

pub failed_here : {X : Type 0} (p : X → Bool) (xs : List X) (k : ℕ) (x : X) → Some x ≡ slice_get xs k → p x ≡ false
    → list_all p (drop k xs) ≡ false
failed_here p xs k x e t = ap (list_all p) (drop-at xs k x e) ∙ rw t refl

-- ---- the first that passes a test
pub first_here : {X : Type 0} (p : X → Bool) (xs rest : List X) (x : X) → xs ≡ x ∷ rest → p x ≡ true → find p xs ≡ Some x
first_here p xs rest x e t = ap (find p) e ∙ rw t refl

pub first_later : {X : Type 0} (p : X → Bool) (xs rest : List X) (x : X) → xs ≡ x ∷ rest → p x ≡ false → find p xs ≡ find p rest
first_later p xs rest x e t = ap (find p) e ∙ rw t refl

-- ---- what all members give
pub flat_at : {X Y : Type 0} (f : X → List Y) (xs : List X) (k : ℕ) (x : X) → Some x ≡ slice_get xs k
    → flat_map f (drop k xs) ≡ f x ++ flat_map f (drop (k + 1) xs)
flat_at f xs k x e = ap (flat_map f) (drop-at xs k x e)

nothing_first : {Y : Type 0} (xs ys : List Y) → xs ++ ys ≡ [] → (xs ≡ []) × (ys ≡ [])
nothing_first [] ys e = (refl, e)
nothing_first (x ∷ xs) ys e = absurd cc

-- where they give nothing, that one gives nothing
pub nothing_at : {X Y : Type 0} (f : X → List Y) (xs : List X) (k : ℕ) (x : X) → flat_map f xs ≡ [] → Some x ≡ slice_get xs k → f x ≡ []
nothing_at f [] k x none e = absurd cc
nothing_at f (y ∷ ys) zero x none e = let same : x ≡ y = cc in ap f same ∙ (nothing_first (f y) (flat_map f ys) none).0
nothing_at f (y ∷ ys) (suc k) x none e = nothing_at f ys k x (nothing_first (f y) (flat_map f ys) none).1 e
