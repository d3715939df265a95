-- Runs of characters, and one turn of a loop over one.
use Rattle.std.proofs.Common.{◌≡◌, ℕ, suc, ◌<◌, ◌≤◌, Bool, true, false, cond, List, [], ◌∷◌, ◌++◌, length, Some, None, refl, ap, append_assoc, append-nil, arith}
use Rattle.std.specs.List.{list_all}
use Rattle.std.proofs.lemmas.Bool.{and_parts}
use Rattle.sig_base.proofs.OptionLemmas.{some_is}
use Rattle.xpath_words.specs.Characters.{first, behind_first, front, behind}

pub behind_taken : (p : ℕ → Bool) (xs : List ℕ) (c : ℕ) → first xs ≡ Some c → p c ≡ true → behind p (behind_first xs) ≡ behind p xs
unfolding behind
behind_taken p [] c e h = absurd cc
behind_taken p (x ∷ xs) c e h = let is = some_is x c e in rw (is, h) refl

pub behind_kept : (p : ℕ → Bool) (xs : List ℕ) (c : ℕ) → first xs ≡ Some c → p c ≡ false → behind p xs ≡ xs
unfolding behind
behind_kept p [] c e h = absurd cc
behind_kept p (x ∷ xs) c e h = let is = some_is x c e in rw (is, h) refl

pub behind_all : (p : ℕ → Bool) (xs : List ℕ) → first xs ≡ None → behind p xs ≡ xs
unfolding behind
behind_all p [] e = refl
behind_all p (x ∷ xs) e = absurd cc

pub front_taken : (p : ℕ → Bool) (xs : List ℕ) (c : ℕ) (old new start : List ℕ) → first xs ≡ Some c → p c ≡ true → new ≡ old ++ (c ∷ [])
    → old ++ front p xs ≡ start → new ++ front p (behind_first xs) ≡ start
unfolding front
front_taken p [] c old new start e h pushed kept = absurd cc
front_taken p (x ∷ xs) c old new start e h pushed kept =
    let is = some_is x c e in
    let kept_is : old ++ (c ∷ front p xs) ≡ start = rw (is, h) at kept in
    rw (pushed, append_assoc) kept_is

pub front_kept : (p : ℕ → Bool) (xs : List ℕ) (c : ℕ) (old start : List ℕ) → first xs ≡ Some c → p c ≡ false → old ++ front p xs ≡ start → old ≡ start
unfolding front
front_kept p [] c old start e h kept = absurd cc
front_kept p (x ∷ xs) c old start e h kept =
    let is = some_is x c e in
    let kept_is : old ++ [] ≡ start = rw (is, h) at kept in
    rw append-nil at kept_is

pub front_all : (p : ℕ → Bool) (xs : List ℕ) (old start : List ℕ) → first xs ≡ None → old ++ front p xs ≡ start → old ≡ start
unfolding front
front_all p [] old start e kept = rw append-nil at kept
front_all p (x ∷ xs) old start e kept = absurd cc

pub shorter : (xs : List ℕ) (c : ℕ) → first xs ≡ Some c → length (behind_first xs) < length xs
shorter [] c e = absurd cc
shorter (x ∷ xs) c e = omega arith

-- ---- A run as a part of a text

pub run_parts : (p : ℕ → Bool) (xs : List ℕ) → xs ≡ front p xs ++ behind p xs
unfolding front behind
run_parts p [] = refl
run_parts p (x ∷ xs) =
    elim (p x) as (λ b. x ∷ xs ≡ cond b (x ∷ front p xs) [] ++ cond b (behind p xs) (x ∷ xs)) [
      | true ↦ ap (λ (t : List ℕ). x ∷ t) (run_parts p xs)
      | false ↦ refl
    ]

passes_at : (p : ℕ → Bool) (x : ℕ) (ys : List ℕ) (b : Bool) → p x ≡ b → list_all p ys ≡ true → list_all p (cond b (x ∷ ys) []) ≡ true
passes_at p x ys true e h = rw (e, h) refl
passes_at p x ys false e h = refl

pub run_passes : (p : ℕ → Bool) (xs : List ℕ) → list_all p (front p xs) ≡ true
unfolding front
run_passes p [] = refl
run_passes p (x ∷ xs) = passes_at p x (front p xs) (p x) refl (run_passes p xs)

-- all of a run is passed over, whatever is behind it
pub behind_run : (p : ℕ → Bool) (s rest : List ℕ) → list_all p s ≡ true → behind p (s ++ rest) ≡ behind p rest
unfolding behind
behind_run p [] rest e = refl
behind_run p (x ∷ s) rest e = let q = and_parts (p x) (list_all p s) e in rw q.0 (behind_run p s rest q.1)

pub front_run : (p : ℕ → Bool) (s rest : List ℕ) → list_all p s ≡ true → front p (s ++ rest) ≡ s ++ front p rest
unfolding front
front_run p [] rest e = refl
front_run p (x ∷ s) rest e = let q = and_parts (p x) (list_all p s) e in rw q.0 (ap (λ (t : List ℕ). x ∷ t) (front_run p s rest q.1))

pub behind_at : (p : ℕ → Bool) (x : ℕ) (rest : List ℕ) → p x ≡ false → behind p (x ∷ rest) ≡ x ∷ rest
unfolding behind
behind_at p x rest e = rw e refl

pub front_at : (p : ℕ → Bool) (x : ℕ) (rest : List ℕ) → p x ≡ false → front p (x ∷ rest) ≡ []
unfolding front
front_at p x rest e = rw e refl

-- what is behind a run is no longer
pub behind_le : (p : ℕ → Bool) (xs : List ℕ) → length (behind p xs) ≤ length xs
unfolding behind
behind_le p [] = omega arith
behind_le p (x ∷ xs) =
    elim (p x) as (λ b. length (cond b (behind p xs) (x ∷ xs)) ≤ suc (length xs)) [
      | true ↦ let h = behind_le p xs in omega (arith, h)
      | false ↦ omega arith
    ]

pub behind_first_le : (xs : List ℕ) → length (behind_first xs) ≤ length xs
behind_first_le [] = omega arith
behind_first_le (x ∷ xs) = omega arith

-- where a run ends within the text, the next character doesn't pass
pub run_ends : (p : ℕ → Bool) (xs ys : List ℕ) (y : ℕ) → behind p xs ≡ y ∷ ys → p y ≡ false
unfolding behind
run_ends p [] ys y e = absurd cc
run_ends p (x ∷ xs) ys y e =
    elim (p x) as (λ b. p x ≡ b → cond b (behind p xs) (x ∷ xs) ≡ y ∷ ys → p y ≡ false) [
      | true ↦ λ h f. run_ends p xs ys y f
      | false ↦ λ h f. let i : x ≡ y = cc in rw (← i) h
    ] refl e
