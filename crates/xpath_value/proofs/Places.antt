-- The characters at the places that pass, and what one more character brings.
use Rattle.std.proofs.Common.{◌≡◌, refl, ap, sym, ◌∙◌, ◌++◌, ℕ, suc, ◌+◌, List, [], ◌∷◌, length, Bool, true, false, arith}
use Rattle.std.specs.Prelude.{if◌then◌else◌}
use Rattle.std.proofs.lemmas.List.{length-append}
use Rattle.xpath_value.specs.Texts.{at_places}

kept_first : (b : Bool) (c d : ℕ) (cs : List ℕ) (xs : List ℕ) → xs ≡ cs ++ d ∷ [] → (if b then c ∷ xs else xs) ≡ (if b then c ∷ cs else cs) ++ d ∷ []
kept_first true c d cs xs e = ap (λ (t : List ℕ). c ∷ t) e
kept_first false c d cs xs e = e

same_first : (b : Bool) (c : ℕ) (cs xs : List ℕ) → xs ≡ cs → (if b then c ∷ xs else xs) ≡ (if b then c ∷ cs else cs)
same_first b c cs xs e = ap (λ (t : List ℕ). if b then c ∷ t else t) e

pub kept_last : (kept : ℕ → Bool) (place : ℕ) (cs : List ℕ) (c : ℕ) → kept (place + length cs) ≡ true → at_places kept place (cs ++ c ∷ []) ≡ at_places kept place cs ++ c ∷ []
unfolding at_places
kept_last kept place [] c e =
    let k : kept place ≡ true = ap kept (let z : place ≡ place + 0 = omega arith in z) ∙ e in rw k refl
kept_last kept place (d ∷ cs) c e =
    let k : kept (suc place + length cs) ≡ true = ap kept (let z : suc place + length cs ≡ place + length (d ∷ cs) = omega arith in z) ∙ e in
    kept_first (kept place) d c (at_places kept (suc place) cs) (at_places kept (suc place) (cs ++ c ∷ [])) (kept_last kept (suc place) cs c k)

pub left_last : (kept : ℕ → Bool) (place : ℕ) (cs : List ℕ) (c : ℕ) → kept (place + length cs) ≡ false → at_places kept place (cs ++ c ∷ []) ≡ at_places kept place cs
unfolding at_places
left_last kept place [] c e =
    let k : kept place ≡ false = ap kept (let z : place ≡ place + 0 = omega arith in z) ∙ e in rw k refl
left_last kept place (d ∷ cs) c e =
    let k : kept (suc place + length cs) ≡ false = ap kept (let z : suc place + length cs ≡ place + length (d ∷ cs) = omega arith in z) ∙ e in
    same_first (kept place) d (at_places kept (suc place) cs) (at_places kept (suc place) (cs ++ c ∷ [])) (left_last kept (suc place) cs c k)

pub at_places-nil : (kept : ℕ → Bool) → [] ≡ at_places kept 1 []
unfolding at_places
at_places-nil kept = refl

pub step_kept : (kept : ℕ → Bool) (out new met : List ℕ) (c n : ℕ) → out ≡ at_places kept 1 met → n ≡ length met → kept (n + 1) ≡ true → new ≡ out ++ c ∷ []
    → new ≡ at_places kept 1 (met ++ c ∷ [])
step_kept kept out new met c n e f k h =
    let at : kept (1 + length met) ≡ true = ap kept (let z : 1 + length met ≡ n + 1 = omega arith in z) ∙ k in
    h ∙ ap (λ (t : List ℕ). t ++ c ∷ []) e ∙ sym (kept_last kept 1 met c at)

pub step_left : (kept : ℕ → Bool) (out met : List ℕ) (c n : ℕ) → out ≡ at_places kept 1 met → n ≡ length met → kept (n + 1) ≡ false
    → out ≡ at_places kept 1 (met ++ c ∷ [])
step_left kept out met c n e f k =
    let at : kept (1 + length met) ≡ false = ap kept (let z : 1 + length met ≡ n + 1 = omega arith in z) ∙ k in
    e ∙ sym (left_last kept 1 met c at)

pub one_more : (met : List ℕ) (c n : ℕ) → n ≡ length met → n + 1 ≡ length (met ++ c ∷ [])
one_more met c n e = omega (arith, length-append met (c ∷ []))
