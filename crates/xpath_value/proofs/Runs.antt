-- Runs of white space as one space, and what one more character brings.
use Rattle.std.proofs.Common.{◌≡◌, refl, ap, sym, ◌∙◌, ◌++◌, ℕ, List, [], ◌∷◌, Bool, true, false, append-nil}
use Rattle.std.specs.Prelude.{if◌then◌else◌}
use Rattle.xpath_value.specs.Characters.{is_space, stripped}
use Rattle.xpath_value.specs.Texts.{normalized, runs_replaced}

-- the text ends with white space, where b says that of what stands before it
abbrev pub ends_with_space : Bool → List ℕ → Bool
ends_with_space b [] = b
ends_with_space b (c ∷ cs) = ends_with_space (is_space c) cs

pub ends_with_last : (b : Bool) (cs : List ℕ) (c : ℕ) → ends_with_space b (cs ++ c ∷ []) ≡ is_space c
ends_with_last b [] c = refl
ends_with_last b (d ∷ cs) c = ends_with_last (is_space d) cs c

-- what a last character adds, behind white space or not
abbrev pub added : (is_behind_space is_space : Bool) → ℕ → List ℕ
added b false c = c ∷ []
added true true c = []
added false true c = 32 ∷ []

-- the front of the list by its first character's class
front_added : (first next : Bool) (d : ℕ) (xs ys tail : List ℕ) → xs ≡ ys ++ tail
    → (if first then (if next then xs else 32 ∷ xs) else d ∷ xs) ≡ (if first then (if next then ys else 32 ∷ ys) else d ∷ ys) ++ tail
front_added true true d xs ys tail e = e
front_added true false d xs ys tail e = ap (λ (t : List ℕ). 32 ∷ t) e
front_added false next d xs ys tail e = ap (λ (t : List ℕ). d ∷ t) e

last_two : (first last : Bool) (d c : ℕ) → (if first then (if last then (if last then 32 ∷ [] else c ∷ []) else 32 ∷ (if last then 32 ∷ [] else c ∷ [])) else d ∷ (if last then 32 ∷ [] else c ∷ []))
    ≡ (if first then 32 ∷ [] else d ∷ []) ++ added first last c
last_two true true d c = refl
last_two true false d c = refl
last_two false true d c = refl
last_two false false d c = refl

last_one : (last : Bool) (c : ℕ) → (if last then 32 ∷ [] else c ∷ []) ≡ added false last c
last_one true c = refl
last_one false c = refl

pub runs_last : (cs : List ℕ) (c : ℕ) → runs_replaced (cs ++ c ∷ []) ≡ runs_replaced cs ++ added (ends_with_space false cs) (is_space c) c
unfolding runs_replaced
runs_last [] c = last_one (is_space c) c
runs_last (d ∷ []) c = last_two (is_space d) (is_space c) d c
runs_last (d ∷ e ∷ cs) c =
    front_added (is_space d) (is_space e) d (runs_replaced ((e ∷ cs) ++ c ∷ [])) (runs_replaced (e ∷ cs)) (added (ends_with_space (is_space e) cs) (is_space c) c) (runs_last (e ∷ cs) c)

pub runs-nil : [] ≡ runs_replaced []
unfolding runs_replaced
runs-nil = refl

runs_step : (out new met : List ℕ) (b s : Bool) (c : ℕ) → out ≡ runs_replaced met → b ≡ ends_with_space false met → is_space c ≡ s → new ≡ out ++ added b s c
    → new ≡ runs_replaced (met ++ c ∷ [])
runs_step out new met b s c e f g h =
    h ∙ ap (λ (t : List ℕ). t ++ added b s c) e
    ∙ ap (λ (x : Bool). runs_replaced met ++ added x s c) f
    ∙ sym (runs_last met c ∙ ap (λ (x : Bool). runs_replaced met ++ added (ends_with_space false met) x c) g)

pub step_other : (out new met : List ℕ) (b : Bool) (c : ℕ) → out ≡ runs_replaced met → b ≡ ends_with_space false met → is_space c ≡ false → new ≡ out ++ c ∷ []
    → new ≡ runs_replaced (met ++ c ∷ [])
step_other out new met b c e f g h = runs_step out new met b false c e f g h

pub step_first : (out new met : List ℕ) (b : Bool) (c : ℕ) → out ≡ runs_replaced met → b ≡ ends_with_space false met → b ≡ false → is_space c ≡ true → new ≡ out ++ 32 ∷ []
    → new ≡ runs_replaced (met ++ c ∷ [])
step_first out new met b c e f k g h = runs_step out new met false true c e (sym k ∙ f) g h

pub step_again : (out met : List ℕ) (b : Bool) (c : ℕ) → out ≡ runs_replaced met → b ≡ ends_with_space false met → b ≡ true → is_space c ≡ true
    → out ≡ runs_replaced (met ++ c ∷ [])
step_again out met b c e f k g = runs_step out out met true true c e (sym k ∙ f) g (sym (append-nil out))

pub normalized_is : (text out : List ℕ) → out ≡ runs_replaced (stripped text) → out ≡ normalized text
unfolding normalized
normalized_is text out e = e
