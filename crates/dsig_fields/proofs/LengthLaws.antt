-- White space at the ends of a text, and numbers that stop growing.
use Rattle.std.proofs.Common.{◌≡◌, ℕ, ◌≤◌, ◌+◌, ◌-◌, ◌*◌, min, true, false, List, [], ◌∷◌, ◌++◌, length, reverse, refl, sym, ap, ◌∙◌, arith, inl, inr}
use Rattle.std.proofs.lemmas.Bool.{cases_lt}
use Rattle.std.proofs.lemmas.List.{reverse-append}
use Rattle.std.proofs.Math.Nat.{min-eq_left, min-eq_right}
use Rattle.sig_base.specs.Space.{is_space}
use Rattle.dsig_fields.specs.Lengths.{behind_space, number_behind}

-- ---- white space
module _ (text : List ℕ) (c : ℕ) (rest : List ℕ) (is : text ≡ c ∷ rest) where
  pub space_passed : is_space c ≡ true → behind_space text ≡ behind_space rest
  unfolding behind_space
  space_passed t = rw (is, t)

  pub other_stands : is_space c ≡ false → behind_space text ≡ text
  unfolding behind_space
  other_stands f = rw (is, f)

pub none_stands : (text : List ℕ) → length text ≡ 0 → behind_space text ≡ text
unfolding behind_space
none_stands [] e = refl
none_stands (c ∷ rest) e = absurd (omega (arith, e))

-- the last is the first of the text read backwards
pub last_first : (text before : List ℕ) (c : ℕ) → text ≡ before ++ c ∷ [] → reverse text ≡ c ∷ reverse before
last_first text before c is = ap reverse is ∙ reverse-append before (c ∷ [])

-- ---- numbers
pub number_more : (n c : ℕ) (rest : List ℕ) → number_behind n (c ∷ rest) ≡ number_behind (10 * n + (c - 48)) rest
unfolding number_behind
number_more n c rest = refl

pub number_all : (n : ℕ) → number_behind n [] ≡ n
unfolding number_behind
number_all n = refl

-- a number only grows
grows : (n : ℕ) (digits : List ℕ) → n ≤ number_behind n digits
unfolding number_behind
grows n [] = omega arith
grows n (c ∷ rest) = let h = grows (10 * n + (c - 48)) rest in omega (arith, h)

-- above a limit it doesn't matter how much more it is
pub capped_behind : (limit n : ℕ) (digits : List ℕ) → min (number_behind (min n limit) digits) limit ≡ min (number_behind n digits) limit
capped_behind limit n digits = elim (cases_lt limit n) [
  | inl many ↦
      let above : limit ≤ number_behind n digits = let h = grows n digits in omega (arith, h, many) in
      let most : min n limit ≡ limit = min-eq_right (omega (arith, many)) in
      ap (λ (k : ℕ). min (number_behind k digits) limit) most ∙ min-eq_right (grows limit digits) ∙ sym (min-eq_right above)
  | inr few ↦ ap (λ (k : ℕ). min (number_behind k digits) limit) (min-eq_left few)
]
