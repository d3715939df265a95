-- Which classes of characters exclude each other.
use Rattle.std.proofs.Common.{◌≡◌, ℕ, ◌<◌, ◌≤◌, Bool, true, false, List, [], ◌∷◌, refl, sym, ◌∙◌, arith}
use Rattle.std.specs.Prelude.{◌||◌, ◌==◌, not, nat_le}
use Rattle.std.specs.List.{list_all}
use Rattle.std.proofs.lemmas.Bool.{eqb-true, false≢true, false_from_ne_true, and_parts}
use Rattle.xml_names.specs.Characters.{Range, in_some, name_start_ranges, is_name_start, is_name_char}
use Rattle.xpath_words.specs.Characters.{is_space, is_digit, is_quote, is_star, begins_name, is_in_name}

pub either_of : (a b : Bool) → (a || b) ≡ true → (a ≡ false → b ≡ true)
either_of true b e h = absurd cc
either_of false b e h = e

le_false : (m n : ℕ) → n < m → nat_le m n ≡ false
le_false m n h = grind arith

-- a code point below all ranges lies in none
below_all : (rs : List Range) (c n : ℕ) → c < n → list_all (λ (r : Range). nat_le n r.from) rs ≡ true → in_some rs c ≡ false
below_all [] c n h e = refl
below_all (r ∷ rs) c n h e =
    let p = and_parts (nat_le n r.from) (list_all (λ (q : Range). nat_le n q.from) rs) e in
    let q : c < r.from = grind arith in
    rw (le_false r.from c q) (below_all rs c n h p.1)

-- below the colon no name begins
pub low_is_no_name : (c : ℕ) → c < 58 → begins_name c ≡ false
unfolding is_name_start
low_is_no_name c h = rw (below_all name_start_ranges c 58 h refl) refl

pub digit_low : (c : ℕ) → is_digit c ≡ true → c < 58
digit_low c h = grind arith

pub digit_is_no_name : (c : ℕ) → is_digit c ≡ true → begins_name c ≡ false
digit_is_no_name c h = low_is_no_name c (digit_low c h)

quote_is : (c : ℕ) → is_quote c ≡ true → (c == 34) ≡ false → c ≡ 39
quote_is c e h = eqb-true c 39 (either_of (c == 34) (c == 39) e h)

pub quote_low : (c : ℕ) → is_quote c ≡ true → c < 58
quote_low c e = elim (c == 34) as (λ b. (c == 34) ≡ b → c < 58) [
  | true ↦ λ h. let i : c ≡ 34 = eqb-true c 34 h in omega arith
  | false ↦ λ h. let i : c ≡ 39 = quote_is c e h in omega arith
] refl

pub quote_is_no_digit : (c : ℕ) → is_quote c ≡ true → is_digit c ≡ false
quote_is_no_digit c e = elim (c == 34) as (λ b. (c == 34) ≡ b → is_digit c ≡ false) [
  | true ↦ λ h. let i : c ≡ 34 = eqb-true c 34 h in rw i refl
  | false ↦ λ h. let i : c ≡ 39 = quote_is c e h in rw i refl
] refl

-- what begins a name also goes on with one, and is no star
pub start_is_in_name : (c : ℕ) → begins_name c ≡ true → is_in_name c ≡ true
unfolding is_name_char
start_is_in_name c e =
    let p = and_parts (is_name_start c) (not (c == 58)) e in rw (p.0, p.1) refl

pub start_is_no_star : (c : ℕ) → begins_name c ≡ true → is_star c ≡ false
unfolding is_name_start
start_is_no_star c e = false_from_ne_true (is_star c) (λ h. let i : c ≡ 42 = eqb-true c 42 h in false≢true (rw i at e))

pub colon_is_not_in_name : is_in_name 58 ≡ false
unfolding is_name_start is_name_char
colon_is_not_in_name = refl

-- ---- No token begins with white space

space_low : (c : ℕ) → is_space c ≡ true → c < 33
space_low c e = elim (c == 32) as (λ b. (c == 32) ≡ b → c < 33) [
  | true ↦ λ h. let i : c ≡ 32 = eqb-true c 32 h in omega arith
  | false ↦ λ h. elim (c == 9) as (λ b. (c == 9) ≡ b → c < 33) [
    | true ↦ λ k. let i : c ≡ 9 = eqb-true c 9 k in omega arith
    | false ↦ λ k. elim (c == 13) as (λ b. (c == 13) ≡ b → c < 33) [
      | true ↦ λ m. let i : c ≡ 13 = eqb-true c 13 m in omega arith
      | false ↦ λ m.
          let f : ((c == 9) || ((c == 13) || (c == 10))) ≡ true = either_of (c == 32) _ e h in
          let g : ((c == 13) || (c == 10)) ≡ true = either_of (c == 9) _ f k in
          let i : c ≡ 10 = eqb-true c 10 (either_of (c == 13) (c == 10) g m) in omega arith
    ] refl
  ] refl
] refl

pub high_is_no_space : (c : ℕ) → 33 ≤ c → is_space c ≡ false
high_is_no_space c h = false_from_ne_true (is_space c) (λ e. let k = space_low c e in absurd (omega (arith, k, h)))

pub digit_is_no_space : (c : ℕ) → is_digit c ≡ true → is_space c ≡ false
digit_is_no_space c e = high_is_no_space c (grind arith)

pub name_is_no_space : (c : ℕ) → begins_name c ≡ true → is_space c ≡ false
name_is_no_space c e = false_from_ne_true (is_space c) (λ h. let k = space_low c h in false≢true (sym (low_is_no_name c (omega (arith, k))) ∙ e))

pub quote_is_no_space : (c : ℕ) → is_quote c ≡ true → is_space c ≡ false
quote_is_no_space c e = elim (c == 34) as (λ b. (c == 34) ≡ b → is_space c ≡ false) [
  | true ↦ λ h. let i : c ≡ 34 = eqb-true c 34 h in rw i refl
  | false ↦ λ h. let i : c ≡ 39 = quote_is c e h in rw i refl
] refl
