-- A text that is cut at white space.
use Rattle.std.proofs.Common.{◌≡◌, ℕ, ◌<◌, ◌≤◌, ◌+◌, ◌++◌, true, List, [], ◌∷◌, length, take, drop, map, get_or, cond, ltb, nat_lt, Option, Some, None, refl, ap, ◌∙◌, arith, inl, inr}
use Rattle.std.specs.Prelude.{MatchOption, filter}
use Rattle.std.specs.List.{slice_split, position_or_len}
use Rattle.std.specs.Str.{chars}
use Rattle.std.proofs.lemmas.Bool.{cases_lt, lt-ltb, le-ltb}
use Rattle.std.proofs.lemmas.Bool.Decides.{nat_tests}
use Rattle.std.proofs.lemmas.List.{map-append}
use Rattle.std.proofs.lemmas.List.Elements.{filter-append}
use Rattle.std.proofs.lemmas.List.Splits.{slice_split_none, slice_split_first}
use Rattle.std.proofs.lemmas.List.Sums.{fails_before_first, passes_at_first}
use Rattle.sig_base.specs.Space.{is_space}
use Rattle.sig_base.specs.Prefixes.{names_in}

-- what the place of the first white space says
pub place_of_first : (text : List ℕ) (r : Option ℕ)
    → r ≡ cond (ltb (position_or_len is_space text) (length text)) (Some (position_or_len is_space text)) None
    → MatchOption r (length text ≤ position_or_len is_space text) (λ at. (at ≡ position_or_len is_space text) × (at < length text))
place_of_first text r e = elim (cases_lt (position_or_len is_space text) (length text)) [
  | inl within ↦ rw (e, lt-ltb _ _ within) (refl, within)
  | inr none ↦ rw (e, le-ltb _ _ none) none
]

-- white space is ASCII
space_is_ascii : (c : ℕ) → is_space c ≡ true → c < 128
space_is_ascii c t = grind (arith, nat_tests)

module _ (text : List ℕ) where
  pub uncut : length text ≤ position_or_len is_space text → slice_split is_space text ≡ text ∷ []
  uncut none = slice_split_none is_space text (λ k d h. fails_before_first is_space text k d (omega (arith, h, none)))

  module _ (at : ℕ) (first : at ≡ position_or_len is_space text) (within : at < length text) where
    pub cut : slice_split is_space text ≡ take at text ∷ slice_split is_space (drop (at + 1) text)
    cut = rw first (slice_split_first is_space text 0 (rw (← first) within))

    pub ascii_at : get_or text at 0 < 128
    ascii_at = space_is_ascii (get_or text at 0) (rw first (passes_at_first is_space text 0 (rw (← first) within)))

-- ---- the names so far, and those that are still to come
pub names_of_one : (name : List ℕ) → slice_split is_space name ≡ name ∷ []
    → names_in name ≡ map chars (filter (λ piece. nat_lt 0 (length piece)) (name ∷ []))
unfolding names_in
names_of_one name one = rw one refl

pub names_more : (text name rest : List ℕ) → slice_split is_space text ≡ name ∷ slice_split is_space rest
    → names_in text ≡ map chars (filter (λ piece. nat_lt 0 (length piece)) (name ∷ [])) ++ names_in rest
unfolding names_in
names_more text name rest cut =
    let kept = λ (pieces : List (List ℕ)). filter (λ piece. nat_lt 0 (length piece)) pieces in
    rw cut (ap (map chars) (filter-append (λ piece. nat_lt 0 (length piece)) (name ∷ []) (slice_split is_space rest))
    ∙ map-append chars (kept (name ∷ [])) (kept (slice_split is_space rest)))
