-- The text functions (XPath 1.0 §4.2), over lists of characters.
use Rattle.std.specs.Prelude.{ℕ, suc, pos, ◌+ℤ◌, ◌+◌, Bool, true, false, ◌&&◌, ◌==◌, int_le, int_lt, List, [], ◌∷◌, length, take, drop, Option, Some, None, option_map, if◌then◌else◌, position, filter_map, slice_get}
use Rattle.xpath_value.specs.Characters.{is_space, stripped}
use Rattle.xpath_value.specs.declared.number.Number.{Number}
use Rattle.xpath_value.specs.declared.number.Number.TheVariants.{Whole, Nan}

-- the place isn't before the first and, where a count is given, is below their sum; none is kept with NaN
abbrev pub is_kept : Number → Option Number → ℕ → Bool
is_kept Nan count place = false
is_kept (Whole first) None place = int_le first (pos place)
is_kept (Whole first) (Some Nan) place = false
is_kept (Whole first) (Some (Whole count)) place = int_le first (pos place) && int_lt (pos place) (first +ℤ count)

-- the characters whose places pass, where the list begins at that place
unfoldable pub at_places : (ℕ → Bool) → ℕ → List ℕ → List ℕ
at_places kept place [] = []
at_places kept place (c ∷ cs) = if kept place then c ∷ at_places kept (suc place) cs else at_places kept (suc place) cs

-- `substring`: the characters at the places from the first on, the place of the first character being 1
abbrev pub substring_of : List ℕ → Number → Option Number → List ℕ
substring_of text first count = at_places (is_kept first count) 1 text

-- the text begins with the mark
unfoldable pub begins_with : List ℕ → List ℕ → Bool
begins_with [] text = true
begins_with (m ∷ ms) [] = false
begins_with (m ∷ ms) (c ∷ cs) = (m == c) && begins_with ms cs

-- how many characters stand before the first occurrence of the mark
unfoldable pub first_occurrence : List ℕ → List ℕ → Option ℕ
first_occurrence mark [] = if begins_with mark [] then Some 0 else None
first_occurrence mark (c ∷ cs) = if begins_with mark (c ∷ cs) then Some 0 else option_map suc (first_occurrence mark cs)

-- `substring-before`: the text before the first occurrence of the mark, empty where there is none
abbrev pub before_place : List ℕ → Option ℕ → List ℕ
before_place text None = []
before_place text (Some place) = take place text

abbrev pub substring_before_of : List ℕ → List ℕ → List ℕ
substring_before_of text mark = before_place text (first_occurrence mark text)

-- `substring-after`: the text behind the first occurrence of the mark, empty where there is none
abbrev pub after_place : List ℕ → ℕ → Option ℕ → List ℕ
after_place text width None = []
after_place text width (Some place) = drop (place + width) text

abbrev pub substring_after_of : List ℕ → List ℕ → List ℕ
substring_after_of text mark = after_place text (length mark) (first_occurrence mark text)

-- the text begins with white space
abbrev pub begins_with_space : List ℕ → Bool
begins_with_space [] = false
begins_with_space (c ∷ cs) = is_space c

-- each run of white space is one space: of a run, its last character becomes the space
unfoldable pub runs_replaced : List ℕ → List ℕ
runs_replaced [] = []
runs_replaced (c ∷ cs) =
    if is_space c then (if begins_with_space cs then runs_replaced cs else 32 ∷ runs_replaced cs)
    else c ∷ runs_replaced cs

-- `normalize-space`: white space at both ends is left out, and then each run of white space is one space
unfoldable pub normalized : List ℕ → List ℕ
normalized text = runs_replaced (stripped text)

-- what becomes of a character: at its first place in the one text the other has its replacement, or none and it is left out;
-- a character that the one text hasn't stays
abbrev pub character_at : ℕ → List ℕ → Option ℕ → Option ℕ
character_at c others None = Some c
character_at c others (Some place) = slice_get others place

abbrev pub replacement : List ℕ → List ℕ → ℕ → Option ℕ
replacement characters others c = character_at c others (position (λ d. d == c) characters)

-- `translate`: each character is replaced, left out or kept
unfoldable pub translated : List ℕ → List ℕ → List ℕ → List ℕ
translated characters others text = filter_map (replacement characters others) text
