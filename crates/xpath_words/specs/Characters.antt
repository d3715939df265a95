-- Characters of an expression, and runs of them.
use Rattle.std.specs.Prelude.{ℕ, Bool, true, false, ◌||◌, ◌==◌, not, List, [], ◌∷◌, Option, Some, None, if◌then◌else◌}
use Rattle.xpath_value.specs.Characters as value
use Rattle.xml_names.specs.Names as names

-- white space (ExprWhitespace of XPath 1.0 §3.7, which is S of XML 1.0 §2.3)
abbrev pub is_space : ℕ → Bool
is_space = value.is_space

-- a digit (Digits of XPath 1.0 §3.7)
abbrev pub is_digit : ℕ → Bool
is_digit = value.is_digit

-- what an NCName begins with, and what it goes on with (Namespaces in XML 1.0 §3)
abbrev pub begins_name : ℕ → Bool
begins_name = names.is_part_start

abbrev pub is_in_name : ℕ → Bool
is_in_name = names.is_part_char

-- the marks in which a literal stands (Literal of XPath 1.0 §3.7): a quotation mark or an apostrophe
abbrev pub is_quote : ℕ → Bool
is_quote c = (c == 34) || (c == 39)

-- the point, the colon and the star
abbrev pub is_point : ℕ → Bool
is_point c = c == 46

abbrev pub is_colon : ℕ → Bool
is_colon c = c == 58

abbrev pub is_star : ℕ → Bool
is_star c = c == 42

-- a character other than this one
abbrev pub differs : ℕ → ℕ → Bool
differs mark c = not (c == mark)

-- there are no characters
abbrev pub is_empty : List ℕ → Bool
is_empty [] = true
is_empty (c ∷ cs) = false

-- a character that passes the test comes first
abbrev pub begins : (ℕ → Bool) → List ℕ → Bool
begins test [] = false
begins test (c ∷ cs) = test c

-- the first character
abbrev pub first : List ℕ → Option ℕ
first [] = None
first (c ∷ cs) = Some c

-- what is behind the first character
abbrev pub behind_first : List ℕ → List ℕ
behind_first [] = []
behind_first (c ∷ cs) = cs

-- the longest front whose characters pass the test
unfoldable pub front : (ℕ → Bool) → List ℕ → List ℕ
front test [] = []
front test (c ∷ cs) = if test c then c ∷ front test cs else []

-- what is behind that front
unfoldable pub behind : (ℕ → Bool) → List ℕ → List ℕ
behind test [] = []
behind test (c ∷ cs) = if test c then behind test cs else c ∷ cs
