-- Classes of characters, and white space at the ends of a list of characters.
use Rattle.std.specs.Prelude.{ℕ, Bool, true, false, ◌||◌, ◌&&◌, ◌==◌, ◌-◌, nat_le, List, [], ◌∷◌, length, take, drop}
use Rattle.std.specs.List.{prefix_len, suffix_len}

-- white space: space, tab, carriage return or line feed (S of XML 1.0 §2.3, which XPath 1.0 §3.7 takes)
abbrev pub is_space : ℕ → Bool
is_space c = (c == 32) || ((c == 9) || ((c == 13) || (c == 10)))

-- a digit (Digits of XPath 1.0 §3.7)
abbrev pub is_digit : ℕ → Bool
is_digit c = nat_le 48 c && nat_le c 57

-- the point of a number (Number of XPath 1.0 §3.7)
abbrev pub is_point : ℕ → Bool
is_point c = c == 46

-- the digit zero
abbrev pub is_zero : ℕ → Bool
is_zero c = c == 48

-- no character
abbrev pub is_empty : List ℕ → Bool
is_empty [] = true
is_empty (c ∷ cs) = false

-- without the white space at the start
unfoldable pub stripped_start : List ℕ → List ℕ
stripped_start text = drop (prefix_len is_space text) text

-- without the white space at the end
unfoldable pub stripped_end : List ℕ → List ℕ
stripped_end text = take (length text - suffix_len is_space text) text

-- without the white space at both ends
abbrev pub stripped : List ℕ → List ℕ
stripped text = stripped_end (stripped_start text)
