-- The words of a command line, one by one. This project's own command line.
use Rattle.std.specs.Prelude.{◌==◌, ◌&&◌, ◌||◌, ℕ, Bool, false, not, List, [], ◌∷◌, nat_le, Option, Some, None, if◌then◌else◌}
use Rattle.std.specs.List.{list_any, before_first, after_first}

-- a word that is no option, as a value is: it isn't empty, and doesn't begin with `-`
abbrev pub is_plain : List ℕ → Bool
is_plain [] = false
is_plain (c ∷ rest) = not (c == 45)

abbrev pub is_letter : ℕ → Bool
is_letter c = (nat_le 65 c && nat_le c 90) || (nat_le 97 c && nat_le c 122)

abbrev pub is_equals : ℕ → Bool
is_equals c = c == 61

-- the name of an option ends before the first `=`, and its value stands behind it
abbrev pub name_and_value : List ℕ → List ℕ × Option (List ℕ)
name_and_value text =
    (before_first is_equals text, if list_any is_equals text then Some (after_first is_equals text) else None)

-- an option: `--`, a letter, and what follows
abbrev pub option_in : List ℕ → Option (List ℕ × Option (List ℕ))
option_in (a ∷ b ∷ c ∷ rest) = if a == 45 && (b == 45 && is_letter c) then Some (name_and_value (c ∷ rest)) else None
option_in word = None
