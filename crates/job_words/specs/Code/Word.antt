use Rattle.std.specs.Prelude.{◌&&◌, ◌||◌, ℕ, Bool, true, false, List, [], ◌∷◌, Option, Some, None}
use Rattle.job_words.specs.Word.{is_plain, option_in}

-- what may stand behind an option's name: no value, or one that is plain
abbrev pub is_plain_value : Option (List ℕ) → Bool
is_plain_value None = true
is_plain_value (Some value) = is_plain value

abbrev pub is_lawful_option : Option (List ℕ × Option (List ℕ)) → Bool
is_lawful_option None = false
is_lawful_option (Some option) = is_plain_value option.1

-- a word that is plain, or an option with a plain value or none
abbrev pub is_lawful : List ℕ → Bool
is_lawful word = is_plain word || is_lawful_option (option_in word)

abbrev pub are_lawful : List (List ℕ) → Bool
are_lawful [] = true
are_lawful (word ∷ words) = is_lawful word && are_lawful words
