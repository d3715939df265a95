use Rattle.std.specs.Prelude.{ℕ, Bool, false, ◌&&◌, List, [], ◌∷◌}
use Rattle.std.specs.List.{list_all}
use Rattle.xml_names.specs.Characters.{Range, one, span, in_some}

-- the ASCII characters with which an NCName begins, and those with which it goes on
abbrev pub ascii_starts : List Range
ascii_starts = span 65 90 ∷ one 95 ∷ span 97 122 ∷ []

abbrev pub ascii_parts : List Range
ascii_parts = span 65 90 ∷ one 95 ∷ span 97 122 ∷ one 45 ∷ one 46 ∷ span 48 57 ∷ []

-- an NCName of ASCII characters, of which each is one octet
abbrev pub is_ascii_ncname : List ℕ → Bool
is_ascii_ncname [] = false
is_ascii_ncname (c ∷ cs) = in_some ascii_starts c && list_all (in_some ascii_parts) cs
