use Rattle.std.specs.Prelude.{◌≡◌, ℕ, false, List, [], ◌∷◌, ◌==◌}
use Rattle.xml_syntax.specs.Characters.{Placed}

-- the last character, if there is one, isn't this one
abbrev pub EndsWithout : ℕ → List Placed → Type 0
EndsWithout c [] = Unit {0}
EndsWithout c (x ∷ []) = (x.code == c) ≡ false
EndsWithout c (x ∷ (y ∷ xs)) = EndsWithout c (y ∷ xs)
