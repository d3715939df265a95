use Rattle.std.specs.Prelude.{ℕ, ◌-◌, List, [], ◌∷◌}
use Rattle.xml_syntax.specs.Characters.{Placed, mark}

-- characters
abbrev pub moved : (ℕ → ℕ) → List Placed → List Placed
moved f [] = []
moved f (x ∷ xs) = mark x.code (f x.at) ∷ moved f xs
