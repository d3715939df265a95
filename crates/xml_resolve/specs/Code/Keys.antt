use Rattle.std.specs.Prelude.{ℕ, List}
use denote.Ref.{Bor}
use Rattle.xml_resolve.specs.Keys.{key_of}

-- an attribute in order: its name, and its prefix and value
abbrev pub attribute_of : (Bor (List ℕ) × Bor (List ℕ)) × (Bor (List ℕ) × Bor (List ℕ)) → (List ℕ × List ℕ) × (List ℕ × List ℕ)
attribute_of x = (key_of x.0, key_of x.1)
