-- What a key line spells
use Rattle.std.specs.Prelude.{ℕ, List}

-- the number of the line, counted from 1, the name and the octets of the key
pub record KeyEntry : Type 0 where
  pub line : ℕ
  pub name : List ℕ
  pub octets : List ℕ
