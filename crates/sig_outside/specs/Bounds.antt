-- A keeper that holds views up to so many octets together.
use Rattle.std.specs.Prelude.{ℕ, List, length, map, sum}

-- the octets of the views together, not of their names
abbrev pub octets_of : List (List ℕ × List ℕ) → ℕ
octets_of pairs = sum (map (λ pair. length pair.1) pairs)

-- the keeper: its pairs, how many octets their views may have together, how many calls failed
pub record BoundState : Type 0 where
  pub pairs : List (List ℕ × List ℕ)
  pub cap : ℕ
  pub faults : ℕ
