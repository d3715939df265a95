-- What a contract sees of bases that are prepared, and of a value that is joined below one of them after another.
use Rattle.std.specs.Prelude.{ℕ, Bool, ◌+◌, List, [], ◌∷◌, length}
use Rattle.std.specs.List.{slice_index_or}

-- the bases, the outermost first; and how many there can be, and of how many octets
pub record PreparedBases : Type 0 where
  pub bases : List (List ℕ)
  pub count : ℕ
  pub room : ℕ

-- the base at a place
abbrev pub base_at : List (List ℕ) → ℕ → List ℕ
base_at bases k = slice_index_or bases k []

-- how many octets preparing takes at most: for each base its own, and four
abbrev pub weights : List (List ℕ) → ℕ
weights [] = 0
weights (base ∷ more) = length base + 4 + weights more

-- a value: its octets, and how many it can have. It is settled where the octets stand in one piece
pub record JoinedValue : Type 0 where
  pub value : List ℕ
  pub room : ℕ
  pub settled : Bool
