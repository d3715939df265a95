-- The names of a path.
use Rattle.std.specs.Prelude.{◌≡◌, ℕ, false, List}
use Rattle.c14n_bases.specs.Join.{is_same, is_up}
use Rattle.c14n_bases.specs.Code.Kept.{IsSegment}

-- a segment that leads elsewhere, and not upwards
pub record IsName (s : List ℕ) : Type 0 where
  pub segment : IsSegment s
  pub no_same : is_same s ≡ false
  pub no_up : is_up s ≡ false
