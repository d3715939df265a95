-- Going upwards, as it is written at the front of a relative path.
use Rattle.std.specs.Prelude.{◌≡◌, ℕ, zero, suc, false, List, [], ◌++◌, codes}
use Rattle.c14n_bases.specs.Join.{begins, clean, is_absolute, is_empty}

-- so many `../`
abbrev pub climbs : ℕ → List ℕ
climbs zero = []
climbs (suc n) = codes "../" ++ climbs n

-- cleaned, the relative path is so many `../`, and this behind them
pub record Climbs (path : List ℕ) (ups : ℕ) (rest : List ℕ) : Type 0 where
  pub some : is_empty path ≡ false
  pub relative : is_absolute path ≡ false
  pub cleaned : clean path ≡ climbs ups ++ rest
  pub all : begins (codes "../") rest ≡ false
