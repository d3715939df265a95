-- What the answers of a sink mean.
use Rattle.std.specs.Prelude.{◌≡◌, ◌≤◌, ℕ, List, take, Option}
use Rattle.sig_base.specs.Counts.{Rose}
use Rattle.sig_outside.specs.Told.{Grew}
use Rattle.sig_outside.specs.declared.sink.Wrote.{Wrote}
use Rattle.sig_outside.specs.declared.sink.Wrote.TheVariants.{Done, Failed}

-- the piece is written whole, or a prefix of it
abbrev pub Writes : List ℕ → Wrote → Option (List ℕ) → Option (List ℕ) → Type 0
Writes piece Done old new = Grew old new piece
Writes piece Failed old new = (n : ℕ) × Grew old new (take n piece)

-- the count moves only with Failed
abbrev pub WriteCounts : Wrote → ℕ → ℕ → Type 0
WriteCounts Done before now = now ≡ before
WriteCounts Failed before now = (before ≤ now) × Rose before now
