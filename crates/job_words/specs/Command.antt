-- A command as clap sees it: its options, and one positional argument.
use Rattle.std.specs.Prelude.{slice_get}
use Rattle.clap.specs.Walk.{Row}
use Rattle.job_words.specs.Given.{Given}

-- what a row of the matches gives
abbrev pub shown : Row → Given
shown row = (row.id, slice_get row.values 0)
