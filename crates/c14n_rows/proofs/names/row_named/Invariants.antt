use Rattle.std.proofs.Common.{◌-◌}
use Rattle.c14n_rows.proofs.NameLemmas.{Halved}
use Rattle.c14n_rows.proofs.names.row_named.Given as goal

abbrev pub invariant-loop-low : goal.invariant-loop-low
invariant-loop-low l = Halved l.doc l.e l.until l.prefix l.low l.high

abbrev pub decreases-loop-low : goal.decreases-loop-low
decreases-loop-low l = l.high - l.low
