use Rattle.std.proofs.Common.{◌-◌}
use Rattle.c14n_rows.proofs.OrderLemmas.{Between}
use Rattle.c14n_rows.proofs.imports.first_behind.Given as goal

abbrev pub invariant-loop-low : goal.invariant-loop-low
invariant-loop-low l = Between l.doc l.from l.until l.last l.low l.high

abbrev pub decreases-loop-low : goal.decreases-loop-low
decreases-loop-low l = l.high - l.low
