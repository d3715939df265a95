use Rattle.std.proofs.Common.{◌≡◌, ◌≤◌}
use Rattle.c14n_rows.proofs.nearest.forget.Given as goal

abbrev pub invariant-loop-nearest : goal.invariant-loop-nearest
invariant-loop-nearest l = record {
  fewer : l.nearest.used ≤ l.initial.nearest.used;
  rows : l.nearest.rows.items ≡ l.initial.nearest.rows.items;
  parts : l.nearest.parts.items ≡ l.initial.nearest.parts.items;
}

abbrev pub decreases-loop-nearest : goal.decreases-loop-nearest
decreases-loop-nearest l = l.nearest.used
