use Rattle.std.proofs.Common.{◌≡◌, ◌<◌, ◌≤◌}
use Rattle.c14n_text.specs.Rows.{parent_of}
use Rattle.c14n_text.specs.Code.Rows.{last_of}
use Rattle.c14n_rows.proofs.stacks.child_towards.Given as goal

abbrev pub invariant-loop-up : goal.invariant-loop-up
invariant-loop-up l = record {
  behind : l.top < l.y;
  before : l.y ≤ l.x;
  within : l.x ≤ last_of l.doc l.y;
  parent : l.up ≡ parent_of l.doc l.y;
}

abbrev pub decreases-loop-up : goal.decreases-loop-up
decreases-loop-up l = l.y
