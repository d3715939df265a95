use Rattle.std.proofs.Common.{◌≡◌, ◌<◌, ◌+◌, length}
use Rattle.c14n_rows.specs.Stacks.{total, upwards}
use Rattle.c14n_rows.specs.Code.Stacks.{counted_of}
use Rattle.c14n_rows.proofs.renderer.sum_above.Given as goal

abbrev pub invariant-loop-up : goal.invariant-loop-up
invariant-loop-up l = record {
  here : l.up < length l.doc;
  rest : l.sum + total (counted_of l.counted l.doc) (upwards l.doc l.up) ≡ total (counted_of l.counted l.doc) (upwards l.doc l.x);
}

abbrev pub decreases-loop-up : goal.decreases-loop-up
decreases-loop-up l = l.up
