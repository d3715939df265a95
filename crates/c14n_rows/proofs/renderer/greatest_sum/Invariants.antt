use Rattle.std.proofs.Common.{ℕ, ◌<◌, ◌≤◌}
use Rattle.c14n_rows.specs.Stacks.{upwards, total}
use Rattle.c14n_rows.specs.Code.Stacks.{counted_of, IsOpen}
use Rattle.c14n_rows.proofs.renderer.greatest_sum.Given as goal

abbrev pub invariant-loop-next : goal.invariant-loop-next
invariant-loop-next l = record {
  open_row : IsOpen l.doc (counted_of l.counted l.doc) l.opened l.next l.sum;
  most : (x : ℕ) → l.start ≤ x → x < l.next → total (counted_of l.counted l.doc) (upwards l.doc x) ≤ l.most;
}
