use Rattle.c14n_rows.specs.Code.Stacks.{IsOpen, counted_of}
use Rattle.c14n_rows.proofs.renderer.leave_ended.Given as goal

abbrev pub invariant-loop-opened : goal.invariant-loop-opened
invariant-loop-opened l = IsOpen l.doc (counted_of l.counted l.doc) l.opened l.next l.sum

abbrev pub decreases-loop-opened : goal.decreases-loop-opened
decreases-loop-opened l = l.opened
