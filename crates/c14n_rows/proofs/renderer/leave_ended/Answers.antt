use Rattle.std.proofs.Common.{◌<◌, ◌≤◌, ◌-◌, ℕ, ap, arith, inl, inr}
use Rattle.c14n_text.specs.Code.Rows.{last_of}
use Rattle.c14n_rows.specs.Code.Stacks.{counted_of}
use Rattle.c14n_rows.proofs.Chains.{parent_before}
use Rattle.c14n_rows.proofs.EntryLemmas.{enough, open-leave, open-parent}
use Rattle.c14n_rows.proofs.renderer.leave_ended.Goals as goal

pub overflow_sub-sum : goal.overflow_sub-sum
overflow_sub-sum c =
    let n = enough c.args.doc.now c.rows-rows.ensures.shaped (counted_of c.args.counted c.args.doc.now) c.loop-opened.opened c.args.next c.loop-opened.sum c.loop-opened.invariant c.loop-opened-test.true in
    let v = c.in_ok-count.ensures in
    omega arith

pub loop-opened-smaller : goal.loop-opened-smaller
loop-opened-smaller c = rw c.above.ensures (parent_before c.args.doc.now c.rows-rows.ensures.shaped c.loop-opened.opened c.loop-opened-test.true c.loop-opened.invariant.there)

pub loop-opened-preserved : goal.loop-opened-preserved
loop-opened-preserved c =
    let rows = c.args.doc.now in
    let passed : last_of rows c.loop-opened.opened < c.args.next = omega (arith, c.if-last-next.true, c.last.ensures) in
    rw c.above.ensures (open-leave rows c.rows-rows.ensures.shaped (counted_of c.args.counted rows) c.loop-opened.opened c.args.next c.loop-opened.sum _ c.loop-opened.invariant c.loop-opened-test.true passed (ap (λ (n : ℕ). c.loop-opened.sum - n) c.in_ok-count.ensures))

pub returns-else-last-next-clause-reaches : goal.returns-else-last-next-clause-reaches
returns-else-last-next-clause-reaches c =
    let rows = c.args.doc.now in
    let reaches : c.args.next ≤ last_of rows c.loop-opened.opened = omega (arith, c.if-last-next.false, c.last.ensures) in
    open-parent rows c.rows-rows.ensures.shaped (counted_of c.args.counted rows) c.loop-opened.opened c.args.next c.loop-opened.sum c.loop-opened.invariant (inr reaches)

pub returns-after-loop-opened-clause-reaches : goal.returns-after-loop-opened-clause-reaches
returns-after-loop-opened-clause-reaches c =
    open-parent c.args.doc.now c.rows-rows.ensures.shaped (counted_of c.args.counted c.args.doc.now) c.loop-opened.opened c.args.next c.loop-opened.sum c.loop-opened.invariant (inl c.loop-opened-test.false)
