use Rattle.std.proofs.Common.{◌≡◌, ◌<◌, ◌≤◌, ◌+◌, ℕ, length, ap, ◌∙◌, arith}
use Rattle.c14n_rows.specs.Stacks.{total, upwards}
use Rattle.c14n_rows.specs.Code.Stacks.{counted_of, IsOpen}
use Rattle.c14n_rows.proofs.Chains.{parent_there}
use Rattle.c14n_rows.proofs.EntryLemmas.{open-at, open-enter, next_most_from}
use Rattle.c14n_rows.proofs.renderer.greatest_sum.Goals as goal

pub sum_above-requires : goal.sum_above-requires
sum_above-requires c =
    let ordered = c.requires.ordered in let within = c.requires.within in
    rw c.above-opened.ensures (parent_there c.args.doc.now c.rows-rows.ensures.shaped c.args.start (omega arith))

pub loop-next-init : goal.loop-next-init
loop-next-init c =
    let rows = c.args.doc.now in let w = c.rows-rows.ensures.shaped in let count = counted_of c.args.counted rows in
    let ordered = c.requires.ordered in let within = c.requires.within in
    let e = c.in_ok-above.ensures ∙ ap (λ (z : ℕ). total count (upwards rows z)) c.above-opened.ensures in
    record {
      open_row = rw c.above-opened.ensures (open-at rows w count c.args.start c.in_ok-above.above c.requires.behind_root (omega arith) e);
      most = λ (x : ℕ) (le : c.args.start ≤ x) (lt : x < c.args.start). absurd (omega arith);
    }

pub loop-next-preserved : goal.loop-next-preserved
loop-next-preserved c =
    let rows = c.args.doc.now in let w = c.rows-rows.ensures.shaped in let count = counted_of c.args.counted rows in let next = c.loop-next.next in
    let there : next < length rows = let lt = c.loop-next-test.true in let n = c.requires.within in omega arith in
    let sum = c.in_ok-sum.ensures in let n = c.in_ok-count.ensures in
    let stands : IsOpen rows count next (next + 1) (c.leave_ended.new.sum + count next) =
    open-enter rows w count c.leave_ended.new.opened next c.leave_ended.new.sum c.in_ok-leave_ended.ensures.is_open (c.in_ok-leave_ended.ensures.reaches there) there in
    let e : c.in_ok-sum.sum ≡ c.leave_ended.new.sum + count next = omega arith in
    let m = c.max-most.ensures in
    record {
      open_row = rw e stands;
      most = next_most_from rows w count c.args.start next c.leave_ended.new.sum (count next) c.max-most.result stands (omega arith) (λ (x : ℕ) (le : c.args.start ≤ x) (lt : x < next). let earlier = c.loop-next.invariant.most x le lt in omega arith);
    }

pub returns : goal.returns
returns c = record { room = λ (x : ℕ) (le : c.args.start ≤ x) (lt : x < c.args.until). c.loop-next.invariant.most x le (let t = c.loop-next-test.false in omega arith) }
