use Rattle.std.proofs.Common.{ℕ, ap, arith}
use Rattle.c14n_rows.specs.Stacks.{total, upwards}
use Rattle.c14n_rows.specs.Code.Stacks.{counted_of}
use Rattle.c14n_rows.proofs.Chains.{parent_there, parent_before}
use Rattle.c14n_rows.proofs.EntryLemmas.{total-more, total-root}
use Rattle.c14n_rows.proofs.renderer.sum_above.Goals as goal

pub loop-up-init : goal.loop-up-init
loop-up-init c = record { here = c.requires; rest = omega arith }

pub loop-up-preserved : goal.loop-up-preserved
loop-up-preserved c =
    let rows = c.args.doc.now in let w = c.rows-rows.ensures.shaped in let count = counted_of c.args.counted rows in let up = c.loop-up.up in
    let all = total-more rows w count up c.loop-up-test.true c.loop-up.invariant.here in
    let sum = c.in_ok-sum.ensures in let n = c.in_ok-count.ensures in let rest = c.loop-up.invariant.rest in
    rw c.above-up.ensures (record {
      here = parent_there rows w up c.loop-up.invariant.here;
      rest = omega arith;
    })

pub loop-up-smaller : goal.loop-up-smaller
loop-up-smaller c = rw c.above-up.ensures (parent_before c.args.doc.now c.rows-rows.ensures.shaped c.loop-up.up c.loop-up-test.true c.loop-up.invariant.here)

pub returns : goal.returns
returns c =
    let rows = c.args.doc.now in let count = counted_of c.args.counted rows in
    let root = c.loop-up-test.false in
    let e = ap (λ (z : ℕ). total count (upwards rows z)) root in
    let none = total-root rows c.rows-rows.ensures.shaped count in let rest = c.loop-up.invariant.rest in
    omega arith
