use Rattle.std.proofs.Common.{arith}
use Rattle.c14n_rows.proofs.BaseLemmas.{weights-more, weights-end}
use Rattle.c14n_rows.proofs.renderer.count_values.Goals as goal

pub loop-a-preserved : goal.loop-a-preserved
loop-a-preserved c =
    let more = weights-more c.args.doc.now c.loop-a.a c.args.until c.loop-a-test.true in
    let sum = c.in_ok-count.ensures in let one = c.in_ok-weight.ensures in let so_far = c.loop-a.invariant in
    omega arith

pub returns : goal.returns
returns c =
    let none = weights-end c.args.doc.now c.loop-a.a c.args.until c.loop-a-test.false in let so_far = c.loop-a.invariant in
    omega arith
