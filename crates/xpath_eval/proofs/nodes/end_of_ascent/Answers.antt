use Rattle.std.proofs.Common.{◌+◌, refl, arith}
use Rattle.xpath_eval.proofs.Orders.{ascends_turn}
use Rattle.xpath_eval.proofs.nodes.end_of_ascent.Goals as goal

pub loop-y-preserved : goal.loop-y-preserved
loop-y-preserved c =
    record {
      behind = omega (arith, c.loop-y.invariant.behind, c.if-row-end.false);
      ascends = ascends_turn c.args.low c.loop-y.end c.args.ys.now c.loop-y.y-index c.from-row.result _ (omega (arith, c.loop-y-test.true)) c.from-row.ensures
          c.loop-y.invariant.behind (omega (arith, c.if-row-end.false)) c.loop-y.invariant.ascends refl;
    }
