use Rattle.std.proofs.Common.{◌≤◌, take}
use Rattle.xpath_eval.specs.Order.{Ascends}
use Rattle.xpath_eval.proofs.nodes.end_of_ascent.Given as goal

abbrev pub invariant-loop-y : goal.invariant-loop-y
invariant-loop-y l = record {
  behind : l.low ≤ l.end;
  ascends : Ascends l.low l.end (take l.y-index l.ys);
}
