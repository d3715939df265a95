use Rattle.std.proofs.Common.{◌≡◌, drop}
use Rattle.xpath_eval.specs.Code.Context.{AreRows}
use Rattle.xpath_eval.specs.Value.{selected, truth_at}
use Rattle.xpath_eval.proofs.Outcomes.{with_front}
use Rattle.xpath_eval.proofs.value.selected.Given as goal

abbrev pub invariant-loop-y : goal.invariant-loop-y
invariant-loop-y l = record {
  value : with_front l.kept (selected (truth_at l.expr l.doc l.here) (drop l.y-index l.ys)) ≡ selected (truth_at l.expr l.doc l.here) l.ys;
  rows : AreRows l.doc l.kept;
}
