use Rattle.std.proofs.Common.{◌≡◌, drop}
use Rattle.xpath_eval.specs.Code.Context.{AreRows}
use Rattle.xpath_eval.specs.Functions.{bearing}
use Rattle.xpath_eval.proofs.Outcomes.{with_front}
use Rattle.xpath_eval.proofs.ids.bearing.Given as goal

abbrev pub invariant-loop-token : goal.invariant-loop-token
invariant-loop-token l = record {
  value : with_front l.ys (bearing l.doc (drop l.token-index l.tokens)) ≡ bearing l.doc l.tokens;
  rows : AreRows l.doc l.ys;
}
