use Rattle.std.proofs.Common.{sym}
use Rattle.xpath_eval.proofs.Limits.{first_enough}
use Rattle.xpath_eval.proofs.enough.enough.Goals as goal

pub returns-in-Some : goal.returns-in-Some
returns-in-Some c = first_enough c.enough_for.result c.args.all c.args.predicates.now c.as_slice.result.now c.in-Some.first.now c.as_slice.ensures c.in-Some.ensures.value c.enough_for.ensures
