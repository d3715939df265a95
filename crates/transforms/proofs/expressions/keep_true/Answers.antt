use Rattle.std.proofs.Common.{◌≡◌, ap}
use Rattle.transforms.proofs.ExpressionLaws.{kept_true, not_kept}
use Rattle.transforms.proofs.expressions.keep_true.Goals as goal

pub returns-in-Ok-clause-members : goal.returns-in-Ok-clause-members
returns-in-Ok-clause-members c =
    kept_true c.args.own c.args.number c.args.row c.args.expr.now c.args.set.now c.filter_each.new.set c.here_in.result c.here_in.ensures c.in-Ok.ensures

pub returns-in-Ok-clause-rows : goal.returns-in-Ok-clause-rows
returns-in-Ok-clause-rows c = c.in-Ok.ensures.2.1

pub returns-in-Err-clause-members : goal.returns-in-Err-clause-members
returns-in-Err-clause-members c =
    rw c.eval_cause.ensures
    (not_kept c.args.own c.args.number c.args.row c.args.expr.now c.args.set.now c.filter_each.new.set c.here_in.result c.here_in.ensures c.in-Err.cause c.in-Err.ensures.0)

pub returns-in-Err-clause-rows : goal.returns-in-Err-clause-rows
returns-in-Err-clause-rows c = ap (λ s. s.rows) c.in-Err.ensures.1
