use Rattle.std.proofs.Common.{◌≡◌, sym, ap}
use Rattle.transforms.proofs.ExpressionLaws.{not_read, read}
use Rattle.transforms.proofs.expressions.expression_of.Goals as goal

pub returns-in-Ok : goal.returns-in-Ok
returns-in-Ok c =
    read c.args.doc.now c.args.number c.args.part c.args.row c.args.text.now c.as_str.result.now c.in_ok-prefixes.prefixes c.as_str.ensures.bytes c.in_ok-prefixes.ensures c.in-Ok.expr c.in-Ok.ensures.exact

pub returns : goal.returns
returns c =
    rw c.syntax_cause.ensures
    (not_read c.args.doc.now c.args.number c.args.part c.args.row c.args.text.now c.as_str.result.now c.in_ok-prefixes.prefixes c.as_str.ensures.bytes c.in_ok-prefixes.ensures c.in-Err.cause c.in-Err.ensures.exact)
