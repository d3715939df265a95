use Rattle.std.proofs.Common.{◌≡◌, ◌∙◌, sym, ap, Result, Err}
use Rattle.std.proofs.lemmas.Result.{err_from_is_err_and}
use Rattle.xpath_syntax.specs.declared.expr.Expr.{Expr}
use Rattle.sig_base.specs.Outcomes.{and_then}
use Rattle.transforms.specs.Code.Answers.{nodes_of}
use Rattle.transforms.specs.Expressions.{expression_of, true_nodes, xpath_filtered}
use Rattle.transforms.specs.declared.refusal.RefRefusal.{RefRefusal}
use Rattle.transforms.proofs.ExpressionLaws.{alters_as}
use Rattle.transforms.proofs.Stops.{refuses_on}
use Rattle.transforms.proofs.expressions.filter_by.Goals as goal

pub returns-in_err-expr-clause-members : goal.returns-in_err-expr-clause-members
returns-in_err-expr-clause-members c =
    let rows = c.args.doc.now in let n = c.args.number in let nodes = nodes_of c.args.own c.args.set.now in
    let f = true_nodes n c.args.row nodes in
    let p = err_from_is_err_and c.from_residual.result c.from_residual.ensures.1 in
    rw (p.1, p.2)
    (refuses_on _ (expression_of rows n 1 c.args.row c.args.text.now) (xpath_filtered rows n c.args.row c.args.text.now nodes)
    (λ e. ap (λ (r : Result Expr RefRefusal). and_then r f) e) c.in_err-expr.ensures)

pub returns-clause-members : goal.returns-clause-members
returns-clause-members c =
    let f = true_nodes c.args.number c.args.row (nodes_of c.args.own c.args.set.now) in
    alters_as c.args.own c.keep_true.result c.keep_true.new.set _ _
    (sym (ap (λ (r : Result Expr RefRefusal). and_then r f) c.in_ok-expr.ensures)) c.keep_true.ensures.members
