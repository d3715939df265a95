use Rattle.std.proofs.Common.{◌≡◌, ◌∙◌, sym, ap, List, Result, Err}
use Rattle.std.proofs.lemmas.Result.{err_from_is_err_and}
use Rattle.sig_base.specs.Outcomes.{and_then}
use Rattle.sig_base.specs.declared.method.FilterKind.{FilterKind}
use Rattle.xpath_syntax.specs.declared.expr.Expr.{Expr}
use Rattle.transforms.specs.Code.Answers.{nodes_of}
use Rattle.transforms.specs.Expressions.{expressions_from, filters_applied, nodes_filtered}
use Rattle.transforms.specs.declared.refusal.RefRefusal.{RefRefusal}
use Rattle.transforms.proofs.ExpressionLaws.{alters_as}
use Rattle.transforms.proofs.Stops.{refuses_on}
use Rattle.transforms.proofs.expressions.apply_filters.Goals as goal

pub returns-in_err-expressions-clause-members : goal.returns-in_err-expressions-clause-members
returns-in_err-expressions-clause-members c =
    let rows = c.args.doc.now in let n = c.args.number in let filters = c.args.filters.now in let nodes = nodes_of c.args.own c.args.set.now in
    let p = err_from_is_err_and c.from_residual.result c.from_residual.ensures.1 in
    rw (p.1, p.2)
    (refuses_on _ (expressions_from rows n 1 filters) (nodes_filtered rows n filters nodes)
    (λ e. ap (λ (r : Result (List (FilterKind × Expr)) RefRefusal). and_then r (filters_applied n filters nodes)) e) c.in_err-expressions.ensures.expressions)

pub returns-clause-members : goal.returns-clause-members
returns-clause-members c =
    let n = c.args.number in let filters = c.args.filters.now in let nodes = nodes_of c.args.own c.args.set.now in
    alters_as c.args.own c.keep_filtered.result c.keep_filtered.new.set _ _
    (sym (ap (λ (r : Result (List (FilterKind × Expr)) RefRefusal). and_then r (filters_applied n filters nodes)) c.in_ok-expressions.ensures.expressions)
    ) (rw c.deref.ensures.value at c.keep_filtered.ensures.members)
