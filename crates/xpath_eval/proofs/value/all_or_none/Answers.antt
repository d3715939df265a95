use Rattle.std.proofs.Common.{ℕ, sym, ap, ◌∙◌}
use Rattle.std.specs.Prelude.{Ok}
use Rattle.std.proofs.lemmas.Result.{err_from_is_err_and}
use Rattle.xpath_eval.specs.Value.{truth_at}
use Rattle.xpath_eval.proofs.Selections.{all_selected, first_refused, no_row, none_selected, truth_alike}
use Rattle.xpath_eval.proofs.value.all_or_none.Goals.{then-is_true, else-is_true}
use Rattle.xpath_eval.proofs.value.all_or_none.Goals as goal

pub returns-in_err-is_true-in-Some-clause-value : goal.returns-in_err-is_true-in-Some-clause-value
returns-in_err-is_true-in-Some-clause-value c =
    let p = err_from_is_err_and c.from_residual.result c.from_residual.ensures.1 in
    rw (p.1, p.2) (first_refused (truth_at c.args.expr.now c.args.doc.now c.args.here) c.args.ys c.as_slice.result.now c.as_slice.ensures c.in-Some.y.now _ c.in-Some.ensures.value
    c.in_err-is_true-in-Some.ensures)

pub returns-after-is_true-clause-value : goal.returns-after-is_true-clause-value
returns-after-is_true-clause-value c =
    let rows = c.args.doc.now in
    let alike = λ (z : ℕ). truth_alike c.args.expr.now rows c.args.here c.in-Some.y.now z c.requires.unread ∙ c.in_ok-is_true-in-Some.ensures in
    elim c.if-is_true.branch [
      | then-is_true w ↦ all_selected (truth_at c.args.expr.now rows c.args.here) c.args.ys (λ z. alike z ∙ ap Ok w.if-is_true.true) ∙ ap Ok (sym w.result-is)
      | else-is_true w ↦ none_selected (truth_at c.args.expr.now rows c.args.here) c.args.ys (λ z. alike z ∙ ap Ok w.if-is_true.false) ∙ ap Ok (sym (w.result-is ∙ w.new.ensures))
    ]

pub returns-in-None-clause-value : goal.returns-in-None-clause-value
returns-in-None-clause-value c = no_row (truth_at c.args.expr.now c.args.doc.now c.args.here) c.args.ys c.as_slice.result.now c.as_slice.ensures c.in-None.ensures.value
