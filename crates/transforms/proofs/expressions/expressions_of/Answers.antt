use Rattle.std.proofs.Common.{◌≡◌, ◌∙◌, ◌+◌, ◌≤◌, ◌∷◌, [], List, length, length-append, length-drop, drop, sym, ap, arith}
use Rattle.std.proofs.lemmas.Option.{slice_get_within}
use Rattle.std.proofs.lemmas.Result.{err_from_is_err_and}
use Rattle.sig_base.proofs.ListLemmas.{drop-at, drop_none}
use Rattle.dsig_fields.specs.Fits.{FilterFits}
use Rattle.dsig_fields.specs.declared.fields.Filter.{Filter}
use Rattle.transforms.specs.Expressions.{expression_of, expressions_from}
use Rattle.transforms.proofs.ChainLaws.{all_at}
use Rattle.transforms.proofs.ExpressionLaws.{all_read, behind, none_yet, one_read, one_unread}
use Rattle.transforms.proofs.Stops.{refuses_on}
use Rattle.transforms.proofs.expressions.expressions_of.Goals as goal

pub loop-filter-preserved : goal.loop-filter-preserved
loop-filter-preserved c =
    let rows = c.args.doc.now in let fs = c.args.filters.now in let k = c.loop-filter.k in let f = c.in-Some.filter.now in
    let inside = slice_get_within fs k f (sym c.in-Some.ensures) in
    let front = c.loop-filter.expressions.items in
    record {
      within = omega arith;
      value =
          ap (λ l. behind l (expressions_from rows c.args.number (k + 1 + 1) (drop (k + 1) fs))) c.in_ok-push.ensures.items
          ∙ one_read rows c.args.number (k + 1) f (drop (k + 1) fs) front c.in_ok-expr.expr c.in_ok-expr.ensures
          ∙ ap (λ l. behind front (expressions_from rows c.args.number (k + 1) l)) (sym (drop-at fs k f c.in-Some.ensures))
          ∙ c.loop-filter.invariant.value;
      count = ap length c.in_ok-push.ensures.items ∙ omega (arith, length-append front ((f.kind, c.in_ok-expr.expr) ∷ []), c.loop-filter.invariant.count);
    }

pub loop-filter-init : goal.loop-filter-init
loop-filter-init c =
    record {
      within = omega arith;
      value = ap (λ l. behind l (expressions_from c.args.doc.now c.args.number 1 c.args.filters.now)) c.new-expressions.ensures.items
          ∙ none_yet (expressions_from c.args.doc.now c.args.number 1 c.args.filters.now);
      count = ap length c.new-expressions.ensures.items;
    }

pub loop-filter-smaller : goal.loop-filter-smaller
loop-filter-smaller c =
    let within = slice_get_within c.args.filters.now c.loop-filter.k c.in-Some.filter.now (sym c.in-Some.ensures) in
    omega arith

pub overflow_add-k : goal.overflow_add-k
overflow_add-k c =
    let within = slice_get_within c.args.filters.now c.loop-filter.k c.in-Some.filter.now (sym c.in-Some.ensures) in
    omega arith

pub expression_of-requires : goal.expression_of-requires
expression_of-requires c =
    (all_at (FilterFits c.args.doc.now) c.args.filters.now c.loop-filter.k c.in-Some.filter.now c.requires.fit c.in-Some.ensures).within

pub returns-in_err-expr-clause-expressions : goal.returns-in_err-expr-clause-expressions
returns-in_err-expr-clause-expressions c =
    let rows = c.args.doc.now in let n = c.args.number in let fs = c.args.filters.now in let k = c.loop-filter.k in let f = c.in-Some.filter.now in
    let front = c.loop-filter.expressions.items in
    let p = err_from_is_err_and c.from_residual.result c.from_residual.ensures.1 in
    rw (p.1, p.2)
    (refuses_on _ (expression_of rows n (k + 1) f.row f.text) (expressions_from rows n 1 fs)
    (λ e.
    sym c.loop-filter.invariant.value
    ∙ ap (λ l. behind front (expressions_from rows n (k + 1) l)) (drop-at fs k f c.in-Some.ensures)
    ∙ one_unread rows n (k + 1) f (drop (k + 1) fs) front _ e)
    c.in_err-expr.ensures)

pub returns-clause-expressions : goal.returns-clause-expressions
returns-clause-expressions c =
    let rows = c.args.doc.now in let n = c.args.number in let fs = c.args.filters.now in let k = c.loop-filter.k in
    let front = c.loop-filter.expressions.items in
    sym c.loop-filter.invariant.value
    ∙ ap (λ l. behind front (expressions_from rows n (k + 1) l)) (drop_none fs k c.in_default.ensures)
    ∙ all_read rows n (k + 1) front

pub returns-clause-count : goal.returns-clause-count
returns-clause-count c =
    let fs = c.args.filters.now in let k = c.loop-filter.k in
    let none : length (drop k fs) ≡ 0 = ap length (drop_none fs k c.in_default.ensures) in
    omega (arith, none, length-drop k fs, c.loop-filter.invariant.count, c.loop-filter.invariant.within)
