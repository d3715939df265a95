use Rattle.std.proofs.Common.{◌≡◌, ◌∙◌, ◌+◌, ◌<◌, ◌++◌, ◌∷◌, [], ℕ, suc, List, length, drop, get_or, None, map, sym, ap, subst, arith}
use Rattle.std.specs.List.{All}
use Rattle.std.proofs.lemmas.List.{drop_all, drop_more, map-append}
use Rattle.std.proofs.lemmas.List.Elements.{All-nil, All-push}
use Rattle.std.proofs.lemmas.Result.{err_from_is_err_and}
use Rattle.filter2.specs.Filters.{Filter}
use Rattle.filter2.specs.Selections.{filters_from}
use Rattle.filter2.specs.Code.Selections.{filter_of}
use Rattle.filter2.specs.declared.selections.Selected.{Selected}
use Rattle.filter2.proofs.SelectionLemmas.{at_place, behind, none_left, none_yet, one_evaluated, refused_as, refused_by}
use Rattle.filter2.proofs.selections.select_all.Goals as goal

pub loop-i-init : goal.loop-i-init
loop-i-init c =
    let rows = c.args.doc.now in
    let Over : List Selected → Type 0 = All (λ s. s.nodes.rows ≡ rows) in
    record {
      filters = ap (λ l. behind (map filter_of l) (filters_from rows 1 c.args.filters.now c.args.here.now)) c.new-selections.ensures.items ∙ none_yet (filters_from rows 1 c.args.filters.now c.args.here.now);
      rows = subst Over (sym c.new-selections.ensures.items) (All-nil (λ s. s.nodes.rows ≡ rows));
    }

pub select-requires : goal.select-requires
select-requires c = c.requires.here c.loop-i.i None (omega (arith, c.requires.paired, c.loop-i-test.true))

pub loop-i-preserved : goal.loop-i-preserved
loop-i-preserved c =
    let rows = c.args.doc.now in let fs = c.args.filters.now in let hs = c.args.here.now in let i = c.loop-i.i in
    let f = c.index-filters-i.result in let h = get_or hs i None in let s = c.in_ok-selection.selection in
    let lt : i < length fs = omega (arith, c.loop-i-test.true) in
    let front = map filter_of c.loop-i.selections.items in
    let cut = at_place fs i f lt c.index-filters-i.is in
    let heres = drop_more hs i None (omega (arith, lt, c.requires.paired)) in
    let pushed = c.in_ok-push.ensures.items in
    let Over : List Selected → Type 0 = All (λ s. s.nodes.rows ≡ rows) in
    record {
      filters =
          ap (λ l. behind (map filter_of l) (filters_from rows (i + 1 + 1) (drop (i + 1) fs) (drop (i + 1) hs))) pushed
          ∙ ap (λ l. behind l (filters_from rows (i + 1 + 1) (drop (i + 1) fs) (drop (i + 1) hs))) (map-append filter_of c.loop-i.selections.items (s ∷ []))
          ∙ one_evaluated rows (i + 1) f h (drop (i + 1) fs) (drop (i + 1) hs) front s c.in_ok-selection.ensures.filter
          ∙ sym (ap (λ l. behind front (filters_from rows (i + 1) l (drop i hs))) cut ∙ ap (λ l. behind front (filters_from rows (i + 1) (f ∷ drop (i + 1) fs) l)) heres)
          ∙ c.loop-i.invariant.filters;
      rows = subst Over (sym pushed) (All-push (λ s. s.nodes.rows ≡ rows) c.loop-i.selections.items s c.loop-i.invariant.rows c.in_ok-selection.ensures.rows);
    }

pub returns-in_err-selection-clause-filters : goal.returns-in_err-selection-clause-filters
returns-in_err-selection-clause-filters c =
    let rows = c.args.doc.now in let fs = c.args.filters.now in let hs = c.args.here.now in let i = c.loop-i.i in
    let f = c.index-filters-i.result in let h = get_or hs i None in
    let lt : i < length fs = omega (arith, c.loop-i-test.true) in
    let front = map filter_of c.loop-i.selections.items in
    let p = err_from_is_err_and c.from_residual.result c.from_residual.ensures.1 in
    rw (p.1, p.2)
    (refused_as _
    (sym (ap (λ l. behind front (filters_from rows (i + 1) l (drop i hs))) (at_place fs i f lt c.index-filters-i.is)
    ∙ ap (λ l. behind front (filters_from rows (i + 1) (f ∷ drop (i + 1) fs) l)) (drop_more hs i None (omega (arith, lt, c.requires.paired))))
    ∙ c.loop-i.invariant.filters)
    (refused_by rows (i + 1) f h (drop (i + 1) fs) (drop (i + 1) hs) front _ c.in_err-selection.ensures.filter))

pub returns-clause-filters : goal.returns-clause-filters
returns-clause-filters c =
    let rows = c.args.doc.now in let fs = c.args.filters.now in let i = c.loop-i.i in
    let front = map filter_of c.loop-i.selections.items in
    sym c.loop-i.invariant.filters
    ∙ ap (λ l. behind front (filters_from rows (i + 1) l (drop i c.args.here.now))) (drop_all i fs (omega (arith, c.loop-i-test.false)))
    ∙ none_left rows (i + 1) (drop i c.args.here.now) front
