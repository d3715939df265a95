use Rattle.std.proofs.Common.{◌≡◌, ◌∙◌, ◌<◌, ℕ, List, Option, length, map, nat_lt, sym, ap, subst}
use Rattle.std.specs.Prelude.{IfSome}
use Rattle.std.specs.List.{All}
use Rattle.xml_doc.specs.Rows.{RowOf}
use Rattle.filter2.specs.Filters.{filtered_from}
use Rattle.filter2.specs.Selections.{filters_from}
use Rattle.filter2.specs.Code.Selections.{filter_of}
use Rattle.filter2.specs.declared.selections.Selected.{Selected}
use Rattle.filter2.proofs.SelectionLemmas.{applied, refused_as, refused_then}
use Rattle.filter2.proofs.transform.apply.Goals as goal

pub select_all-requires-clause-here : goal.select_all-requires-clause-here
select_all-requires-clause-here c =
    let P : List RowOf → Type 0 = λ rs. All (λ h. IfSome h (λ x. x < length rs)) c.args.here.now in
    subst P (sym c.doc-doc.ensures) c.requires.here

pub filter_all-requires : goal.filter_all-requires
filter_all-requires c =
    let P : List Selected → Type 0 = All (λ f. f.nodes.rows ≡ c.doc-doc.result.now) in
    subst P (sym c.deref.ensures.value) c.in_ok-selections.ensures.rows

pub returns : goal.returns
returns c =
    let same = c.doc-doc.ensures in let fs = c.args.filters.now in let hs = c.args.here.now in let set = c.args.set.now in
    let selected = c.in_ok-selections.selections.items in (
      applied set.rows (map filter_of selected) (filters_from set.rows 1 fs hs) set c.in_ok-kept.kept c.intersect_with.new.self
          (ap (λ (rs : List RowOf). filters_from rs 1 fs hs) (sym same) ∙ c.in_ok-selections.ensures.filters)
          (λ (k : ℕ). c.in_ok-kept.ensures.members k
          ∙ ap (λ (l : List Selected). filtered_from (map filter_of l) (λ y. nat_lt y (length c.doc-doc.result.now)) k) c.deref.ensures.value
          ∙ ap (λ (rs : List RowOf). filtered_from (map filter_of selected) (λ y. nat_lt y (length rs)) k) same)
          c.intersect_with.ensures,
      c.intersect_with.ensures.rows,
    )
