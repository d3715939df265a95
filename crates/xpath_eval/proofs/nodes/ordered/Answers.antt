use Rattle.std.proofs.Common.{◌≡◌, List, ℕ, sym, subst, ◌∙◌}
use Rattle.xml_doc.specs.Rows.{RowOf}
use Rattle.node_sets.specs.Members.{has}
use Rattle.xpath_eval.specs.Order.{Ascends}
use Rattle.xpath_eval.specs.Code.Context.{AreRows}
use Rattle.xpath_eval.proofs.Orders.{ordered_is, ordered_reverse, rows_reversed, set_ordered}
use Rattle.xpath_eval.proofs.Turns.{ok_same}
use Rattle.xpath_eval.proofs.nodes.ordered.Goals as goal

pub returns-in-Some-clause-value : goal.returns-in-Some-clause-value
returns-in-Some-clause-value c =
    let Up : List ℕ → Type 0 = Ascends 0 c.in-Some._end in
    ordered_is c.args.doc.now c.args.ys c.in-Some._end (subst Up c.as_slice.ensures c.in-Some.ensures.ascends) c.requires

pub returns-in-Some-end_of_ascent-clause-value : goal.returns-in-Some-end_of_ascent-clause-value
returns-in-Some-end_of_ascent-clause-value c =
    let Up : List ℕ → Type 0 = Ascends 0 c.in-Some-end_of_ascent._end in
    ordered_reverse c.args.doc.now c.args.ys c.in_ok-zs.zs c.in-Some-end_of_ascent._end c.in_ok-zs.ensures (subst Up c.as_slice-2.ensures c.in-Some-end_of_ascent.ensures.ascends) c.requires

pub returns-in-Some-end_of_ascent-clause-rows : goal.returns-in-Some-end_of_ascent-clause-rows
returns-in-Some-end_of_ascent-clause-rows c = rows_reversed c.args.doc.now c.args.ys c.in_ok-zs.zs c.in_ok-zs.ensures c.requires

pub insert_all-requires : goal.insert_all-requires
insert_all-requires c =
    let Within : List ℕ → Type 0 = AreRows c.args.doc.now in
    let Over : List RowOf → Type 0 = λ r. AreRows r c.as_slice-3.result.now in
    subst Over (sym c.in_ok-set.ensures.document) (subst Within (sym c.as_slice-3.ensures) (rows_reversed c.args.doc.now c.args.ys c.in_ok-zs.zs c.in_ok-zs.ensures c.requires))

pub returns-clause-value : goal.returns-clause-value
returns-clause-value c =
    ok_same c.rows_of.result _ _
    (set_ordered c.args.doc.now c.insert_all.new.set.rows (has c.insert_all.new.set.members) (has c.in_ok-set.set.members) c.args.ys c.as_slice-3.result.now
    (c.as_slice-3.ensures ∙ c.in_ok-zs.ensures) c.insert_all.ensures.members c.in_ok-set.ensures.members (c.insert_all.ensures.rows ∙ c.in_ok-set.ensures.document))
    c.rows_of.ensures.value
