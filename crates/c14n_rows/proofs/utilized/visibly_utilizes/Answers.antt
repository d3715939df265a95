use Rattle.std.proofs.Common.{◌||◌, Bool, false, List, ℕ, ap, ◌∙◌, arith}
use Rattle.std.specs.Str.{bytes_eq}
use Rattle.xml_doc.specs.Shape.{row_at}
use Rattle.xml_doc.specs.Fields.{attribute_rows}
use Rattle.node_sets.specs.View.{in_view}
use Rattle.c14n_rows.specs.Code.Utilized.{is_utilized}
use Rattle.c14n_rows.proofs.UtilizedLemmas.{mark_there}
use Rattle.c14n_rows.proofs.utilized.visibly_utilizes.Goals as goal

pub overflow_sub-result : goal.overflow_sub-result
overflow_sub-result c =
    let rows = c.args.doc.now in
    let there = mark_there rows c.rows-rows.ensures.shaped (in_view c.args.set) c.args.marks.now c.args.e c.args.y (attribute_rows rows c.args.e) c.requires.here c.requires.row c.requires.namespace c.requires.marked in
    let above = there.0 in omega arith

pub overflow_sub-result-else-eq : goal.overflow_sub-result-else-eq
overflow_sub-result-else-eq c =
    let rows = c.args.doc.now in
    let there = mark_there rows c.rows-rows.ensures.shaped (in_view c.args.set) c.args.marks.now c.args.e c.args.y (attribute_rows rows c.args.e) c.requires.here c.requires.row c.requires.namespace c.requires.marked in
    let above = there.0 in omega arith

pub bounds-marks-y : goal.bounds-marks-y
bounds-marks-y c =
    let rows = c.args.doc.now in
    let there = mark_there rows c.rows-rows.ensures.shaped (in_view c.args.set) c.args.marks.now c.args.e c.args.y (attribute_rows rows c.args.e) c.requires.here c.requires.row c.requires.namespace c.requires.marked in
    there.1

pub returns-else-eq : goal.returns-else-eq
returns-else-eq c =
    let rows = c.args.doc.now in let set = in_view c.args.set in let e = c.args.e in
    let there = mark_there rows c.rows-rows.ensures.shaped set c.args.marks.now e c.args.y (attribute_rows rows e) c.requires.here c.requires.row c.requires.namespace c.requires.marked in
    let differs = c.if-eq.ensures ∙ ap (λ (p : List ℕ). bytes_eq p c.local_name.result.now) c.prefix_text.ensures ∙ ap (bytes_eq (row_at rows e).prefix_text) c.local_name.ensures in
    there.2 false ∙ ap (λ (t : Bool). t || is_utilized rows set (attribute_rows rows e) c.args.y) differs
