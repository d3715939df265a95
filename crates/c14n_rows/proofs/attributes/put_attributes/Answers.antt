use Rattle.std.proofs.Common.{ℕ, Bool, cond, length, ◌++◌, ap, sym, ◌∙◌, arith}
use Rattle.std.specs.List.{filter, flat_map}
use Rattle.xml_doc.specs.Fields.{attribute_rows}
use Rattle.node_sets.specs.View.{in_view}
use Rattle.c14n_text.specs.Attributes.{imported, in_order}
use Rattle.c14n_text.specs.Bases.{base_place, is_own, row_attribute, written_attributes}
use Rattle.c14n_rows.specs.Code.Joined.{base_of}
use Rattle.c14n_rows.specs.Rules.{rule_of}
use Rattle.c14n_rows.proofs.ImportLemmas.{attributes_room}
use Rattle.c14n_rows.proofs.StacksLemmas.{keeps_ordered-all}
use Rattle.c14n_rows.proofs.attributes.put_attributes.Goals as goal

pub put_in_order-requires-clause-room : goal.put_in_order-requires-clause-room
put_in_order-requires-clause-room g c =
    let n = attributes_room c.args.doc.now c.rows-rows.ensures.shaped (in_view c.args.set) (rule_of c.args.method) c.args.x c.requires.here (c.writes_others.ensures.others c.if-writes_others.true) (base_of c.args.base) c.requires.base _ c.requires.ordered.attributes in
    let m = ap (length {A = ℕ}) c.requires.stacks.xml_are in
    omega arith

pub put_in_order-requires-clause-spare : goal.put_in_order-requires-clause-spare
put_in_order-requires-clause-spare g c =
    let n = attributes_room c.args.doc.now c.rows-rows.ensures.shaped (in_view c.args.set) (rule_of c.args.method) c.args.x c.requires.here (c.writes_others.ensures.others c.if-writes_others.true) (base_of c.args.base) c.requires.base _ c.requires.ordered.spare in
    let m = ap (length {A = ℕ}) c.requires.stacks.xml_are in
    omega arith

pub returns-then-writes_others-clause-puts : goal.returns-then-writes_others-clause-puts
returns-then-writes_others-clause-puts g c =
    let rows = c.args.doc.now in let set = in_view c.args.set in let rule = rule_of c.args.method in let x = c.args.x in let base = base_of c.args.base in
    let e =
    ap (λ j. flat_map (row_attribute rows j) (written_attributes rows set rule j x)) (sym c.requires.base)
    ∙ ap (λ (b : Bool). flat_map (row_attribute rows base) (cond b (in_order rows (filter (is_own rows set base) (attribute_rows rows x) ++ imported rows rule x ++ base_place base)) (filter set (attribute_rows rows x))))
    (c.writes_others.ensures.others c.if-writes_others.true) in
    rw e c.put_in_order.ensures.puts

pub returns-else-writes_others-clause-puts : goal.returns-else-writes_others-clause-puts
returns-else-writes_others-clause-puts g c =
    let rows = c.args.doc.now in let set = in_view c.args.set in let rule = rule_of c.args.method in let x = c.args.x in let base = base_of c.args.base in
    let e =
    ap (λ j. flat_map (row_attribute rows j) (written_attributes rows set rule j x)) (sym c.requires.base)
    ∙ ap (flat_map (row_attribute rows base)) (c.writes_others.ensures.own c.if-writes_others.false)
    ∙ ap (λ ys. flat_map (row_attribute rows base) (filter set ys)) c.own_rows-own.ensures.attributes in
    rw e c.put_rows_in_set.ensures

pub returns-else-writes_others-clause-kept : goal.returns-else-writes_others-clause-kept
returns-else-writes_others-clause-kept g c = keeps_ordered-all c.args.ordered.now
