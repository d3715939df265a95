use Rattle.std.proofs.Common.{ℕ, ◌+◌, ◌<◌, List, length, refl, ap, sym, ◌∙◌, arith}
use Rattle.std.specs.List.{list_any}
use Rattle.xml_doc.specs.Fields.{namespace_rows}
use Rattle.node_sets.specs.View.{in_view}
use Rattle.c14n_text.specs.Rows.{parent_of}
use Rattle.c14n_rows.specs.Rules.{rule_of}
use Rattle.c14n_rows.specs.Code.Stacks.{is_of, rendered}
use Rattle.c14n_rows.proofs.Chains.{parent_there}
use Rattle.c14n_rows.proofs.StackLemmas.{parent_element, when_empty, when_some}
use Rattle.c14n_rows.proofs.FrameLemmas.{frame_rows, slot_there, slot_none}
use Rattle.c14n_rows.proofs.stacks.rendered_above.Goals as goal

pub overflow_add-until : goal.overflow_add-until
overflow_add-until c =
    let there = parent_there c.args.doc.now c.rows-rows.ensures.shaped c.args.x c.requires.here in let up = c.above-top.ensures in let count = c.rows-rows.ensures.count in
    omega arith

pub overflow_cast-until : goal.overflow_cast-until
overflow_cast-until c =
    let rows = c.args.doc.now in let w = c.rows-rows.ensures.shaped in let x = c.args.x in let set = in_view c.args.set in let rule = rule_of c.args.method in let top = parent_of rows x in
    let there = parent_there rows w x c.requires.here in
    let range = frame_rows rows w set rule top there c.args.frame.slots.now c.requires.frame.slots_are (top + 1 + length c.args.frame.slots.now) refl in
    let within = range.0 in let up = c.above-top.ensures in let count = c.rows-rows.ensures.count in
    omega arith

pub overflow_add-until-2 : goal.overflow_add-until-2
overflow_add-until-2 c =
    let rows = c.args.doc.now in let w = c.rows-rows.ensures.shaped in let x = c.args.x in let set = in_view c.args.set in let rule = rule_of c.args.method in let top = parent_of rows x in
    let there = parent_there rows w x c.requires.here in
    let range = frame_rows rows w set rule top there c.args.frame.slots.now c.requires.frame.slots_are (top + 1 + length c.args.frame.slots.now) refl in
    let within = range.0 in let up = c.above-top.ensures in let count = c.rows-rows.ensures.count in
    omega arith

pub row_named-requires-clause-within : goal.row_named-requires-clause-within
row_named-requires-clause-within c =
    let rows = c.args.doc.now in let w = c.rows-rows.ensures.shaped in let x = c.args.x in let set = in_view c.args.set in let rule = rule_of c.args.method in let top = parent_of rows x in
    let there = parent_there rows w x c.requires.here in
    let range = frame_rows rows w set rule top there c.args.frame.slots.now c.requires.frame.slots_are (top + 1 + length c.args.frame.slots.now) refl in
    let within = range.0 in let up = c.above-top.ensures in
    omega arith

pub row_named-requires-clause-rows : goal.row_named-requires-clause-rows
row_named-requires-clause-rows c =
    let rows = c.args.doc.now in let w = c.rows-rows.ensures.shaped in let x = c.args.x in let set = in_view c.args.set in let rule = rule_of c.args.method in let top = parent_of rows x in
    let there = parent_there rows w x c.requires.here in
    rw c.above-top.ensures (frame_rows rows w set rule top there c.args.frame.slots.now c.requires.frame.slots_are (top + 1 + length c.args.frame.slots.now) refl).1

pub returns-then-is_empty-clause-value : goal.returns-then-is_empty-clause-value
returns-then-is_empty-clause-value c =
    let rows = c.args.doc.now in let rule = rule_of c.args.method in
    c.requires.frame.default_is
    ∙ ap (λ (p : List ℕ). rendered rows (in_view c.args.set) rule p (parent_of rows c.args.x)) (sym (when_empty c.args.prefix.now (sym c.is_empty.ensures ∙ c.if-is_empty.true)))

pub returns-in-Some-clause-value : goal.returns-in-Some-clause-value
returns-in-Some-clause-value c =
    let rows = c.args.doc.now in let w = c.rows-rows.ensures.shaped in let x = c.args.x in let set = in_view c.args.set in let rule = rule_of c.args.method in let top = parent_of rows x in
    let there = parent_there rows w x c.requires.here in
    let found = c.in-Some.ensures in let up = c.above-top.ensures in
    let above : top < c.in-Some.z = omega (arith, found.0) in
    let under : c.in-Some.z < top + 1 + length c.args.frame.slots.now = omega (arith, found.1) in
    slot_there rows w set rule top there c.args.frame.slots.now c.requires.frame.slots_are (top + 1 + length c.args.frame.slots.now) c.in-Some.z _ _ c.args.prefix.now
    refl above under (omega arith) found.2

pub returns-in-None-clause-value : goal.returns-in-None-clause-value
returns-in-None-clause-value c =
    let rows = c.args.doc.now in let w = c.rows-rows.ensures.shaped in let x = c.args.x in let set = in_view c.args.set in let rule = rule_of c.args.method in let top = parent_of rows x in
    let there = parent_there rows w x c.requires.here in let inner = parent_element rows w x c.requires.here in
    slot_none rows w set rule top there c.args.frame.slots.now c.requires.frame.slots_are c.args.prefix.now
    (when_some c.args.prefix.now (sym c.is_empty.ensures ∙ c.if-is_empty.false)) inner
    (ap (λ (y : ℕ). list_any (is_of rows c.args.prefix.now) (namespace_rows rows y)) (sym c.above-top.ensures) ∙ c.in-None.ensures)
