use Rattle.std.proofs.Common.{refl, sym, ◌∙◌, arith}
use Rattle.node_sets.specs.View.{in_view}
use Rattle.c14n_text.specs.Rows.{parent_of}
use Rattle.c14n_rows.specs.Rules.{rule_of}
use Rattle.c14n_rows.proofs.Chains.{parent_there}
use Rattle.c14n_rows.proofs.StackLemmas.{parent_element}
use Rattle.c14n_rows.proofs.FrameLemmas.{searched-begin, found_start, searched-more, none_left}
use Rattle.c14n_rows.proofs.stacks.frame_start.Goals as goal

pub loop-i-init : goal.loop-i-init
loop-i-init c =
    let rows = c.args.doc.now in let w = c.rows-rows.ensures.shaped in let x = c.args.x in
    searched-begin rows w (in_view c.args.set) (rule_of c.args.method) (parent_of rows x) (parent_there rows w x c.requires.here) (parent_element rows w x c.requires.here) c.args.slots.now c.requires.slots_are _ refl

pub returns-then-slots-i-clause-value : goal.returns-then-slots-i-clause-value
returns-then-slots-i-clause-value c =
    let rows = c.args.doc.now in let w = c.rows-rows.ensures.shaped in let x = c.args.x in let set = in_view c.args.set in let rule = rule_of c.args.method in let top = parent_of rows x in
    let there = parent_there rows w x c.requires.here in let inner = parent_element rows w x c.requires.here in
    found_start rows w set rule top there inner c.args.slots.now c.requires.slots_are c.loop-i.i _ _ c.loop-i.invariant c.loop-i-test.true refl (c.if-slots-i.true ∙ c.above-top.ensures)

pub loop-i-preserved : goal.loop-i-preserved
loop-i-preserved c =
    let rows = c.args.doc.now in let w = c.rows-rows.ensures.shaped in let x = c.args.x in let set = in_view c.args.set in let rule = rule_of c.args.method in let top = parent_of rows x in
    let there = parent_there rows w x c.requires.here in let inner = parent_element rows w x c.requires.here in
    searched-more rows w set rule top there inner c.args.slots.now c.requires.slots_are c.loop-i.i _ _ c.loop-i.invariant c.loop-i-test.true refl (λ e. c.if-slots-i.false (e ∙ sym c.above-top.ensures))

pub returns-clause-value : goal.returns-clause-value
returns-clause-value c =
    let rows = c.args.doc.now in let w = c.rows-rows.ensures.shaped in let x = c.args.x in let set = in_view c.args.set in let rule = rule_of c.args.method in let top = parent_of rows x in
    let there = parent_there rows w x c.requires.here in let inner = parent_element rows w x c.requires.here in
    none_left rows w set rule top there inner c.args.slots.now c.requires.slots_are c.loop-i.i c.loop-i.invariant (omega (arith, c.loop-i-test.false))
