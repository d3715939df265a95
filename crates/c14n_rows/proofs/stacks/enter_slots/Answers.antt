use Rattle.std.proofs.Common.{◌≡◌, ◌<◌, length, take, drop, refl, ap, sym, ◌∙◌, arith}
use Rattle.std.proofs.lemmas.List.Elements.{All-drop, All-same}
use Rattle.std.proofs.lemmas.Slice.{between_is}
use Rattle.node_sets.specs.View.{in_view}
use Rattle.c14n_rows.specs.declared.stacks.Slot.{Slot}
use Rattle.c14n_rows.specs.Rules.{rule_of}
use Rattle.c14n_rows.specs.Code.Stacks.{slots_at, SlotFits}
use Rattle.c14n_text.specs.Rows.{parent_of}
use Rattle.c14n_rows.proofs.Chains.{parent_there}
use Rattle.c14n_rows.proofs.NameLemmas.{is_own}
use Rattle.c14n_rows.proofs.StackLemmas.{parent_element, slots_room}
use Rattle.c14n_rows.proofs.FrameLemmas.{entered_length, frame_slots, entering-begin, entering-more, entering-end, entering-room}
use Rattle.c14n_rows.proofs.stacks.enter_slots.Goals as goal

pub push_slot-requires : goal.push_slot-requires
push_slot-requires c =
    let rows = c.args.doc.now in let x = c.args.x in let set = in_view c.args.set in let rule = rule_of c.args.method in let own = c.own_rows-own.ensures in
    let n = ap (length {A = Slot}) c.requires.slots_are in
    let l = entered_length rows c.rows-rows.ensures.shaped set rule x c.requires.below c.requires.here c.requires.element c.own_rows-own.result.first_attribute own.behind own.namespaces in
    let room = slots_room rows set rule x _ c.requires.room in
    let behind = own.behind in
    omega (arith, room, l, n)

pub loop-y-init : goal.loop-y-init
loop-y-init c =
    let rows = c.args.doc.now in let x = c.args.x in let set = in_view c.args.set in let rule = rule_of c.args.method in let own = c.own_rows-own.ensures in
    let is : c.len-base.result ≡ length c.args.slots.now.items = omega (arith, c.len-base.ensures) in
    rw c.push_slot.ensures.items (entering-begin rows c.rows-rows.ensures.shaped set rule x c.requires.below c.requires.here c.requires.element c.own_rows-own.result.first_attribute own.behind own.namespaces
    c.args.slots.now.items c.default_here-near.result c.len-base.result _ _ c.requires.slots_are c.requires.slots_fit is c.default_here-near.ensures.value c.default_here-near.ensures.there c.push_slot.ensures.capacity)

pub rendered_here-near-requires-clause-namespace : goal.rendered_here-near-requires-clause-namespace
rendered_here-near-requires-clause-namespace c =
    let own = c.own_rows-own.ensures in
    is_own c.args.doc.now c.rows-rows.ensures.shaped c.args.x c.own_rows-own.result.first_attribute own.behind (let o = own.ordered in let i = own.within in omega arith) own.namespaces c.loop-y.y (omega arith) c.loop-y-test.true

pub rendered_here-near-requires-clause-frame : goal.rendered_here-near-requires-clause-frame
rendered_here-near-requires-clause-frame c =
    let rows = c.args.doc.now in let w = c.rows-rows.ensures.shaped in let x = c.args.x in let set = in_view c.args.set in let rule = rule_of c.args.method in let top = parent_of rows x in
    let there = parent_there rows w x c.requires.here in let inner = parent_element rows w x c.requires.here in
    let start = c.frame_start-start.result in let base = c.len-base.result in
    let front = ap (take base) c.deref-in-loop-y.ensures.value ∙ c.loop-y.invariant.front in
    let end = between_is c.deref-in-loop-y.result.now start base ∙ ap (drop start) front in
    record {
      slots_are = end ∙ frame_slots rows w set rule top there inner (slots_at rows set rule top) refl start c.frame_start-start.ensures.value;
      slots_fit = All-same (SlotFits rows) _ _ end (All-drop (SlotFits rows) start (slots_at rows set rule top) (All-same (SlotFits rows) _ _ (sym c.requires.slots_are) c.requires.slots_fit));
      default_is = c.default_at-default.ensures.value;
      default_fits = c.default_at-default.ensures.there;
    }

pub push_slot-requires-in-loop-y : goal.push_slot-requires-in-loop-y
push_slot-requires-in-loop-y c =
    let rows = c.args.doc.now in let x = c.args.x in let set = in_view c.args.set in let rule = rule_of c.args.method in let own = c.own_rows-own.ensures in
    entering-room rows c.rows-rows.ensures.shaped set rule x c.requires.below c.requires.here c.requires.element c.own_rows-own.result.first_attribute own.behind own.namespaces
    c.loop-y.slots.items c.len-base.result c.loop-y.y _ _ c.loop-y.invariant c.loop-y-test.true (slots_room rows set rule x _ c.requires.room)

pub loop-y-preserved : goal.loop-y-preserved
loop-y-preserved c =
    let rows = c.args.doc.now in let x = c.args.x in let set = in_view c.args.set in let rule = rule_of c.args.method in let own = c.own_rows-own.ensures in
    let here : c.loop-y.y < length rows = let lt = c.loop-y-test.true in let o = own.ordered in let i = own.within in omega arith in
    rw c.push_slot-in-loop-y.ensures.items (entering-more rows c.rows-rows.ensures.shaped set rule x c.requires.below c.requires.here c.requires.element c.own_rows-own.result.first_attribute own.behind own.namespaces
    c.loop-y.slots.items c.rendered_here-near.result c.len-base.result c.loop-y.y _ _ _ c.loop-y.invariant c.loop-y-test.true here
    c.rendered_here-near.ensures.value c.rendered_here-near.ensures.there c.push_slot-in-loop-y.ensures.capacity)

pub returns-clause-slots_are : goal.returns-clause-slots_are
returns-clause-slots_are c =
    let rows = c.args.doc.now in let x = c.args.x in let set = in_view c.args.set in let rule = rule_of c.args.method in let own = c.own_rows-own.ensures in
    entering-end rows c.rows-rows.ensures.shaped set rule x c.requires.below c.requires.here c.requires.element c.own_rows-own.result.first_attribute own.behind own.namespaces
    c.loop-y.slots.items c.len-base.result c.loop-y.y _ _ c.loop-y.invariant c.loop-y-test.false

pub returns-clause-slots_fit : goal.returns-clause-slots_fit
returns-clause-slots_fit c = c.loop-y.invariant.fit

pub returns-clause-capacity : goal.returns-clause-capacity
returns-clause-capacity c = c.loop-y.invariant.kept
