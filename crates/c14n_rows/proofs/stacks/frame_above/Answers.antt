use Rattle.std.proofs.Common.{length, ◌∙◌, arith}
use Rattle.std.proofs.lemmas.List.Elements.{All-same, All-drop}
use Rattle.std.proofs.lemmas.Slice.{between_to_end}
use Rattle.node_sets.specs.View.{in_view}
use Rattle.c14n_text.specs.Rows.{parent_of}
use Rattle.c14n_rows.specs.Rules.{rule_of}
use Rattle.c14n_rows.specs.Code.Stacks.{SlotFits}
use Rattle.c14n_rows.proofs.Chains.{parent_there}
use Rattle.c14n_rows.proofs.StackLemmas.{parent_element}
use Rattle.c14n_rows.proofs.FrameLemmas.{frame_slots}
use Rattle.c14n_rows.proofs.stacks.frame_above.Goals as goal

pub returns : goal.returns
returns c =
    let rows = c.args.doc.now in let w = c.rows-rows.ensures.shaped in let x = c.args.x in let set = in_view c.args.set in let rule = rule_of c.args.method in let top = parent_of rows x in
    let there = parent_there rows w x c.requires.here in let inner = parent_element rows w x c.requires.here in
    let start = c.frame_start-start.result in let end = between_to_end c.args.slots.now start (length c.args.slots.now) (omega arith) in
    record {
      slots_are = end ∙ frame_slots rows w set rule top there inner c.args.slots.now c.requires.slots_are start c.frame_start-start.ensures.value;
      slots_fit = All-same (SlotFits rows) _ _ end (All-drop (SlotFits rows) start c.args.slots.now c.requires.slots_fit);
      default_is = c.default_at-default.ensures.value;
      default_fits = c.default_at-default.ensures.there;
    }
