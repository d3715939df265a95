use Rattle.std.proofs.Common.{◌≡◌, ap, sym, ◌∙◌, arith}
use Rattle.xml_doc.specs.Kinds.{is_element}
use Rattle.node_sets.specs.View.{in_view}
use Rattle.c14n_rows.specs.Rules.{rule_of}
use Rattle.c14n_rows.proofs.StacksLemmas.{stacks-unskip, bases-all, keeps-all}
use Rattle.c14n_rows.proofs.NearestLemmas.{nearest-left}
use Rattle.c14n_rows.proofs.stacks.leave.Goals as goal

pub forget-requires : goal.forget-requires
forget-requires c = c.requires.stacks.nearest_are.used

pub returns-then-is_element-clause-stacks : goal.returns-then-is_element-clause-stacks
returns-then-is_element-clause-stacks c = record {
  slots_are = c.leave_slots.ensures.slots_are;
  slots_fit = c.leave_slots.ensures.slots_fit;
  xml_are = c.leave_xml.ensures.xml_are;
  xml_fit = c.leave_xml.ensures.xml_fit;
  nearest_are =
      let h = c.requires.stacks in let rows = c.args.doc.now in let rule = rule_of c.args.method in
      nearest-left rows c.rows-rows.ensures.shaped rule c.args.x c.requires.below c.requires.here c.args.stacks.now.xml.items c.leave_xml.new.xml.items _ c.forget.new.nearest h.xml_are c.leave_xml.ensures.xml_are (omega arith)
      (c.forget.ensures rows rule c.args.stacks.now.xml.items h.nearest_are);
  runs_are = c.leave_run.ensures.runs_are;
  runs_fit = c.leave_run.ensures.runs_fit;
  prepared_are = c.leave_run.ensures.prepared_are;
  is_joined = c.requires.stacks.is_joined;
}

pub returns-then-is_element-clause-kept : goal.returns-then-is_element-clause-kept
returns-then-is_element-clause-kept c = record {
  slots = let e = c.leave_slots.ensures.capacity in omega arith;
  xml = let e = c.leave_xml.ensures.capacity in omega arith;
  runs = let e = c.leave_run.ensures.capacity in omega arith;
  prepared = c.leave_run.ensures.prepared_room;
  marks = omega arith;
  joining = bases-all c.args.stacks.now.joining;
}

pub returns-else-is_element-clause-stacks : goal.returns-else-is_element-clause-stacks
returns-else-is_element-clause-stacks c =
    let pos = c.requires.below in
    stacks-unskip c.args.doc.now (in_view c.args.set) (rule_of c.args.method) c.rows-rows.ensures.shaped c.args.x _ (λ (z : c.args.x ≡ 0). omega arith) c.requires.here
    (ap is_element (sym c.kind.ensures) ∙ sym c.is_element.ensures ∙ c.if-is_element.false) c.requires.stacks

pub returns-else-is_element-clause-kept : goal.returns-else-is_element-clause-kept
returns-else-is_element-clause-kept c = keeps-all c.args.stacks.now
