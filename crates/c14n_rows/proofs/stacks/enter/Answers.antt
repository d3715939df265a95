use Rattle.std.proofs.Common.{◌≡◌, ap, sym, ◌∙◌, arith}
use Rattle.xml_doc.specs.Kinds.{is_element}
use Rattle.node_sets.specs.View.{in_view}
use Rattle.c14n_rows.specs.Rules.{rule_of}
use Rattle.c14n_rows.proofs.StacksLemmas.{stacks-skip, bases-all, keeps-all}
use Rattle.c14n_rows.proofs.NearestLemmas.{nearest-entered}
use Rattle.c14n_rows.proofs.stacks.enter.Goals as goal

pub returns-then-is_element-clause-stacks : goal.returns-then-is_element-clause-stacks
returns-then-is_element-clause-stacks c = record {
  slots_are = c.enter_slots.ensures.slots_are;
  slots_fit = c.enter_slots.ensures.slots_fit;
  xml_are = c.enter_xml.ensures.xml_are;
  xml_fit = c.enter_xml.ensures.xml_fit;
  nearest_are =
      let h = c.requires.stacks in
      nearest-entered c.args.doc.now c.rows-rows.ensures.shaped (rule_of c.args.method) c.args.x c.requires.below c.requires.here c.args.stacks.now.xml.items c.enter_xml.new.xml.items c.args.stacks.now.nearest h.xml_are c.enter_xml.ensures.xml_are h.nearest_are;
  runs_are = c.enter_run.ensures.runs_are;
  runs_fit = c.enter_run.ensures.runs_fit;
  prepared_are = c.enter_run.ensures.prepared_are;
  is_joined = c.requires.stacks.is_joined;
}

pub returns-then-is_element-clause-kept : goal.returns-then-is_element-clause-kept
returns-then-is_element-clause-kept c = record {
  slots = c.enter_slots.ensures.capacity;
  xml = c.enter_xml.ensures.capacity;
  runs = c.enter_run.ensures.capacity;
  prepared = c.enter_run.ensures.prepared_room;
  marks = omega arith;
  joining = bases-all c.args.stacks.now.joining;
}

pub returns-else-is_element-clause-stacks : goal.returns-else-is_element-clause-stacks
returns-else-is_element-clause-stacks c =
    let pos = c.requires.below in
    stacks-skip c.args.doc.now (in_view c.args.set) (rule_of c.args.method) c.rows-rows.ensures.shaped c.args.x _ (λ (z : c.args.x ≡ 0). omega arith) c.requires.here
    (ap is_element (sym c.kind.ensures) ∙ sym c.is_element.ensures ∙ c.if-is_element.false) c.requires.stacks

pub returns-else-is_element-clause-kept : goal.returns-else-is_element-clause-kept
returns-else-is_element-clause-kept c = keeps-all c.args.stacks.now
