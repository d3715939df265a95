use Rattle.std.proofs.Common.{ℕ, length, refl, ap, sym, ◌∙◌, arith}
use Rattle.node_sets.specs.View.{in_view}
use Rattle.c14n_text.specs.Bases.{joined_base}
use Rattle.c14n_rows.specs.Rules.{rule_of}
use Rattle.c14n_rows.proofs.ImportLemmas.{attributes_room, stack_xml}
use Rattle.c14n_rows.proofs.StacksLemmas.{bases-all, keeps-all, keeps_ordered-all, room_for_bases-all}
use Rattle.c14n_rows.proofs.nearest.keep_imports.Goals as goal

pub keep_nearest-requires-clause-nearest : goal.keep_nearest-requires-clause-nearest
keep_nearest-requires-clause-nearest c = rw c.deref.ensures.value c.requires.stacks.nearest_are

pub keep_nearest-requires-clause-xml_fit : goal.keep_nearest-requires-clause-xml_fit
keep_nearest-requires-clause-xml_fit c = rw c.deref.ensures.value c.requires.stacks.xml_fit

pub keep_nearest-requires-clause-xml_are : goal.keep_nearest-requires-clause-xml_are
keep_nearest-requires-clause-xml_are c = rw (c.deref.ensures.value ∙ c.requires.stacks.xml_are) (stack_xml c.args.doc.now (rule_of c.args.method) c.args.x)

pub keep_nearest-requires-clause-room : goal.keep_nearest-requires-clause-room
keep_nearest-requires-clause-room c =
    let rows = c.args.doc.now in let set = in_view c.args.set in let rule = rule_of c.args.method in
    let n = attributes_room rows c.rows-rows.ensures.shaped set rule c.args.x c.requires.here (sym c.if-imports_attributes.ensures) (joined_base rows set rule c.args.x) refl _ c.requires.ordered_room.attributes in
    let m = ap (length {A = ℕ}) (c.deref.ensures.value ∙ c.requires.stacks.xml_are) in
    omega arith

pub keep_nearest-requires-clause-spare : goal.keep_nearest-requires-clause-spare
keep_nearest-requires-clause-spare c =
    let rows = c.args.doc.now in let set = in_view c.args.set in let rule = rule_of c.args.method in
    let n = attributes_room rows c.rows-rows.ensures.shaped set rule c.args.x c.requires.here (sym c.if-imports_attributes.ensures) (joined_base rows set rule c.args.x) refl _ c.requires.ordered_room.spare in
    let m = ap (length {A = ℕ}) (c.deref.ensures.value ∙ c.requires.stacks.xml_are) in
    omega arith

pub returns-then-imports_attributes-clause-stacks : goal.returns-then-imports_attributes-clause-stacks
returns-then-imports_attributes-clause-stacks c =
    let h = c.requires.stacks in
    record {
      slots_are = h.slots_are;
      slots_fit = h.slots_fit;
      xml_are = h.xml_are;
      xml_fit = h.xml_fit;
      nearest_are = rw (← c.deref.ensures.value) c.keep_nearest.ensures.nearest;
      runs_are = h.runs_are;
      runs_fit = h.runs_fit;
      prepared_are = h.prepared_are;
      is_joined = h.is_joined;
    }

pub returns-then-imports_attributes-clause-kept : goal.returns-then-imports_attributes-clause-kept
returns-then-imports_attributes-clause-kept c = record {
  slots = omega arith;
  xml = omega arith;
  runs = omega arith;
  prepared = room_for_bases-all c.args.stacks.now.prepared;
  marks = omega arith;
  joining = bases-all c.args.stacks.now.joining;
}

pub returns-else-imports_attributes-clause-kept : goal.returns-else-imports_attributes-clause-kept
returns-else-imports_attributes-clause-kept c = keeps-all c.args.stacks.now

pub returns-else-imports_attributes-clause-ordered_kept : goal.returns-else-imports_attributes-clause-ordered_kept
returns-else-imports_attributes-clause-ordered_kept c = keeps_ordered-all c.args.ordered.now
