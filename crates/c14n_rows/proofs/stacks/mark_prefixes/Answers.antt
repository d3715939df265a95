use Rattle.std.proofs.Common.{arith}
use Rattle.c14n_rows.proofs.StacksLemmas.{bases-all, room_for_bases-all}
use Rattle.c14n_rows.proofs.stacks.mark_prefixes.Goals as goal

pub returns-clause-stacks : goal.returns-clause-stacks
returns-clause-stacks c =
    let h = c.requires.stacks in
    record {
      slots_are = h.slots_are;
      slots_fit = h.slots_fit;
      xml_are = h.xml_are;
      xml_fit = h.xml_fit;
      nearest_are = h.nearest_are;
      runs_are = h.runs_are;
      runs_fit = h.runs_fit;
      prepared_are = h.prepared_are;
      is_joined = h.is_joined;
    }

pub returns-clause-kept : goal.returns-clause-kept
returns-clause-kept c = record {
  slots = omega arith;
  xml = omega arith;
  runs = omega arith;
  prepared = room_for_bases-all c.args.stacks.now.prepared;
  marks = c.mark_utilized.ensures.capacity;
  joining = bases-all c.args.stacks.now.joining;
}
