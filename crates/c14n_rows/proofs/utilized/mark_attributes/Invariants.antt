use Rattle.std.proofs.Common.{◌≡◌, ◌≤◌, vec_capacity}
use Rattle.node_sets.specs.View.{in_view}
use Rattle.xml_doc.proofs.Ranges.{numbers}
use Rattle.c14n_rows.specs.Code.Utilized.{marks_of}
use Rattle.c14n_rows.proofs.utilized.mark_attributes.Given as goal

abbrev pub invariant-loop-a : goal.invariant-loop-a
invariant-loop-a l = record {
  marked : l.marks.items ≡ marks_of l.doc (in_view l.set) l.e (numbers l.own.first_attribute l.a);
  kept : vec_capacity l.fn.marks ≤ vec_capacity l.marks;
}
