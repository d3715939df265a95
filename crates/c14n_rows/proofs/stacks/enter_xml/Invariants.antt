use Rattle.std.proofs.Common.{◌≡◌, ◌<◌, ◌≤◌, ◌++◌, length, reverse, vec_capacity}
use Rattle.std.specs.List.{All, filter}
use Rattle.c14n_text.specs.Attributes.{is_xml}
use Rattle.c14n_rows.specs.Code.Stacks.{xml_at}
use Rattle.xml_doc.proofs.Ranges.{numbers}
use Rattle.c14n_rows.proofs.stacks.enter_xml.Given as goal

abbrev pub invariant-loop-a : goal.invariant-loop-a
invariant-loop-a l = record {
  until : l.own.first_attribute ≤ l.a;
  within : l.a ≤ l.own.first_child;
  rest : l.xml.items ++ reverse (filter (is_xml l.doc) (numbers l.own.first_attribute l.a)) ≡ xml_at l.doc l.x;
  fit : All (λ a. a < length l.doc) l.xml.items;
  kept : vec_capacity l.fn.xml ≤ vec_capacity l.xml;
}

abbrev pub decreases-loop-a : goal.decreases-loop-a
decreases-loop-a l = l.a
