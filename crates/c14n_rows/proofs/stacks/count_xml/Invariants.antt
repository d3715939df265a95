use Rattle.std.proofs.Common.{◌≡◌, ◌≤◌, ◌+◌, length}
use Rattle.std.specs.List.{filter}
use Rattle.c14n_text.specs.Attributes.{is_xml}
use Rattle.xml_doc.proofs.Ranges.{numbers}
use Rattle.c14n_rows.proofs.stacks.count_xml.Given as goal

abbrev pub invariant-loop-a : goal.invariant-loop-a
invariant-loop-a l = record {
  few : l.count + l.from ≤ l.a;
  counted : l.count + length (filter (is_xml l.doc) (numbers l.a l.until)) ≡ length (filter (is_xml l.doc) (numbers l.from l.until));
}
