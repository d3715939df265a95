use Rattle.std.proofs.Common.{◌≡◌, ◌≤◌, ◌+◌, length}
use Rattle.std.specs.List.{filter}
use Rattle.c14n_text.specs.Bases.{is_base}
use Rattle.xml_doc.proofs.Ranges.{numbers}
use Rattle.c14n_rows.proofs.stacks.count_bases.Given as goal

abbrev pub invariant-loop-a : goal.invariant-loop-a
invariant-loop-a l = record {
  few : l.count + l.from ≤ l.a;
  counted : l.count + length (filter (is_base l.doc) (numbers l.a l.until)) ≡ length (filter (is_base l.doc) (numbers l.from l.until));
}
