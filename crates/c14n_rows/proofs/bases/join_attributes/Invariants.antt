use Rattle.std.proofs.Common.{◌≡◌, ◌≤◌, ◌<◌, ◌+◌, None, length, true, vec_capacity, IfSome}
use Rattle.std.specs.List.{filter}
use Rattle.c14n_text.specs.Bases.{is_base, with_bases}
use Rattle.c14n_rows.specs.Joined.{weights}
use Rattle.c14n_rows.specs.Code.Joined.{with_value, filled}
use Rattle.xml_doc.proofs.Ranges.{numbers}
use Rattle.c14n_rows.proofs.bases.join_attributes.Given as goal

abbrev pub invariant-loop-a : goal.invariant-loop-a
invariant-loop-a l = record {
  there : IfSome l.place (λ b. b < length l.doc);
  settled : IfSome l.place (λ b. l.own.settled ≡ true);
  rest : with_bases l.doc (with_value l.place l.own.value) (filter (is_base l.doc) (numbers l.a l.until)) ≡ with_bases l.doc None (filter (is_base l.doc) (numbers l.from l.until));
  few : filled l.place l.own.value + weights l.doc (filter (is_base l.doc) (numbers l.a l.until)) ≤ weights l.doc (filter (is_base l.doc) (numbers l.from l.until));
  room : l.own.room ≡ l.initial.own.room;
  capacity : vec_capacity l.initial.spare ≤ vec_capacity l.spare;
}
