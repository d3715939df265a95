use Rattle.std.proofs.Common.{◌≡◌, ◌+◌}
use Rattle.std.specs.List.{filter}
use Rattle.c14n_text.specs.Bases.{is_base}
use Rattle.c14n_rows.specs.Joined.{weights}
use Rattle.xml_doc.proofs.Ranges.{numbers}
use Rattle.c14n_rows.proofs.renderer.count_values.Given as goal

abbrev pub invariant-loop-a : goal.invariant-loop-a
invariant-loop-a l = l.count + weights l.doc (filter (is_base l.doc) (numbers l.a l.until)) ≡ weights l.doc (filter (is_base l.doc) (numbers l.from l.until))
