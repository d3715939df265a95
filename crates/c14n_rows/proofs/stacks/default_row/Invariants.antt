use Rattle.std.proofs.Common.{◌≡◌, []}
use Rattle.std.specs.List.{find}
use Rattle.node_sets.specs.View.{in_view}
use Rattle.c14n_rows.specs.Code.Stacks.{is_named}
use Rattle.xml_doc.proofs.Ranges.{numbers}
use Rattle.c14n_rows.proofs.stacks.default_row.Given as goal

abbrev pub invariant-loop-z : goal.invariant-loop-z
invariant-loop-z l = find (is_named l.doc (in_view l.set) []) (numbers l.from l.until) ≡ find (is_named l.doc (in_view l.set) []) (numbers l.z l.until)
