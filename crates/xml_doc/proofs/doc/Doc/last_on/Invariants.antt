use Rattle.std.proofs.Common.{◌≤◌}
use Rattle.xml_doc.specs.Axes.{on_axis}
use Rattle.xml_doc.specs.Searches.{NonePass}
use Rattle.xml_doc.proofs.doc.Doc.last_on.Given as goal

-- none of the rows so far
abbrev pub invariant-loop-end : goal.invariant-loop-end
invariant-loop-end l = record {
  within : l.end ≤ l.until;
  none : NonePass (on_axis l.axis l.self l.x) l.end l.until;
}

abbrev pub decreases-loop-end : goal.decreases-loop-end
decreases-loop-end l = l.end
