use Rattle.xml_doc.specs.Axes.{on_axis}
use Rattle.xml_doc.specs.Searches.{NonePass}
use Rattle.xml_doc.proofs.doc.Doc.first_on.Given as goal

-- none of the rows so far
abbrev pub invariant-loop-y : goal.invariant-loop-y
invariant-loop-y l = NonePass (on_axis l.axis l.self l.x) l.at l.y
