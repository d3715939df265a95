use Rattle.xml_doc.proofs.IdLemmas.{SoFar}
use Rattle.xml_doc.proofs.doc.Doc.element_by_id.Given as goal

-- the element so far that bears the ID
abbrev pub invariant-loop-k : goal.invariant-loop-k
invariant-loop-k l = SoFar l.self l.id l.k l.first
