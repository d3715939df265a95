use Rattle.std.proofs.Common.{◌≡◌, length}
use Rattle.std.specs.List.{find}
use Rattle.xml_doc.specs.Top.{is_top_element, document_element}
use Rattle.xml_doc.proofs.Ranges.{numbers}
use Rattle.xml_doc.proofs.doc.Doc.document_element.Given as goal

abbrev pub invariant-loop-y : goal.invariant-loop-y
invariant-loop-y l = document_element l.self ≡ find (is_top_element l.self) (numbers l.y (length l.self))
