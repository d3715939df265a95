use Rattle.std.proofs.Common.{sym, subst}
use Rattle.xml_read.specs.ReadOutcome.{Answers}
use Rattle.xml_read.proofs.Outcomes.{tells, tells_document, tells_outcome, other_encoding, a_doc_type, no_tree}
use Rattle.xml_read.proofs.read.read_kept.Goals as goal

pub document_of-requires : goal.document_of-requires
document_of-requires c = tells_document _ _ (tells _ _ c.in-Ok.ensures.exact)

pub returns-in-Ok : goal.returns-in-Ok
returns-in-Ok c =
    let t = tells _ _ c.in-Ok.ensures.exact in
    subst (λ o. Answers c.document_of.result o) (sym (tells_outcome _ _ t)) (c.document_of.ensures t.tree t.are)

pub returns-in-Err-Encoding : goal.returns-in-Err-Encoding
returns-in-Err-Encoding c = other_encoding _ (rw c.in-Err-Encoding.field-0-is at c.in-Err-Encoding.ensures.exact)

pub returns-in-Err-DocType : goal.returns-in-Err-DocType
returns-in-Err-DocType c = a_doc_type _ (rw c.in-Err-DocType.field-0-is at c.in-Err-DocType.ensures.exact)

pub returns-in-Err-NotWellFormed : goal.returns-in-Err-NotWellFormed
returns-in-Err-NotWellFormed c = no_tree _ (rw c.in-Err-NotWellFormed.field-0-is at c.in-Err-NotWellFormed.ensures.exact)
