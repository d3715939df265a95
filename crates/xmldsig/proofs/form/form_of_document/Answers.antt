use Rattle.std.proofs.Common.{ap, refl, List}
use Rattle.sig_base.specs.Outcomes.{with_cause}
use Rattle.xml_doc.specs.Rows.{RowOf}
use Rattle.xml_read.specs.ReadOutcome.{read_outcome}
use Rattle.xmldsig.specs.Form.{rows_outcome}
use Rattle.xmldsig.specs.Validation.{document_read}
use Rattle.xmldsig.specs.declared.ending.Refusal.TheVariants as refusal
use Rattle.xmldsig.proofs.Steps.{answers_first, answers_then}
use Rattle.xmldsig.proofs.Stopped.{read_calm, read_stopped}
use Rattle.xmldsig.proofs.form.form_of_document.Goals as goal

pub returns-in-Ok-clause-outcome : goal.returns-in-Ok-clause-outcome
returns-in-Ok-clause-outcome c =
    answers_then c.form_of_rows.result (document_read c.args.bytes.now) c.in-Ok.doc
    (rows_outcome c.args.form.now.method c.args.form.now.id c.args.form.now.xpath c.args.form.now.prefixes)
    (ap (with_cause refusal.Read) c.in-Ok.ensures) c.form_of_rows.ensures.outcome

pub returns-clause-outcome : goal.returns-clause-outcome
returns-clause-outcome c =
    answers_first (List RowOf) _ c.by_reader.result (document_read c.args.bytes.now)
    (rows_outcome c.args.form.now.method c.args.form.now.id c.args.form.now.xpath c.args.form.now.prefixes)
    refl (rw c.by_reader.ensures (read_stopped (read_outcome c.args.bytes.now) c.in-Err.cause c.in-Err.ensures))

pub returns-clause-no_fault : goal.returns-clause-no_fault
returns-clause-no_fault c = rw c.by_reader.ensures (read_calm _ c.in-Err.cause)
