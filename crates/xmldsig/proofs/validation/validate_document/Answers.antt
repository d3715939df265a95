use Rattle.std.proofs.Common.{[], ap, sym, refl, List}
use Rattle.dsig_fields.specs.Keys.{question_of}
use Rattle.sig_base.specs.Outcomes.{with_cause}
use Rattle.xml_doc.specs.Rows.{RowOf}
use Rattle.xml_read.specs.ReadOutcome.{read_outcome}
use Rattle.xmldsig.specs.Validation.{document_read, rows_names, rows_outcome}
use Rattle.xmldsig.specs.declared.ending.Refusal.TheVariants as refusal
use Rattle.xmldsig.specs.declared.ending.Validated.{Validated}
use Rattle.xmldsig.proofs.Steps.{answers_first, answers_then, asks_nothing_first, asks_then}
use Rattle.xmldsig.proofs.Stopped.{read_counts, read_stopped}
use Rattle.std.proofs.lemmas.List.{append-nil}
use Rattle.xmldsig.proofs.validation.validate_document.Goals as goal

pub returns-in-Ok-clause-outcome : goal.returns-in-Ok-clause-outcome
returns-in-Ok-clause-outcome g c = λ files e.
    answers_then c.report_rows.result (document_read c.args.bytes.now) c.in-Ok.doc
    (λ rows. rows_outcome c.args.manifests rows (question_of c.args.question.now) files)
    (ap (with_cause refusal.Read) c.in-Ok.ensures) (c.report_rows.ensures.outcome files e)

pub returns-in-Ok-clause-asked : goal.returns-in-Ok-clause-asked
returns-in-Ok-clause-asked g c = λ files e.
    asks_then c.report_rows.result (document_read c.args.bytes.now) c.in-Ok.doc []
    (λ rows. rows_names c.args.manifests rows (question_of c.args.question.now) files) _ _ _
    (ap (with_cause refusal.Read) c.in-Ok.ensures) (sym (append-nil _)) (c.report_rows.ensures.asked files e)

pub returns-clause-outcome : goal.returns-clause-outcome
returns-clause-outcome g c = λ files e.
    answers_first (List RowOf) _ c.by_reader.result (document_read c.args.bytes.now)
    (λ rows. rows_outcome c.args.manifests rows (question_of c.args.question.now) files)
    refl (rw c.by_reader.ensures (read_stopped (read_outcome c.args.bytes.now) c.in-Err.cause c.in-Err.ensures))

pub returns-clause-asked : goal.returns-clause-asked
returns-clause-asked g c = λ files e.
    asks_nothing_first (List RowOf) Validated c.by_reader.result (document_read c.args.bytes.now)
    (λ rows. rows_names c.args.manifests rows (question_of c.args.question.now) files) (g.F.Folder.asked c.args.folder.now)
    (rw c.by_reader.ensures (read_stopped (read_outcome c.args.bytes.now) c.in-Err.cause c.in-Err.ensures))

pub returns-clause-cause : goal.returns-clause-cause
returns-clause-cause g c = rw c.by_reader.ensures (read_counts Validated c.in-Err.cause (g.F.Folder.faults c.args.folder.now))
