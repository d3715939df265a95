use Rattle.std.proofs.Common.{◌∙◌, ap, List, Err}
use Rattle.std.proofs.lemmas.Result.{err_from_is_err_and}
use Rattle.dsig_fields.specs.Keys.{question_of}
use Rattle.transforms.specs.Asked.{names_asked}
use Rattle.transforms.specs.declared.outcome.Report.{Report}
use Rattle.manifests.specs.declared.lines.ManifestLine.{ManifestLine}
use Rattle.xmldsig.specs.Manifests.{names_beside}
use Rattle.xmldsig.specs.Validation.{rows_report}
use Rattle.xmldsig.proofs.Steps.{asks_first, asks_same, asks_then}
use Rattle.xmldsig.proofs.validation.report_rows.Goals as goal

pub returns-in_err-report-clause-asked : goal.returns-in_err-report-clause-asked
returns-in_err-report-clause-asked g c = λ files e.
    let rows = c.args.doc.now in let question = question_of c.args.question.now in
    let p = err_from_is_err_and c.from_residual.result c.from_residual.ensures.1 in
    asks_first Report _ c.in_err-report.field-0.0 (rows_report rows question files) (names_asked rows question files)
    (names_beside c.args.manifests rows question) _ _ (p.1 ∙ ap Err p.2)
    (c.in_err-report.ensures.outcome files e) (c.in_err-report.ensures.asked files e)

pub returns-in_err-lines-clause-asked : goal.returns-in_err-lines-clause-asked
returns-in_err-lines-clause-asked g c = λ files e.
    let rows = c.args.doc.now in let question = question_of c.args.question.now in
    let p = err_from_is_err_and c.from_residual-in_err-lines.result c.from_residual-in_err-lines.ensures.1 in
    asks_then _ (rows_report rows question files) c.in_ok-report.report (names_asked rows question files)
    (names_beside c.args.manifests rows question) _ _ _
    (c.in_ok-report.ensures.outcome files e) (c.in_ok-report.ensures.asked files e)
    (asks_same (List ManifestLine) _ c.in_err-lines.field-0.0 _ _ _ (p.1 ∙ ap Err p.2)
    (c.in_err-lines.ensures.asked files (c.in_ok-report.ensures.held ∙ e)))
