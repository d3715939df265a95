use Rattle.std.proofs.Common.{◌∙◌, ap, Err}
use Rattle.std.proofs.lemmas.Result.{err_from_is_err_and}
use Rattle.sig_base.specs.declared.lists.Octets.{Octets}
use Rattle.xmldsig.specs.Files as file
use Rattle.xmldsig.specs.Template.{document_outcome}
use Rattle.xmldsig.proofs.Steps.{answers_first, answers_then, asks_same, asks_whole, counts_calm, counts_first}
use Rattle.xmldsig.proofs.template.make_template.Goals as goal

pub returns-in_err-file-clause-outcome : goal.returns-in_err-file-clause-outcome
returns-in_err-file-clause-outcome g c = λ files e.
    let p = err_from_is_err_and c.from_residual.result c.from_residual.ensures.1 in
    answers_first Octets _ c.in_err-file.field-0.0 (file.document_outcome c.args.doc.now files)
    (document_outcome c.args.options.now) (p.1 ∙ ap Err p.2) (c.in_err-file.ensures.outcome files e)

pub returns-in_err-file-clause-asked : goal.returns-in_err-file-clause-asked
returns-in_err-file-clause-asked g c = λ files e.
    let p = err_from_is_err_and c.from_residual.result c.from_residual.ensures.1 in
    asks_same Octets _ c.in_err-file.field-0.0 _ _ _ (p.1 ∙ ap Err p.2) (c.in_err-file.ensures.asked files e)

pub returns-in_err-file-clause-cause : goal.returns-in_err-file-clause-cause
returns-in_err-file-clause-cause g c =
    let p = err_from_is_err_and c.from_residual.result c.from_residual.ensures.1 in
    counts_first Octets _ c.in_err-file.field-0.0 _ _ (p.1 ∙ ap Err p.2) c.in_err-file.ensures.cause

pub returns-clause-outcome : goal.returns-clause-outcome
returns-clause-outcome g c = λ files e.
    answers_then c.with_template.result (file.document_outcome c.args.doc.now files) c.in_ok-file.file
    (document_outcome c.args.options.now)
    (c.in_ok-file.ensures.outcome files e) (rw c.bytes.ensures at c.with_template.ensures.outcome)

pub returns-clause-asked : goal.returns-clause-asked
returns-clause-asked g c = λ files e. asks_whole c.with_template.result _ _ _ (c.in_ok-file.ensures.asked files e)

pub returns-clause-cause : goal.returns-clause-cause
returns-clause-cause g c = counts_calm c.with_template.result _ _ c.with_template.ensures.no_fault c.in_ok-file.ensures.cause
