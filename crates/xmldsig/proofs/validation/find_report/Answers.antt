use Rattle.std.proofs.Common.{◌∙◌, ◌∷◌, [], ap, Err, encode_utf8_all}
use Rattle.std.proofs.lemmas.Result.{err_from_is_err_and}
use Rattle.sig_base.specs.declared.lists.Octets.{Octets}
use Rattle.xmldsig.specs.Files.{document_outcome}
use Rattle.xmldsig.specs.Validation.{names_behind_document, outcome_behind_document}
use Rattle.xmldsig.proofs.Steps.{answers_first, answers_then, asks_first, asks_then, counts_after, counts_first}
use Rattle.xmldsig.proofs.validation.find_report.Goals as goal

pub returns-in_err-file-clause-outcome : goal.returns-in_err-file-clause-outcome
returns-in_err-file-clause-outcome g c = λ files e.
    let p = err_from_is_err_and c.from_residual.result c.from_residual.ensures.1 in
    answers_first Octets _ c.in_err-file.field-0.0 (document_outcome c.args.asked.doc files)
    (λ bytes. outcome_behind_document c.args.asked c.args.keep_views c.args.manifests bytes files) (p.1 ∙ ap Err p.2)
    (c.in_err-file.ensures.outcome files e)

pub returns-in_err-file-clause-asked : goal.returns-in_err-file-clause-asked
returns-in_err-file-clause-asked g c = λ files e.
    let p = err_from_is_err_and c.from_residual.result c.from_residual.ensures.1 in
    asks_first Octets _ c.in_err-file.field-0.0 (document_outcome c.args.asked.doc files) (encode_utf8_all c.args.asked.doc ∷ [])
    (λ bytes. names_behind_document c.args.asked c.args.keep_views c.args.manifests bytes files) _ _ (p.1 ∙ ap Err p.2)
    (c.in_err-file.ensures.outcome files e) (c.in_err-file.ensures.asked files e)

pub returns-in_err-file-clause-cause : goal.returns-in_err-file-clause-cause
returns-in_err-file-clause-cause g c =
    let p = err_from_is_err_and c.from_residual.result c.from_residual.ensures.1 in
    counts_first Octets _ c.in_err-file.field-0.0 _ _ (p.1 ∙ ap Err p.2) c.in_err-file.ensures.cause

pub returns-clause-outcome : goal.returns-clause-outcome
returns-clause-outcome g c = λ files e.
    answers_then c.validate_behind_document.result (document_outcome c.args.asked.doc files) c.in_ok-file.file
    (λ bytes. outcome_behind_document c.args.asked c.args.keep_views c.args.manifests bytes files) (c.in_ok-file.ensures.outcome files e)
    (rw c.bytes.ensures at (c.validate_behind_document.ensures.outcome files (c.in_ok-file.ensures.held ∙ e)))

pub returns-clause-asked : goal.returns-clause-asked
returns-clause-asked g c = λ files e.
    asks_then c.validate_behind_document.result (document_outcome c.args.asked.doc files) c.in_ok-file.file
    (encode_utf8_all c.args.asked.doc ∷ []) (λ bytes. names_behind_document c.args.asked c.args.keep_views c.args.manifests bytes files) _ _ _
    (c.in_ok-file.ensures.outcome files e)
    (c.in_ok-file.ensures.asked files e)
    (rw c.bytes.ensures at (c.validate_behind_document.ensures.asked files (c.in_ok-file.ensures.held ∙ e)))

pub returns-clause-cause : goal.returns-clause-cause
returns-clause-cause g c =
    counts_after c.validate_behind_document.result _ _ _ c.in_ok-file.ensures.cause c.validate_behind_document.ensures.cause
