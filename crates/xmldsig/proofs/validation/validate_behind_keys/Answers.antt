use Rattle.std.proofs.Common.{◌∙◌, ap, Err}
use Rattle.std.proofs.lemmas.Result.{err_from_is_err_and}
use Rattle.uri_refs.specs.declared.catalog.Catalog.{Catalog}
use Rattle.xmldsig.specs.Files.{catalog_names, catalog_outcome}
use Rattle.xmldsig.specs.Validation.{document_names, document_outcome, question_for}
use Rattle.xmldsig.proofs.Steps.{answers_first, answers_then, asks_first, asks_then, counts_after, counts_first}
use Rattle.xmldsig.proofs.validation.validate_behind_keys.Goals as goal

pub returns-in_err-catalog-clause-outcome : goal.returns-in_err-catalog-clause-outcome
returns-in_err-catalog-clause-outcome g c = λ files e.
    let p = err_from_is_err_and c.from_residual.result c.from_residual.ensures.1 in
    answers_first Catalog _ c.in_err-catalog.field-0.0 (catalog_outcome c.args.asked.catalog files)
    (λ catalog. document_outcome c.args.manifests c.args.bytes.now (question_for c.args.asked c.args.keep_views c.args.keys.now catalog) files)
    (p.1 ∙ ap Err p.2) (c.in_err-catalog.ensures.outcome files e)

pub returns-in_err-catalog-clause-asked : goal.returns-in_err-catalog-clause-asked
returns-in_err-catalog-clause-asked g c = λ files e.
    let p = err_from_is_err_and c.from_residual.result c.from_residual.ensures.1 in
    asks_first Catalog _ c.in_err-catalog.field-0.0 (catalog_outcome c.args.asked.catalog files) (catalog_names c.args.asked.catalog)
    (λ catalog. document_names c.args.manifests c.args.bytes.now (question_for c.args.asked c.args.keep_views c.args.keys.now catalog) files) _ _
    (p.1 ∙ ap Err p.2)
    (c.in_err-catalog.ensures.outcome files e) (c.in_err-catalog.ensures.asked files e)

pub returns-in_err-catalog-clause-cause : goal.returns-in_err-catalog-clause-cause
returns-in_err-catalog-clause-cause g c =
    let p = err_from_is_err_and c.from_residual.result c.from_residual.ensures.1 in
    counts_first Catalog _ c.in_err-catalog.field-0.0 _ _ (p.1 ∙ ap Err p.2) c.in_err-catalog.ensures.cause

pub returns-clause-outcome : goal.returns-clause-outcome
returns-clause-outcome g c = λ files e.
    answers_then c.validate_document.result (catalog_outcome c.args.asked.catalog files) c.in_ok-catalog.catalog
    (λ catalog. document_outcome c.args.manifests c.args.bytes.now (question_for c.args.asked c.args.keep_views c.args.keys.now catalog) files)
    (c.in_ok-catalog.ensures.outcome files e)
    (rw c.lend.ensures at (c.validate_document.ensures.outcome files (c.in_ok-catalog.ensures.held ∙ e)))

pub returns-clause-asked : goal.returns-clause-asked
returns-clause-asked g c = λ files e.
    asks_then c.validate_document.result (catalog_outcome c.args.asked.catalog files) c.in_ok-catalog.catalog
    (catalog_names c.args.asked.catalog)
    (λ catalog. document_names c.args.manifests c.args.bytes.now (question_for c.args.asked c.args.keep_views c.args.keys.now catalog) files) _ _ _
    (c.in_ok-catalog.ensures.outcome files e)
    (c.in_ok-catalog.ensures.asked files e)
    (rw c.lend.ensures at (c.validate_document.ensures.asked files (c.in_ok-catalog.ensures.held ∙ e)))

pub returns-clause-cause : goal.returns-clause-cause
returns-clause-cause g c = counts_after c.validate_document.result _ _ _ c.in_ok-catalog.ensures.cause c.validate_document.ensures.cause
