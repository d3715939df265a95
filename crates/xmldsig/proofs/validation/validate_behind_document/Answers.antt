use Rattle.std.proofs.Common.{◌∙◌, ◌∷◌, [], ap, Err, encode_utf8_all}
use Rattle.std.proofs.lemmas.Result.{err_from_is_err_and}
use Rattle.digests_hmac.specs.declared.key_table.KeyTable.{KeyTable}
use Rattle.xmldsig.specs.Files.{keys_outcome}
use Rattle.xmldsig.specs.Validation.{names_behind_keys, outcome_behind_keys}
use Rattle.xmldsig.proofs.Steps.{answers_first, answers_then, asks_first, asks_then, counts_after, counts_first}
use Rattle.xmldsig.proofs.validation.validate_behind_document.Goals as goal

pub returns-in_err-keys-clause-outcome : goal.returns-in_err-keys-clause-outcome
returns-in_err-keys-clause-outcome g c = λ files e.
    let p = err_from_is_err_and c.from_residual.result c.from_residual.ensures.1 in
    answers_first KeyTable _ c.in_err-keys.field-0.0 (keys_outcome c.args.asked.keys files)
    (λ keys. outcome_behind_keys c.args.asked c.args.keep_views c.args.manifests c.args.bytes.now keys files) (p.1 ∙ ap Err p.2)
    (c.in_err-keys.ensures.outcome files e)

pub returns-in_err-keys-clause-asked : goal.returns-in_err-keys-clause-asked
returns-in_err-keys-clause-asked g c = λ files e.
    let p = err_from_is_err_and c.from_residual.result c.from_residual.ensures.1 in
    asks_first KeyTable _ c.in_err-keys.field-0.0 (keys_outcome c.args.asked.keys files) (encode_utf8_all c.args.asked.keys ∷ [])
    (λ keys. names_behind_keys c.args.asked c.args.keep_views c.args.manifests c.args.bytes.now keys files) _ _ (p.1 ∙ ap Err p.2)
    (c.in_err-keys.ensures.outcome files e) (c.in_err-keys.ensures.asked files e)

pub returns-in_err-keys-clause-cause : goal.returns-in_err-keys-clause-cause
returns-in_err-keys-clause-cause g c =
    let p = err_from_is_err_and c.from_residual.result c.from_residual.ensures.1 in
    counts_first KeyTable _ c.in_err-keys.field-0.0 _ _ (p.1 ∙ ap Err p.2) c.in_err-keys.ensures.cause

pub returns-clause-outcome : goal.returns-clause-outcome
returns-clause-outcome g c = λ files e.
    answers_then c.validate_behind_keys.result (keys_outcome c.args.asked.keys files) c.in_ok-keys.keys
    (λ keys. outcome_behind_keys c.args.asked c.args.keep_views c.args.manifests c.args.bytes.now keys files) (c.in_ok-keys.ensures.outcome files e)
    (c.validate_behind_keys.ensures.outcome files (c.in_ok-keys.ensures.held ∙ e))

pub returns-clause-asked : goal.returns-clause-asked
returns-clause-asked g c = λ files e.
    asks_then c.validate_behind_keys.result (keys_outcome c.args.asked.keys files) c.in_ok-keys.keys
    (encode_utf8_all c.args.asked.keys ∷ []) (λ keys. names_behind_keys c.args.asked c.args.keep_views c.args.manifests c.args.bytes.now keys files) _ _ _
    (c.in_ok-keys.ensures.outcome files e)
    (c.in_ok-keys.ensures.asked files e) (c.validate_behind_keys.ensures.asked files (c.in_ok-keys.ensures.held ∙ e))

pub returns-clause-cause : goal.returns-clause-cause
returns-clause-cause g c = counts_after c.validate_behind_keys.result _ _ _ c.in_ok-keys.ensures.cause c.validate_behind_keys.ensures.cause
