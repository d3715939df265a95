use Rattle.std.proofs.Common.{◌≡◌, ◌∙◌, ◌≤◌, ℕ, List, true, false, Option, Some, None, Result, Ok, Err, length, ap, sym, subst}
use Rattle.std.specs.List.{All}
use Rattle.std.proofs.lemmas.Bool.{and_parts}
use Rattle.std.proofs.lemmas.List.Elements.{All-weaker}
use Rattle.std.proofs.lemmas.Result.{err_from_is_err_and}
use Rattle.sig_base.specs.Outcomes.{and_then}
use Rattle.dsig_fields.specs.Fits.{ReferenceFits}
use Rattle.dsig_fields.specs.Keys.{question_of}
use Rattle.dsig_fields.specs.declared.fields.Reference.{Reference}
use Rattle.transforms.specs.declared.outcome.Report.{Report}
use Rattle.transforms.specs.declared.outcome.ValidateRefusal.{ValidateRefusal}
use Rattle.core_validate.specs.Answers.{Stops}
use Rattle.core_validate.specs.Code.Signature.{check_of, check_under_key, signature_check, signature_failure}
use Rattle.core_validate.proofs.OutcomeLaws.{no_key, no_signature, not_read, with_key}
use Rattle.core_validate.proofs.ProgressLaws.{stops_on}
use Rattle.core_validate.proofs.validation.check_signature.Goals as goal

pub returns-in_default-clause-check : goal.returns-in_default-clause-check
returns-in_default-clause-check c = no_signature c.args.doc.now (question_of c.args.question.now) (sym c.in_default.ensures.row)

pub returns-in_err-fields-clause-check : goal.returns-in_err-fields-clause-check
returns-in_err-fields-clause-check c =
    let q = err_from_is_err_and c.from_residual.result c.from_residual.ensures.1 in
    rw (q.1, q.2)
    (not_read c.args.doc.now (question_of c.args.question.now) c.in-Some.signature (sym c.in-Some.ensures.row) c.in_err-fields.field-0.0 c.in_err-fields.ensures.fields)

pub returns-in_err-key-clause-check : goal.returns-in_err-key-clause-check
returns-in_err-key-clause-check c =
    let q = err_from_is_err_and c.from_residual-in_err-key.result c.from_residual-in_err-key.ensures.1 in
    rw (q.1, q.2)
    (no_key c.args.doc.now (question_of c.args.question.now) c.in-Some.signature (sym c.in-Some.ensures.row) c.in_ok-fields.fields c.in_ok-fields.ensures.fields
    c.in_err-key.field-0.0 c.in_err-key.ensures)

pub returns-in_err-failure-clause-check : goal.returns-in_err-failure-clause-check
returns-in_err-failure-clause-check c =
    let rows = c.args.doc.now in let question = question_of c.args.question.now in let fields = c.in_ok-fields.fields in let x = c.in-Some.signature in
    let cause = c.in_err-failure.field-0.0 in let key = c.in_ok-key.key.now.octets in
    let failure = signature_failure rows fields key in
    let q = err_from_is_err_and c.from_residual-in_err-failure.result c.from_residual-in_err-failure.ensures.1 in
    let P : List ℕ → Type 0 = λ k. Stops cause (signature_failure rows fields k) in
    rw (q.1, q.2)
    (stops_on cause failure (signature_check rows question)
    (λ (e : failure ≡ Err cause).
    with_key rows question x (sym c.in-Some.ensures.row) fields c.in_ok-fields.ensures.fields c.in_ok-key.key.now c.in_ok-key.ensures
    ∙ ap (λ (r : Result (Option Report) ValidateRefusal). and_then r (λ f. Ok (check_of x fields f))) e)
    (subst P c.bytes.ensures c.in_err-failure.ensures.failure))

pub returns-in-Some-2-clause-check : goal.returns-in-Some-2-clause-check
returns-in-Some-2-clause-check c =
    let rows = c.args.doc.now in let question = question_of c.args.question.now in let fields = c.in_ok-fields.fields in let x = c.in-Some.signature in
    let given = ap (signature_failure rows fields) (sym c.bytes.ensures) ∙ c.in_ok-failure.ensures.failure ∙ ap Ok c.in-Some-2.is in
    with_key rows question x (sym c.in-Some.ensures.row) fields c.in_ok-fields.ensures.fields c.in_ok-key.key.now c.in_ok-key.ensures
    ∙ ap (λ (r : Result (Option Report) ValidateRefusal). and_then r (λ f. Ok (check_of x fields f))) given

pub returns-in-None-clause-check : goal.returns-in-None-clause-check
returns-in-None-clause-check c =
    let rows = c.args.doc.now in let question = question_of c.args.question.now in let fields = c.in_ok-fields.fields in let x = c.in-Some.signature in
    let given = ap (signature_failure rows fields) (sym c.bytes.ensures) ∙ c.in_ok-failure.ensures.failure ∙ ap Ok c.in-None.is in
    with_key rows question x (sym c.in-Some.ensures.row) fields c.in_ok-fields.ensures.fields c.in_ok-key.key.now c.in_ok-key.ensures
    ∙ ap (λ (r : Result (Option Report) ValidateRefusal). and_then r (λ f. Ok (check_of x fields f))) given
