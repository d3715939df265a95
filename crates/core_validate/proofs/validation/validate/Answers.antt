use Rattle.std.proofs.Common.{◌∙◌, ◌++◌, ℕ, List, Result, Ok, Err, ap, refl, sym, subst, append-nil}
use Rattle.std.proofs.lemmas.Result.{err_from_is_err_and}
use Rattle.dsig_fields.specs.Keys.{question_of}
use Rattle.transforms.specs.Asked.{names_asked}
use Rattle.transforms.specs.Outcome.{outcome}
use Rattle.transforms.specs.declared.outcome.Report.{Report}
use Rattle.transforms.specs.declared.outcome.ValidateRefusal.{ValidateRefusal}
use Rattle.core_validate.specs.Answers.{AsksAll, Gives}
use Rattle.core_validate.specs.Code.Signature.{CheckFits, signature_check}
use Rattle.core_validate.specs.declared.validation.SignatureCheck.{SignatureCheck}
use Rattle.core_validate.specs.declared.validation.SignatureCheck.TheVariants as check
use Rattle.core_validate.proofs.AskLaws.{asked_nothing, counted_stop, own_result}
use Rattle.core_validate.proofs.OutcomeLaws.{authentic, names_at, outcome_at}
use Rattle.core_validate.proofs.ProgressLaws.{refuses_from}
use Rattle.core_validate.proofs.ReachedLaws.{failure_reached, few_failure, own_stop, references_reached, refusal_reached, tells_each}
use Rattle.core_validate.proofs.Verdicts.{given_validated, reports_verdicts}
use Rattle.core_validate.proofs.validation.validate.Goals as goal

pub returns-in_err-failure-clause-outcome : goal.returns-in_err-failure-clause-outcome
returns-in_err-failure-clause-outcome g c = λ files tells.
    let rows = c.args.doc.now in let question = question_of c.args.question.now in let cause = c.in_err-failure.field-0.0 in
    let e = err_from_is_err_and c.from_residual.result c.from_residual.ensures.1 in
    rw (e.1, e.2)
    (refuses_from cause (signature_check rows question) (outcome rows question files) (λ h. outcome_at rows question files (Err cause) h) c.in_err-failure.ensures.check)

pub returns-in_err-failure-clause-agreed : goal.returns-in_err-failure-clause-agreed
returns-in_err-failure-clause-agreed g c = λ octets files spelled tells.
    let e = err_from_is_err_and c.from_residual.result c.from_residual.ensures.1 in
    rw e.1 tt

pub returns-in_err-failure-clause-reached : goal.returns-in_err-failure-clause-reached
returns-in_err-failure-clause-reached g c =
    let e = err_from_is_err_and c.from_residual.result c.from_residual.ensures.1 in
    rw (e.1, e.2) (refusal_reached c.args.doc.now (question_of c.args.question.now) c.in_err-failure.field-0.0 c.in_err-failure.ensures.check)

pub returns-in_err-failure-clause-causes : goal.returns-in_err-failure-clause-causes
returns-in_err-failure-clause-causes g c =
    let e = err_from_is_err_and c.from_residual.result c.from_residual.ensures.1 in
    rw (e.1, e.2) (own_stop c.args.doc.now (question_of c.args.question.now) c.in_err-failure.field-0.0 c.in_err-failure.ensures.check)

pub returns-in_err-failure-clause-asked : goal.returns-in_err-failure-clause-asked
returns-in_err-failure-clause-asked g c = λ files told.
    let rows = c.args.doc.now in let question = question_of c.args.question.now in let cause = c.in_err-failure.field-0.0 in
    let e = err_from_is_err_and c.from_residual.result c.from_residual.ensures.1 in
    rw (e.1, e.2)
    (asked_nothing cause (signature_check rows question) (names_asked rows question files) _ c.in_err-failure.ensures.check (λ h. names_at rows question files (Err cause) h))

pub returns-in_err-failure-clause-faults : goal.returns-in_err-failure-clause-faults
returns-in_err-failure-clause-faults g c =
    let e = err_from_is_err_and c.from_residual.result c.from_residual.ensures.1 in
    rw (e.1, e.2) (counted_stop c.in_err-failure.field-0.0 (signature_check c.args.doc.now (question_of c.args.question.now)) _ _ c.in_err-failure.ensures.check refl)

pub returns-in-Fails-clause-outcome : goal.returns-in-Fails-clause-outcome
returns-in-Fails-clause-outcome g c = λ files tells.
    let given = c.in_ok-failure.ensures.check ∙ ap Ok c.in-Fails.is in
    outcome_at c.args.doc.now (question_of c.args.question.now) files (Ok (check.Fails c.in-Fails.failure)) given

pub returns-in-Fails-clause-agreed : goal.returns-in-Fails-clause-agreed
returns-in-Fails-clause-agreed g c = λ octets files spelled tells.
    let rows = c.args.doc.now in let question = question_of c.args.question.now in
    let given = c.in_ok-failure.ensures.check ∙ ap Ok c.in-Fails.is in
    reports_verdicts octets rows question files c.in-Fails.failure spelled (outcome_at rows question files (Ok (check.Fails c.in-Fails.failure)) given)

pub returns-in-Fails-clause-reached : goal.returns-in-Fails-clause-reached
returns-in-Fails-clause-reached g c =
    let given = c.in_ok-failure.ensures.check ∙ ap Ok c.in-Fails.is in
    let P : SignatureCheck → Type 0 = CheckFits c.args.doc.now in let kind = subst P c.in-Fails.is c.in_ok-failure.ensures.fit in
    failure_reached c.args.doc.now (question_of c.args.question.now) c.in-Fails.failure kind given

pub returns-in-Fails-clause-few : goal.returns-in-Fails-clause-few
returns-in-Fails-clause-few g c =
    let P : SignatureCheck → Type 0 = CheckFits c.args.doc.now in let kind = subst P c.in-Fails.is c.in_ok-failure.ensures.fit in
    few_failure c.in-Fails.failure kind

pub returns-in-Fails-clause-asked : goal.returns-in-Fails-clause-asked
returns-in-Fails-clause-asked g c = λ files told.
    let given = c.in_ok-failure.ensures.check ∙ ap Ok c.in-Fails.is in
    let rows = c.args.doc.now in let question = question_of c.args.question.now in
    sym (ap (λ (t : List (List ℕ)). g.F.Folder.asked c.args.folder.now ++ t) (names_at rows question files (Ok (check.Fails c.in-Fails.failure)) given) ∙ append-nil (g.F.Folder.asked c.args.folder.now))

pub validate_references-requires-clause-few : goal.validate_references-requires-clause-few
validate_references-requires-clause-few g c =
    let P : SignatureCheck → Type 0 = CheckFits c.args.doc.now in let fit = subst P c.in-Holds.is c.in_ok-failure.ensures.fit in fit.1.few

pub validate_references-requires-clause-fit : goal.validate_references-requires-clause-fit
validate_references-requires-clause-fit g c =
    let P : SignatureCheck → Type 0 = CheckFits c.args.doc.now in let fit = subst P c.in-Holds.is c.in_ok-failure.ensures.fit in fit.1.references

pub validate_references-requires-clause-signature : goal.validate_references-requires-clause-signature
validate_references-requires-clause-signature g c =
    let P : SignatureCheck → Type 0 = CheckFits c.args.doc.now in let fit = subst P c.in-Holds.is c.in_ok-failure.ensures.fit in fit.0

pub returns-in-Holds-clause-outcome : goal.returns-in-Holds-clause-outcome
returns-in-Holds-clause-outcome g c = λ files tells.
    let rows = c.args.doc.now in let question = question_of c.args.question.now in
    let x = c.in-Holds.signature in let fields = c.in-Holds.fields in
    let given = c.in_ok-failure.ensures.check ∙ ap Ok c.in-Holds.is in
    let result = c.validate_references.result in
    let P : Result Report ValidateRefusal → Type 0 = λ o. Gives (λ r. r) result o in
    subst P (sym (outcome_at rows question files (Ok (check.Holds x fields)) given))
    (c.validate_references.ensures.report files (tells_each rows question _ files x fields (authentic rows question x fields given) tells))

pub returns-in-Holds-clause-agreed : goal.returns-in-Holds-clause-agreed
returns-in-Holds-clause-agreed g c = λ octets files spelled tells.
    let rows = c.args.doc.now in let question = question_of c.args.question.now in
    let x = c.in-Holds.signature in let fields = c.in-Holds.fields in
    let given = c.in_ok-failure.ensures.check ∙ ap Ok c.in-Holds.is in
    let result = c.validate_references.result in
    let P : Result Report ValidateRefusal → Type 0 = λ o. Gives (λ r. r) result o in
    given_validated octets rows question files result spelled
    (subst P (sym (outcome_at rows question files (Ok (check.Holds x fields)) given))
    (c.validate_references.ensures.report files (tells_each rows question _ files x fields (authentic rows question x fields given) tells)))

pub returns-in-Holds-clause-reached : goal.returns-in-Holds-clause-reached
returns-in-Holds-clause-reached g c =
    let given = c.in_ok-failure.ensures.check ∙ ap Ok c.in-Holds.is in
    references_reached c.args.doc.now (question_of c.args.question.now) c.in-Holds.signature c.in-Holds.fields c.validate_references.result given
    c.validate_references.ensures.causes c.validate_references.ensures.reached

pub returns-in-Holds-clause-causes : goal.returns-in-Holds-clause-causes
returns-in-Holds-clause-causes g c = own_result c.validate_references.result c.validate_references.ensures.causes

pub returns-in-Holds-clause-asked : goal.returns-in-Holds-clause-asked
returns-in-Holds-clause-asked g c = λ files told.
    let rows = c.args.doc.now in let question = question_of c.args.question.now in
    let given = c.in_ok-failure.ensures.check ∙ ap Ok c.in-Holds.is in
    let result = c.validate_references.result in
    let P : List (List ℕ) → Type 0 = λ names. AsksAll result names (g.F.Folder.asked c.args.folder.now) (g.F.Folder.asked c.validate_references.new.folder) in
    subst P (sym (names_at rows question files (Ok (check.Holds c.in-Holds.signature c.in-Holds.fields)) given)) (c.validate_references.ensures.asked files told)
