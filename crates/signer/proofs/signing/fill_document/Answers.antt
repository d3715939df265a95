use Rattle.std.proofs.Common.{ℕ, List, Ok, Err, sym, subst}
use Rattle.dsig_fields.specs.Keys.{question_of}
use Rattle.signer.specs.Answers.{AsksAll}
use Rattle.signer.specs.Outcome.{outcome_of_rows}
use Rattle.signer.specs.Code.Reading.{seen_template, template_of}
use Rattle.signer.specs.Code.Signing.{names_of_rows, template_outcome}
use Rattle.signer.proofs.Refusing.{asked_nothing, gives_by, refuses_from}
use Rattle.signer.proofs.SigningLaws.{is_template, names_rows_at, rows_at, tells_each}
use Rattle.signer.proofs.signing.fill_document.Goals as goal

pub fill_template-requires : goal.fill_template-requires
fill_template-requires g c =
    record {
      template = is_template c.args.bytes.now c.args.doc.now (question_of c.args.question.now) (seen_template c.in-Ok.template) c.requires.read c.in-Ok.ensures.template
          c.in-Ok.ensures.fit.fit c.in-Ok.ensures.fit.within;
    }

pub returns-in-Ok-clause-outcome : goal.returns-in-Ok-clause-outcome
returns-in-Ok-clause-outcome g c = λ files tells.
    let octets = c.args.bytes.now in let question = question_of c.args.question.now in let rows = c.args.doc.now in let t = seen_template c.in-Ok.template in
    gives_by (λ (made : List ℕ). made) c.fill_template.result (template_outcome octets rows t question.place files) (outcome_of_rows octets rows question files)
    (rows_at octets rows question files (Ok t) c.in-Ok.ensures.template)
    (c.fill_template.ensures.outcome files (tells_each octets rows question _ files t c.in-Ok.ensures.template tells))

pub returns-in-Ok-clause-asked : goal.returns-in-Ok-clause-asked
returns-in-Ok-clause-asked g c = λ files told.
    let octets = c.args.bytes.now in let question = question_of c.args.question.now in let rows = c.args.doc.now in let t = seen_template c.in-Ok.template in let result = c.fill_template.result in
    let P : List (List ℕ) → Type 0 = λ names. AsksAll result names (g.F.Folder.asked c.args.folder.now) (g.F.Folder.asked c.fill_template.new.folder) in
    subst P (sym (names_rows_at octets rows question files (Ok t) c.in-Ok.ensures.template)) (c.fill_template.ensures.asked files told)

pub returns-in-Err-clause-outcome : goal.returns-in-Err-clause-outcome
returns-in-Err-clause-outcome g c = λ files tells.
    let octets = c.args.bytes.now in let question = question_of c.args.question.now in let rows = c.args.doc.now in let cause = c.in-Err.cause in
    refuses_from cause (template_of rows question) (outcome_of_rows octets rows question files) (λ e. rows_at octets rows question files (Err cause) e) c.in-Err.ensures.template

pub returns-in-Err-clause-asked : goal.returns-in-Err-clause-asked
returns-in-Err-clause-asked g c = λ files told.
    let octets = c.args.bytes.now in let question = question_of c.args.question.now in let rows = c.args.doc.now in let cause = c.in-Err.cause in
    asked_nothing cause (template_of rows question) (names_of_rows octets rows question files) _ c.in-Err.ensures.template (λ e. names_rows_at octets rows question files (Err cause) e)
