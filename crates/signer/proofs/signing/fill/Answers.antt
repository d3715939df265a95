use Rattle.std.proofs.Common.{ℕ, List, sym, subst}
use Rattle.dsig_fields.specs.Keys.{question_of}
use Rattle.xml_read.specs.ReadOutcome.{read_outcome}
use Rattle.signer.specs.Answers.{AsksAll}
use Rattle.signer.specs.Asked.{names_asked}
use Rattle.signer.specs.Code.Refusals.{read_cause}
use Rattle.signer.specs.Outcome.{outcome, outcome_of_rows}
use Rattle.signer.proofs.Refusing.{gives_by, refuses_from}
use Rattle.signer.proofs.SigningLaws.{names_at, nothing_asked, outcome_at, outcome_stops, read_asks, tells_rows, valid_of}
use Rattle.signer.proofs.signing.fill.Goals as goal

pub returns-in-Ok-clause-outcome : goal.returns-in-Ok-clause-outcome
returns-in-Ok-clause-outcome g c = λ files tells.
    let octets = c.args.bytes.now in let question = question_of c.args.question.now in let rows = c.in-Ok.doc in
    gives_by (λ (made : List ℕ). made) c.fill_document.result (outcome_of_rows octets rows question files) (outcome octets question files) (outcome_at octets rows question files c.in-Ok.ensures)
    (c.fill_document.ensures.outcome files (tells_rows octets rows question _ files c.in-Ok.ensures tells))

pub returns-in-Ok-clause-valid : goal.returns-in-Ok-clause-valid
returns-in-Ok-clause-valid g c = λ files tells.
    let octets = c.args.bytes.now in let question = question_of c.args.question.now in let rows = c.in-Ok.doc in
    valid_of octets question files (λ (made : List ℕ). made) c.fill_document.result
    (gives_by (λ (made : List ℕ). made) c.fill_document.result (outcome_of_rows octets rows question files) (outcome octets question files) (outcome_at octets rows question files c.in-Ok.ensures)
    (c.fill_document.ensures.outcome files (tells_rows octets rows question _ files c.in-Ok.ensures tells)))

pub returns-in-Ok-clause-asked : goal.returns-in-Ok-clause-asked
returns-in-Ok-clause-asked g c = λ files told.
    let octets = c.args.bytes.now in let question = question_of c.args.question.now in let result = c.fill_document.result in
    let P : List (List ℕ) → Type 0 = λ names. AsksAll result names (g.F.Folder.asked c.args.folder.now) (g.F.Folder.asked c.fill_document.new.folder) in
    subst P (sym (names_at octets c.in-Ok.doc question files c.in-Ok.ensures)) (c.fill_document.ensures.asked files told)

pub returns-clause-outcome : goal.returns-clause-outcome
returns-clause-outcome g c = λ files tells.
    let octets = c.args.bytes.now in let question = question_of c.args.question.now in
    rw c.read_cause.ensures
    (refuses_from (read_cause c.in-Err.cause) (outcome octets question files) (outcome octets question files) (λ e. e) (outcome_stops octets question files c.in-Err.cause c.in-Err.ensures))

pub returns-clause-asked : goal.returns-clause-asked
returns-clause-asked g c = λ files told.
    let octets = c.args.bytes.now in let question = question_of c.args.question.now in
    rw c.read_cause.ensures (read_asks (read_outcome octets) (names_asked octets question files) _ c.in-Err.cause c.in-Err.ensures (λ e. nothing_asked octets question files c.in-Err.cause e))
