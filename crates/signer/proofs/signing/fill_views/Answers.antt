use Rattle.std.proofs.Common.{ℕ, List, Ok, Err, sym, subst}
use Rattle.signer.specs.Answers.{AsksAll}
use Rattle.signer.specs.Signed.{unsigned}
use Rattle.signer.specs.Code.Reading.{seen_template}
use Rattle.signer.specs.Code.Sealing.{seal_of}
use Rattle.signer.specs.Code.Signing.{names_behind_views, outcome_behind, outcome_of_seal}
use Rattle.signer.proofs.Refusing.{asked_nothing, gives_by, refuses_from}
use Rattle.signer.proofs.SigningLaws.{behind_at, names_behind_at}
use Rattle.signer.proofs.signing.fill_views.Goals as goal

pub returns-in-Ok-clause-outcome : goal.returns-in-Ok-clause-outcome
returns-in-Ok-clause-outcome g c = λ files tells.
    let octets = c.args.bytes.now in let rows = c.args.doc.now in let t = seen_template c.args.template.now in let place = c.args.place.now in let views = c.args.views.now in let seal = c.in-Ok.seal in
    gives_by (λ (made : List ℕ). made) c.fill_value.result (outcome_of_seal octets rows t place files views seal) (outcome_behind octets rows t place files views)
    (behind_at octets rows t place files views (Ok seal) c.in-Ok.ensures)
    (c.fill_value.ensures.outcome files tells)

pub returns-in-Ok-clause-asked : goal.returns-in-Ok-clause-asked
returns-in-Ok-clause-asked g c = λ files told.
    let octets = c.args.bytes.now in let rows = c.args.doc.now in let t = seen_template c.args.template.now in let place = c.args.place.now in let views = c.args.views.now in let result = c.fill_value.result in
    let P : List (List ℕ) → Type 0 = λ names. AsksAll result names (g.F.Folder.asked c.args.folder.now) (g.F.Folder.asked c.fill_value.new.folder) in
    subst P (sym (names_behind_at octets rows t place files views (Ok c.in-Ok.seal) c.in-Ok.ensures)) (c.fill_value.ensures.asked files told)

pub returns-in-Err-clause-outcome : goal.returns-in-Err-clause-outcome
returns-in-Err-clause-outcome g c = λ files tells.
    let octets = c.args.bytes.now in let rows = c.args.doc.now in let t = seen_template c.args.template.now in let place = c.args.place.now in let views = c.args.views.now in let cause = c.in-Err.cause in
    refuses_from cause (seal_of (unsigned octets rows t.fields views) t.fields t.key) (outcome_behind octets rows t place files views) (λ e. behind_at octets rows t place files views (Err cause) e) c.in-Err.ensures

pub returns-in-Err-clause-asked : goal.returns-in-Err-clause-asked
returns-in-Err-clause-asked g c = λ files told.
    let octets = c.args.bytes.now in let rows = c.args.doc.now in let t = seen_template c.args.template.now in let place = c.args.place.now in let views = c.args.views.now in let cause = c.in-Err.cause in
    asked_nothing cause (seal_of (unsigned octets rows t.fields views) t.fields t.key) (names_behind_views octets rows t place files views) _ c.in-Err.ensures (λ e. names_behind_at octets rows t place files views (Err cause) e)
