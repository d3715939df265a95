use Rattle.std.proofs.Common.{◌∙◌, ℕ, List, Ok, Err, append-nil, inl}
use Rattle.transforms.specs.Asked.{names_behind}
use Rattle.transforms.proofs.AskLaws.{rest_begins, rest_goes}
use Rattle.core_validate.specs.Progress.{sources_of}
use Rattle.signer.specs.Outcome.{views_from}
use Rattle.signer.specs.Code.Reading.{seen_template}
use Rattle.signer.specs.Code.Signing.{names_behind_views, names_of_template, outcome_behind, template_outcome}
use Rattle.signer.proofs.Refusing.{asked_refused, asked_rest, gives_by, refuses_on}
use Rattle.signer.proofs.SigningLaws.{template_at, template_names, template_names_at}
use Rattle.signer.proofs.signing.fill_template.Goals as goal

pub returns-in-Ok-clause-outcome : goal.returns-in-Ok-clause-outcome
returns-in-Ok-clause-outcome g c = λ files tells.
    let octets = c.args.bytes.now in let rows = c.args.doc.now in let t = seen_template c.args.template.now in let place = c.args.place.now in let views = c.in-Ok.views in
    gives_by (λ (made : List ℕ). made) c.fill_views.result (outcome_behind octets rows t place files views) (template_outcome octets rows t place files)
    (template_at octets rows t place files (Ok views) (c.in-Ok.ensures.views files tells))
    (c.fill_views.ensures.outcome files (rw c.in-Ok.ensures.held tells))

pub returns-in-Ok-clause-asked : goal.returns-in-Ok-clause-asked
returns-in-Ok-clause-asked g c = λ files told.
    let octets = c.args.bytes.now in let rows = c.args.doc.now in let t = seen_template c.args.template.now in let place = c.args.place.now in let views = c.in-Ok.views in
    let first = names_behind (sources_of rows t.signature place files) 0 t.fields.references in
    let second = names_behind_views octets rows t place files views in
    let all = names_of_template octets rows t place files in
    asked_rest c.fill_views.result _ _ _ all second
    (rest_goes _ _ _ all all first second (rest_begins _ all) (template_names_at octets rows t place files (Ok views) (c.in-Ok.ensures.views files (inl told))) (c.in-Ok.ensures.asked files told))
    (c.fill_views.ensures.asked files (c.in-Ok.ensures.held ∙ told))

pub returns-in-Err-clause-outcome : goal.returns-in-Err-clause-outcome
returns-in-Err-clause-outcome g c = λ files tells.
    let octets = c.args.bytes.now in let rows = c.args.doc.now in let t = seen_template c.args.template.now in let place = c.args.place.now in let cause = c.in-Err.cause in
    refuses_on cause (views_from (sources_of rows t.signature place files) 0 1 t.fields.references) (template_outcome octets rows t place files) (λ e. template_at octets rows t place files (Err cause) e)
    (c.in-Err.ensures.views files tells)

pub returns-in-Err-clause-asked : goal.returns-in-Err-clause-asked
returns-in-Err-clause-asked g c = λ files told.
    let octets = c.args.bytes.now in let rows = c.args.doc.now in let t = seen_template c.args.template.now in let place = c.args.place.now in let cause = c.in-Err.cause in
    let first = names_behind (sources_of rows t.signature place files) 0 t.fields.references in
    let all = names_of_template octets rows t place files in
    asked_refused cause (views_from (sources_of rows t.signature place files) 0 1 t.fields.references) _ _ _ all all first _ (rest_begins _ all) (template_names octets rows t place files)
    (λ e. template_names_at octets rows t place files (Err cause) e ∙ append-nil first)
    (c.in-Err.ensures.views files (inl told)) (c.in-Err.ensures.asked files told)
