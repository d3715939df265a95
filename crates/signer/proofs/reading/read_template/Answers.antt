use Rattle.std.proofs.Common.{Ok, Err, ◌≡◌, ◌∙◌, ℕ, List, Result, ap, sym}
use Rattle.std.proofs.lemmas.Result.{err_from_is_err_and}
use Rattle.sig_base.specs.Outcomes.{and_then}
use Rattle.dsig_fields.specs.Keys.{question_of}
use Rattle.dsig_fields.specs.declared.fields.Fields.{Fields}
use Rattle.signer.specs.Code.Reading.{TemplateOf, can_be_signed, template_of}
use Rattle.signer.specs.declared.refusal.SignRefusal.{SignRefusal}
use Rattle.signer.proofs.Refusing.{stops_on}
use Rattle.signer.proofs.SigningLaws.{no_key, no_signature, not_read, with_key}
use Rattle.signer.proofs.reading.read_template.Goals as goal

abbrev template : ℕ → Fields → List ℕ → TemplateOf
template x fields key = record { signature = x; fields = fields; key = key }

pub returns-in_default-clause-template : goal.returns-in_default-clause-template
returns-in_default-clause-template c = no_signature c.args.doc.now (question_of c.args.question.now) (sym c.in_default.ensures.row)

pub returns-in_err-fields-clause-template : goal.returns-in_err-fields-clause-template
returns-in_err-fields-clause-template c =
    let q = err_from_is_err_and c.from_residual.result c.from_residual.ensures.1 in
    rw (q.1, q.2)
    (not_read c.args.doc.now (question_of c.args.question.now) c.in-Some.signature (sym c.in-Some.ensures.row) c.in_err-fields.field-0.0 c.in_err-fields.ensures.fields)

pub returns-in_err-key-clause-template : goal.returns-in_err-key-clause-template
returns-in_err-key-clause-template c =
    let q = err_from_is_err_and c.from_residual-in_err-key.result c.from_residual-in_err-key.ensures.1 in
    rw (q.1, q.2)
    (no_key c.args.doc.now (question_of c.args.question.now) c.in-Some.signature (sym c.in-Some.ensures.row) c.in_ok-fields.fields c.in_ok-fields.ensures.fields
    c.in_err-key.field-0.0 c.in_err-key.ensures)

pub returns-in_err-can_be_signed-clause-template : goal.returns-in_err-can_be_signed-clause-template
returns-in_err-can_be_signed-clause-template c =
    let rows = c.args.doc.now in let question = question_of c.args.question.now in let fields = c.in_ok-fields.fields in let x = c.in-Some.signature in
    let cause = c.in_err-can_be_signed.field-0.0 in let key = c.in_ok-key.key.now.octets in
    let q = err_from_is_err_and c.from_residual-in_err-can_be_signed.result c.from_residual-in_err-can_be_signed.ensures.1 in
    let next = λ (k : List ℕ) (r : Result (Unit {0}) SignRefusal). and_then r (λ can. Ok (template x fields k)) in
    rw (q.1, q.2)
    (stops_on cause (can_be_signed rows fields) (template_of rows question)
    (λ (e : can_be_signed rows fields ≡ Err cause).
    with_key rows question x (sym c.in-Some.ensures.row) fields c.in_ok-fields.ensures.fields c.in_ok-key.key.now c.in_ok-key.ensures ∙ ap (next key) e)
    c.in_err-can_be_signed.ensures)

pub returns-clause-template : goal.returns-clause-template
returns-clause-template c =
    let rows = c.args.doc.now in let question = question_of c.args.question.now in let fields = c.in_ok-fields.fields in let x = c.in-Some.signature in
    let key = c.in_ok-key.key.now.octets in
    let next = λ (k : List ℕ) (r : Result (Unit {0}) SignRefusal). and_then r (λ can. Ok (template x fields k)) in
    with_key rows question x (sym c.in-Some.ensures.row) fields c.in_ok-fields.ensures.fields c.in_ok-key.key.now c.in_ok-key.ensures
    ∙ ap (next key) c.in_ok-can_be_signed.ensures
    ∙ ap (λ (k : List ℕ). Ok (template x fields k)) (sym c.bytes.ensures)
