use Rattle.std.proofs.Common.{Ok, Err, Some, ◌≡◌, ◌∙◌, true, false, ℕ, ap, sym}
use Rattle.std.proofs.lemmas.Result.{err_from_is_err_and}
use Rattle.dsig_fields.specs.Holds.{is_long_enough, value_bits}
use Rattle.transforms.specs.declared.outcome.Report.TheVariants as report
use Rattle.core_validate.specs.Code.Signature.{signature_failure, value_stands}
use Rattle.core_validate.proofs.ProgressLaws.{stops_on}
use Rattle.core_validate.proofs.SignatureLaws.{by_value, too_few_bits}
use Rattle.core_validate.proofs.signature.signature_failure.Goals as goal

pub returns-then-not-is_long_enough-clause-failure : goal.returns-then-not-is_long_enough-clause-failure
returns-then-not-is_long_enough-clause-failure c =
    let fields = c.args.fields.now in
    let short : is_long_enough fields.mac (value_bits fields.mac fields.bits) ≡ false =
    ap (is_long_enough fields.mac) (sym c.value_bits-bits.ensures) ∙ sym c.is_long_enough.ensures ∙ c.if-not-is_long_enough.true in
    too_few_bits c.args.doc.now fields c.args.key.now short ∙ ap (λ (n : ℕ). Ok (Some (report.ShortTruncation n))) (sym c.value_bits-bits.ensures)

pub returns-in_err-value_stands-clause-failure : goal.returns-in_err-value_stands-clause-failure
returns-in_err-value_stands-clause-failure c =
    let rows = c.args.doc.now in let fields = c.args.fields.now in let key = c.args.key.now in
    let long : is_long_enough fields.mac (value_bits fields.mac fields.bits) ≡ true =
    ap (is_long_enough fields.mac) (sym c.value_bits-bits.ensures) ∙ sym c.is_long_enough.ensures ∙ c.if-not-is_long_enough.false in
    let cause = c.in_err-value_stands.field-0.0 in
    let q = err_from_is_err_and c.from_residual.result c.from_residual.ensures.1 in
    rw (q.1, q.2)
    (stops_on cause (value_stands rows fields key) (signature_failure rows fields key)
    (λ (e : value_stands rows fields key ≡ Err cause). by_value rows fields key (Err cause) long e)
    c.in_err-value_stands.ensures)

pub returns-then-not-branch-clause-failure : goal.returns-then-not-branch-clause-failure
returns-then-not-branch-clause-failure c =
    let rows = c.args.doc.now in let fields = c.args.fields.now in let key = c.args.key.now in
    let long : is_long_enough fields.mac (value_bits fields.mac fields.bits) ≡ true =
    ap (is_long_enough fields.mac) (sym c.value_bits-bits.ensures) ∙ sym c.is_long_enough.ensures ∙ c.if-not-is_long_enough.false in
    by_value rows fields key (Ok false) long (c.in_ok-value_stands.ensures ∙ ap Ok c.if-not-branch.true)

pub returns-clause-failure : goal.returns-clause-failure
returns-clause-failure c =
    let rows = c.args.doc.now in let fields = c.args.fields.now in let key = c.args.key.now in
    let long : is_long_enough fields.mac (value_bits fields.mac fields.bits) ≡ true =
    ap (is_long_enough fields.mac) (sym c.value_bits-bits.ensures) ∙ sym c.is_long_enough.ensures ∙ c.if-not-is_long_enough.false in
    by_value rows fields key (Ok true) long (c.in_ok-value_stands.ensures ∙ ap Ok c.if-not-branch.false)
