use Rattle.std.proofs.Common.{◌≡◌, ◌+◌, ◌-◌, ◌*◌, ℕ, min, drop, get_or, sym, ap, ◌∙◌}
use Rattle.std.proofs.lemmas.List.{drop_more, drop_all}
use Rattle.std.proofs.Math.Nat.{min-le_right, min-eq_left}
use Rattle.dsig_fields.specs.Lengths as spec
use Rattle.dsig_fields.proofs.LengthLaws.{number_more, number_all, capped_behind}
use Rattle.dsig_fields.proofs.lengths.number_in.Goals as goal

pub loop-digit-preserved : goal.loop-digit-preserved
loop-digit-preserved c =
    let digits = c.args.digits.now in
    let i = c.loop-digit.digit-index in
    let rest = drop (i + 1) digits in
    let same : c.min-number.result ≡ min (10 * c.loop-digit.number + (get_or digits i 0 - 48)) 513 = c.min-number.ensures ∙ ap (λ (k : ℕ). min (10 * c.loop-digit.number + k) 513) c.from.ensures in (
      rw same (min-le_right _ 513),
      ap (λ (n : ℕ). min (spec.number_behind n rest) 513) same
          ∙ capped_behind 513 (10 * c.loop-digit.number + (get_or digits i 0 - 48)) rest
          ∙ ap (λ (n : ℕ). min n 513) (sym (number_more c.loop-digit.number (get_or digits i 0) rest) ∙ ap (spec.number_behind c.loop-digit.number) (sym (drop_more digits i 0 c.loop-digit-test.true)))
          ∙ c.loop-digit.invariant.1,
    )

pub returns : goal.returns
returns c =
    sym (min-eq_left c.loop-digit.invariant.0)
    ∙ ap (λ (n : ℕ). min n 513) (sym (number_all c.loop-digit.number) ∙ ap (spec.number_behind c.loop-digit.number) (sym (drop_all c.loop-digit.digit-index c.args.digits.now c.loop-digit-test.false)))
    ∙ c.loop-digit.invariant.1
