use Rattle.std.proofs.Common.{◌≡◌, ◌∙◌, ◌<◌, ℕ, List, Option, length, sym, ap, subst}
use Rattle.std.specs.Prelude.{IfSome}
use Rattle.std.specs.List.{All}
use Rattle.transforms.proofs.ExpressionLaws.{applied, heres_within, not_applied}
use Rattle.transforms.proofs.expressions.keep_filtered.Goals as goal

pub returns-in-Ok-clause-members : goal.returns-in-Ok-clause-members
returns-in-Ok-clause-members c =
    let e = c.in-Ok.ensures in
    applied c.args.own c.args.number c.args.filters.now c.args.expressions.now c.args.set.now c.apply.new.set c.deref.result.now (c.deref.ensures.value ∙ c.in_ok-heres.ensures) e.0 e.1

pub returns-clause-members : goal.returns-clause-members
returns-clause-members c =
    rw c.eval_cause.ensures
    (not_applied c.args.own c.args.number c.args.filters.now c.args.expressions.now c.args.set.now c.apply.new.set c.deref.result.now (c.deref.ensures.value ∙ c.in_ok-heres.ensures) c.in-Err.refusal c.in-Err.ensures.0)

pub apply-requires-clause-here : goal.apply-requires-clause-here
apply-requires-clause-here c =
    let P : List (Option ℕ) → Type 0 = All (λ h. IfSome h (λ x. x < length c.args.set.now.rows)) in
    subst P (sym (c.deref.ensures.value ∙ c.in_ok-heres.ensures)) (heres_within c.args.set.now.rows c.args.own c.args.filters.now c.requires.rows)
