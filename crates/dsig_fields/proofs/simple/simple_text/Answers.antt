use Rattle.std.proofs.Common.{◌<◌, ℕ, List, length, suc, sym, ap, subst, ◌∙◌, arith}
use Rattle.std.specs.List.{All}
use Rattle.std.specs.String.{string_bytes}
use Rattle.std.proofs.lemmas.Result.{err_from_is_err_and}
use Rattle.dsig_fields.specs.Simple as spec
use Rattle.dsig_fields.proofs.Refusals.{refused_as}
use Rattle.dsig_fields.proofs.SimpleLaws.{children_within, with_front, joined_from, joined_turn, joined_refused, joined_all}
use Rattle.dsig_fields.proofs.simple.simple_text.Goals as goal

pub loop-y-init : goal.loop-y-init
loop-y-init c =
    let Within : List ℕ → Type 0 = All (λ y. y < length c.args.doc.now) in (
      subst Within (sym c.axis-walk.ensures.rows) (children_within c.args.doc.now c.args.x),
      rw c.new-text.ensures.bytes (joined_from _ ∙ ap (spec.joined c.args.doc.now) c.axis-walk.ensures.rows),
    )

pub returns-in_err-added_by : goal.returns-in_err-added_by
returns-in_err-added_by c =
    let p = err_from_is_err_and c.from_residual.result c.from_residual.ensures.1 in
    let whole = ap (λ (w : List ℕ). with_front (string_bytes c.loop-y.text) (spec.joined c.args.doc.now w)) (sym c.in-Some.ensures.steps) ∙ c.loop-y.invariant.1 in
    rw (p.1, p.2) (refused_as _ whole (joined_refused c.args.doc.now (string_bytes c.loop-y.text) c.in-Some.y c.next.new.self _ c.in_err-added_by.ensures))

pub loop-y-preserved : goal.loop-y-preserved
loop-y-preserved c =
    let Within : List ℕ → Type 0 = All (λ y. y < length c.args.doc.now) in
    let all = subst Within c.in-Some.ensures.steps c.loop-y.invariant.0 in (
      (λ k d h. all (suc k) d (omega (arith, h))),
      rw c.in_ok-push_str.ensures.bytes (joined_turn c.args.doc.now (string_bytes c.loop-y.text) c.in-Some.y c.next.new.self _ c.in_ok-added_by.ensures)
          ∙ ap (λ (w : List ℕ). with_front (string_bytes c.loop-y.text) (spec.joined c.args.doc.now w)) (sym c.in-Some.ensures.steps)
          ∙ c.loop-y.invariant.1,
    )

pub returns : goal.returns
returns c =
    sym c.loop-y.invariant.1 ∙ ap (λ (w : List ℕ). with_front (string_bytes c.loop-y.text) (spec.joined c.args.doc.now w)) c.in_default.ensures.steps.0 ∙ joined_all c.args.doc.now (string_bytes c.loop-y.text)
