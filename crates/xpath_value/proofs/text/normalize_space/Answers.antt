use Rattle.std.proofs.Common.{◌≡◌, ap, sym, ◌∙◌, refl, true, false}
use Rattle.xpath_value.specs.Characters.{is_space}
use Rattle.xpath_value.specs.Texts.{runs_replaced}
use Rattle.xpath_value.proofs.Characters.{all_met}
use Rattle.xpath_value.proofs.Runs.{ends_with_last, normalized_is, runs-nil, step_again, step_first, step_other}
use Rattle.xpath_value.proofs.text.normalize_space.Goals as goal
use Rattle.xpath_value.proofs.text.normalize_space.Goals.{then-not-is_space+in_ok-push, else-not-is_space+then-not-is_behind_space+in_ok-push-2, else-not-is_space+else-not-is_behind_space}

pub loop-c-init : goal.loop-c-init
loop-c-init c = (c.new-out.ensures ∙ runs-nil, refl)

pub loop-c-preserved : goal.loop-c-preserved
loop-c-preserved c = (
  elim c.if-not-is_space.branch [
    | then-not-is_space+in_ok-push w ↦
        let s : is_space c.in-Some.c ≡ false = cc in
        step_other c.loop-c.out _ c.loop-c.yielded c.loop-c.is_behind_space c.in-Some.c c.loop-c.invariant.0 c.loop-c.invariant.1 s (w.out-is ∙ w.in_ok-push.ensures.ok)
    | else-not-is_space+then-not-is_behind_space+in_ok-push-2 w ↦
        let s : is_space c.in-Some.c ≡ true = cc in
        let b : c.loop-c.is_behind_space ≡ false = cc in
        step_first c.loop-c.out _ c.loop-c.yielded c.loop-c.is_behind_space c.in-Some.c c.loop-c.invariant.0 c.loop-c.invariant.1 b s (w.out-is ∙ w.in_ok-push-2.ensures.ok)
    | else-not-is_space+else-not-is_behind_space w ↦
        let s : is_space c.in-Some.c ≡ true = cc in
        let b : c.loop-c.is_behind_space ≡ true = cc in
        w.out-is ∙ step_again c.loop-c.out c.loop-c.yielded c.loop-c.is_behind_space c.in-Some.c c.loop-c.invariant.0 c.loop-c.invariant.1 b s
  ],
  c.is_space-is_behind_space.ensures ∙ sym (ends_with_last false c.loop-c.yielded c.in-Some.c),
)

pub returns : goal.returns
returns c =
    normalized_is _ _
    (c.loop-c.invariant.0
    ∙ ap runs_replaced
    (all_met c.strip_space.result.now _ _ _ c.loop-c.yielded c.strip_space.utf8 (cc) c.loop-c.yielded_by _ c.in-None.is c.next.ensures.steps ∙ c.strip_space.ensures))
