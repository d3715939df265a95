use Rattle.std.proofs.Common.{◌≡◌, ◌+◌, ap, ◌∙◌, refl, true, false}
use Rattle.xpath_value.specs.Texts.{at_places, is_kept}
use Rattle.xpath_value.proofs.Characters.{all_met}
use Rattle.xpath_value.proofs.Places.{at_places-nil, one_more, step_kept, step_left}
use Rattle.xpath_value.proofs.text.substring.Goals as goal

pub loop-c-init : goal.loop-c-init
loop-c-init c = (c.new-kept.ensures ∙ at_places-nil _, refl)

pub loop-c-preserved-in-Continue-1 : goal.loop-c-preserved-in-Continue-1
loop-c-preserved-in-Continue-1 c =
    let passes : is_kept c.args.from c.args.count (c.loop-c.place + 1) ≡ true = cc in (
      step_kept (is_kept c.args.from c.args.count) c.loop-c.kept _ c.loop-c.yielded c.in-Some.c c.loop-c.place c.loop-c.invariant.0 c.loop-c.invariant.1 passes c.in_ok-push.ensures.ok,
      one_more _ _ _ c.loop-c.invariant.1,
    )

pub loop-c-preserved : goal.loop-c-preserved
loop-c-preserved c =
    let passes : is_kept c.args.from c.args.count (c.loop-c.place + 1) ≡ false = cc in (
      step_left (is_kept c.args.from c.args.count) c.loop-c.kept c.loop-c.yielded c.in-Some.c c.loop-c.place c.loop-c.invariant.0 c.loop-c.invariant.1 passes,
      one_more _ _ _ c.loop-c.invariant.1,
    )

pub returns : goal.returns
returns c =
    c.loop-c.invariant.0
    ∙ ap (at_places (is_kept c.args.from c.args.count) 1)
    (all_met c.args.text.now _ _ _ c.loop-c.yielded c.utf8.text (cc) c.loop-c.yielded_by _ c.in-None.is c.next.ensures.steps)
