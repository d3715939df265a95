use Rattle.std.proofs.Common.{ap, sym, ◌∙◌}
use Rattle.std.specs.Str.{chars}
use Rattle.xpath_value.specs.Texts.{translated}
use Rattle.xpath_value.proofs.Characters.{all_met}
use Rattle.xpath_value.proofs.Translations.{step_none, step_some, translated-nil}
use Rattle.xpath_value.proofs.text.translate.Goals as goal

pub loop-c-init : goal.loop-c-init
loop-c-init c = c.new-out.ensures ∙ translated-nil _ _

pub loop-c-preserved-in-Continue-1 : goal.loop-c-preserved-in-Continue-1
loop-c-preserved-in-Continue-1 c =
    step_some (chars c.args.characters.now) (chars c.args.others.now) c.loop-c.out _ c.loop-c.yielded c.in-Some.c c.in-Some-replacement.d c.loop-c.invariant
    (sym c.replacement.ensures ∙ c.in-Some-replacement.is) c.in_ok-push-in-Some-replacement.ensures.ok

pub loop-c-preserved : goal.loop-c-preserved
loop-c-preserved c =
    step_none (chars c.args.characters.now) (chars c.args.others.now) c.loop-c.out c.loop-c.yielded c.in-Some.c c.loop-c.invariant (sym c.replacement.ensures ∙ c.in-None-replacement.is)

pub returns : goal.returns
returns c =
    c.loop-c.invariant
    ∙ ap (translated (chars c.args.characters.now) (chars c.args.others.now))
    (all_met c.args.text.now _ _ _ c.loop-c.yielded c.utf8.text (cc) c.loop-c.yielded_by _ c.in-None.is c.next.ensures.steps)
