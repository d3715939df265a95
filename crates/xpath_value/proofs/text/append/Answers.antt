use Rattle.std.proofs.Common.{◌++◌, ap, ◌∙◌, List, ℕ}
use Rattle.xpath_value.proofs.Characters.{all_met}
use Rattle.xpath_value.proofs.text.append.Goals as goal

pub returns : goal.returns
returns c =
    c.loop-c.invariant
    ∙ ap (λ (t : List ℕ). c.args.out.now ++ t) (all_met c.args.text.now _ _ _ c.loop-c.yielded c.utf8.text (cc) c.loop-c.yielded_by _ c.in-None.is c.next.ensures.steps)
