use Rattle.std.proofs.Common.{◌≡◌}
use Rattle.std.specs.Str.{chars}
use Rattle.xpath_value.specs.Texts.{translated}
use Rattle.xpath_value.proofs.text.translate.Given as goal

abbrev pub invariant-loop-c : goal.invariant-loop-c
invariant-loop-c l = l.out ≡ translated (chars l.characters) (chars l.others) l.yielded
