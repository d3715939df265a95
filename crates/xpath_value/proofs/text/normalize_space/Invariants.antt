use Rattle.std.proofs.Common.{◌≡◌, false}
use Rattle.xpath_value.specs.Texts.{runs_replaced}
use Rattle.xpath_value.proofs.Runs.{ends_with_space}
use Rattle.xpath_value.proofs.text.normalize_space.Given as goal

abbrev pub invariant-loop-c : goal.invariant-loop-c
invariant-loop-c l = (l.out ≡ runs_replaced l.yielded) × (l.is_behind_space ≡ ends_with_space false l.yielded)
