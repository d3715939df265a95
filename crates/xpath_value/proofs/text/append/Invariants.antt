use Rattle.std.proofs.Common.{◌≡◌, ◌++◌}
use Rattle.xpath_value.proofs.text.append.Given as goal

abbrev pub invariant-loop-c : goal.invariant-loop-c
invariant-loop-c l = l.out ≡ l.initial.out ++ l.yielded
