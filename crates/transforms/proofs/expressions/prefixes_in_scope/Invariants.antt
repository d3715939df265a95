use Rattle.std.proofs.Common.{◌≡◌, ◌+◌, ◌-◌, map}
use Rattle.std.specs.List.{range_with_len}
use Rattle.transforms.specs.Expressions.{binding}
use Rattle.transforms.proofs.expressions.prefixes_in_scope.Given as goal

abbrev pub invariant-loop-y : goal.invariant-loop-y
invariant-loop-y l = l.prefixes ≡ map (binding l.doc) (range_with_len (l.element + 1) (l.y - (l.element + 1)))
