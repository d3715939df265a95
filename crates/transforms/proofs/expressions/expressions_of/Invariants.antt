use Rattle.std.proofs.Common.{◌≡◌, ◌≤◌, ◌+◌, ◌-◌, length, drop}
use Rattle.transforms.specs.Expressions.{expressions_from}
use Rattle.transforms.proofs.ExpressionLaws.{behind}
use Rattle.transforms.proofs.expressions.expressions_of.Given as goal

abbrev pub invariant-loop-filter : goal.invariant-loop-filter
invariant-loop-filter l = record {
  within : l.k ≤ length l.filters;
  value : behind l.expressions.items (expressions_from l.doc l.number (l.k + 1) (drop l.k l.filters)) ≡ expressions_from l.doc l.number 1 l.filters;
  count : length l.expressions.items ≡ l.k;
}

abbrev pub decreases-loop-filter : goal.decreases-loop-filter
decreases-loop-filter l = length l.filters - l.k
