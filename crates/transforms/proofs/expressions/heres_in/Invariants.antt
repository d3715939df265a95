use Rattle.std.proofs.Common.{◌≡◌, ◌≤◌, ◌++◌, ◌-◌, length, drop}
use Rattle.transforms.specs.Expressions.{heres_in}
use Rattle.transforms.proofs.expressions.heres_in.Given as goal

abbrev pub invariant-loop-filter : goal.invariant-loop-filter
invariant-loop-filter l = record {
  within : l.k ≤ length l.filters;
  heres : l.heres.items ++ heres_in l.own (drop l.k l.filters) ≡ heres_in l.own l.filters;
}

abbrev pub decreases-loop-filter : goal.decreases-loop-filter
decreases-loop-filter l = length l.filters - l.k
