use Rattle.std.proofs.Common.{◌≡◌, ◌≤◌, ◌+◌, ◌-◌, ◌++◌, length, drop, vec_capacity}
use Rattle.c14n_text.specs.Attributes.{in_order}
use Rattle.c14n_rows.proofs.imports.merge_into.Given as goal

abbrev pub invariant-loop-i : goal.invariant-loop-i
invariant-loop-i l = record {
  first_within : l.i ≤ length l.first;
  second_within : l.j ≤ length l.second;
  so_far : l.merged.items ++ in_order l.doc (drop l.i l.first ++ drop l.j l.second) ≡ l.initial.merged.items ++ in_order l.doc (l.first ++ l.second);
  few : length l.merged.items ≤ length l.initial.merged.items + l.i + l.j;
  kept : vec_capacity l.initial.merged ≤ vec_capacity l.merged;
}

abbrev pub decreases-loop-i : goal.decreases-loop-i
decreases-loop-i l = (length l.first - l.i) + (length l.second - l.j)
