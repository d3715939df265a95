use Rattle.std.proofs.Common.{◌≡◌, ℕ, length, drop, map, nat_lt}
use Rattle.node_sets.specs.Members.{has}
use Rattle.filter2.specs.Filters.{filtered_from}
use Rattle.filter2.specs.Code.Selections.{filter_of}
use Rattle.filter2.proofs.filters.filter_all.Given as goal

abbrev pub invariant-loop-filter : goal.invariant-loop-filter
invariant-loop-filter l = record {
  rows : l.so_far.rows ≡ l.doc;
  members : (k : ℕ) → filtered_from (map filter_of (drop l.filter-index l.filters)) (has l.so_far.members) k
      ≡ filtered_from (map filter_of l.filters) (λ y. nat_lt y (length l.doc)) k;
}
