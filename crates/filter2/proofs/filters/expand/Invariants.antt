use Rattle.std.proofs.Common.{◌≡◌, ℕ, ◌||◌}
use Rattle.node_sets.specs.Members.{has}
use Rattle.filter2.specs.Code.Covered.{Reached, covered}
use Rattle.filter2.proofs.filters.expand.Given as goal

abbrev pub invariant-loop-i : goal.invariant-loop-i
invariant-loop-i l = record {
  rows : l.nodes.rows ≡ l.initial.nodes.rows;
  members : (k : ℕ) → has l.nodes.members k ≡ (has l.initial.nodes.members k || covered l.initial.nodes.rows (has l.initial.nodes.members) l.i k);
  reached : Reached l.initial.nodes.rows (has l.initial.nodes.members) l.i l.until;
}
