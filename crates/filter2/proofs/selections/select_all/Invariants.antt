use Rattle.std.proofs.Common.{◌≡◌, ◌+◌, drop, map}
use Rattle.std.specs.List.{All}
use Rattle.filter2.specs.Selections.{filters_from}
use Rattle.filter2.specs.Code.Selections.{filter_of}
use Rattle.filter2.proofs.SelectionLemmas.{behind}
use Rattle.filter2.proofs.selections.select_all.Given as goal

abbrev pub invariant-loop-i : goal.invariant-loop-i
invariant-loop-i l = record {
  filters : behind (map filter_of l.selections.items) (filters_from l.doc (l.i + 1) (drop l.i l.filters) (drop l.i l.here)) ≡ filters_from l.doc 1 l.filters l.here;
  rows : All (λ s. s.nodes.rows ≡ l.doc) l.selections.items;
}
