use Rattle.std.proofs.Common.{◌≡◌, ◌<◌, ◌≤◌, ◌++◌, length, reverse, vec_capacity}
use Rattle.std.specs.List.{All, filter}
use Rattle.node_sets.specs.View.{in_view}
use Rattle.c14n_text.specs.Namespaces.{eleven}
use Rattle.c14n_text.specs.Bases.{is_base}
use Rattle.c14n_rows.specs.Code.Stacks.{runs_at, values_on, KeepsRoom}
use Rattle.xml_doc.proofs.Ranges.{numbers}
use Rattle.c14n_rows.proofs.stacks.enter_runs.Given as goal

abbrev pub invariant-loop-a : goal.invariant-loop-a
invariant-loop-a l = record {
  until : l.own.first_attribute ≤ l.a;
  within : l.a ≤ l.own.first_child;
  rest : l.runs.items ++ reverse (filter (is_base l.doc) (numbers l.own.first_attribute l.a)) ≡ runs_at l.doc (in_view l.fn.set) eleven l.x;
  fit : All (λ a. a < length l.doc) l.runs.items;
  kept : vec_capacity l.fn.runs ≤ vec_capacity l.runs;
  values : l.prepared.bases ≡ values_on l.doc l.runs.items;
  bases_kept : KeepsRoom l.fn.prepared l.prepared;
}

abbrev pub decreases-loop-a : goal.decreases-loop-a
decreases-loop-a l = l.a
