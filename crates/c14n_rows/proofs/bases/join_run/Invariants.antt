use Rattle.std.proofs.Common.{◌≡◌, ◌≤◌, ◌+◌, ℕ, Some, length, take, vec_capacity}
use Rattle.c14n_text.specs.Bases.{with_bases}
use Rattle.c14n_rows.specs.Joined.{weights}
use Rattle.c14n_rows.specs.Code.Stacks.{run_on, values_on}
use Rattle.c14n_rows.proofs.bases.join_run.Given as goal

abbrev pub invariant-loop-i : goal.invariant-loop-i
invariant-loop-i l = record {
  within : l.i ≤ length l.runs;
  few : l.k ≤ length l.prepared.bases;
  bases : take l.k l.prepared.bases ≡ values_on l.doc (take l.i l.runs);
  rest : (place : ℕ) → with_bases l.doc (Some (place, l.joined.value)) (run_on l.doc (take l.i l.runs)) ≡ with_bases l.doc (Some (place, l.initial.joined.value)) (run_on l.doc l.runs);
  enough : length l.joined.value + weights l.doc (run_on l.doc (take l.i l.runs)) ≤ length l.initial.joined.value + weights l.doc (run_on l.doc l.runs);
  room : l.joined.room ≡ l.initial.joined.room;
  capacity : vec_capacity l.initial.spare ≤ vec_capacity l.spare;
}

abbrev pub decreases-loop-i : goal.decreases-loop-i
decreases-loop-i l = l.i
