use Rattle.std.proofs.Common.{◌≡◌, ◌≤◌, ◌+◌, ℕ, List, length}
use Rattle.std.specs.Prelude.{vec_capacity}
use Rattle.c14n_bases.specs.Join.{added, segments}
use Rattle.c14n_bases.specs.Code.Slices.{octets_of, segments_left, most_left}
use Rattle.c14n_bases.specs.Code.Kept.{KeptIn}
use Rattle.c14n_bases.proofs.fill.add_segments.Given as goal

abbrev pub invariant-loop-next : goal.invariant-loop-next
invariant-loop-next l = record {
  kept : (front : List ℕ) (kept : List (List ℕ)) → l.floor ≡ length front → KeptIn l.absolute front kept l.initial.into.items l.initial.names
      → (now : List (List ℕ)) × KeptIn l.absolute front now l.into.items l.names × (added l.absolute now (segments_left (octets_of l.next)) ≡ added l.absolute kept (segments l.fn.path));
  within : l.floor ≤ length l.into.items;
  longer : length l.into.items + most_left (octets_of l.next) ≤ length l.initial.into.items + most_left (octets_of l.initial.next);
  few : l.names + most_left (octets_of l.next) ≤ l.initial.names + most_left (octets_of l.initial.next);
  capacity : vec_capacity l.initial.into ≤ vec_capacity l.into;
}

abbrev pub decreases-loop-next : goal.decreases-loop-next
decreases-loop-next l = most_left (octets_of l.next)
