-- How the fields of a keeper with a bound are seen.
use Rattle.std.specs.Prelude.{◌≡◌, ◌≤◌, []}
use Rattle.sig_outside.specs.Bounds.{BoundState, octets_of}
use Rattle.sig_outside.specs.declared.bound_keeper.BoundKeeper.TheInside as keeper

abbrev pub bound_state : keeper.Inside → BoundState
bound_state s = record { pairs = s.keeper.pairs; cap = s.cap; faults = s.keeper.faults }

-- the octets of the views were counted, and are within the cap; no call is told to fail
abbrev pub IsWithinCap : keeper.Inside → Type 0
IsWithinCap s = (s.held ≡ octets_of s.keeper.pairs) × (s.held ≤ s.cap) × (s.keeper.failing ≡ [])
