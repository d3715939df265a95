use Rattle.std.proofs.Common.{◌≡◌, map, take}
use Rattle.signed_views.proofs.failed.fault_counts.Given as goal

abbrev pub invariant-loop-keeper : goal.invariant-loop-keeper
invariant-loop-keeper g l = l.counts ≡ map g.K.ViewKeeper.faults (take l.keeper-index l.keepers)
