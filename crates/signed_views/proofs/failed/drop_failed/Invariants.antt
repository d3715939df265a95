use Rattle.signed_views.proofs.StoodLaws.{StoodSoFar}
use Rattle.signed_views.proofs.failed.drop_failed.Given as goal

abbrev pub invariant-loop-place : goal.invariant-loop-place
invariant-loop-place g l = StoodSoFar g.K.ViewKeeper.faults l.before l.fn.keepers.items l.keepers.items l.kept l.place
