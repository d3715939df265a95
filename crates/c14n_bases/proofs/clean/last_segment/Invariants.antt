use Rattle.std.proofs.Common.{◌≡◌, length}
use Rattle.c14n_bases.specs.Join.{last_segment}
use Rattle.c14n_bases.proofs.clean.last_segment.Given as goal

abbrev pub invariant-loop-behind : goal.invariant-loop-behind
invariant-loop-behind l = last_segment l.path ≡ last_segment l.rest

abbrev pub decreases-loop-behind : goal.decreases-loop-behind
decreases-loop-behind l = length l.rest
