use Rattle.std.proofs.Common.{◌≡◌, length, reverse}
use Rattle.dsig_fields.specs.Lengths as spec
use Rattle.dsig_fields.proofs.lengths.before_space.Given as goal

abbrev pub invariant-loop-last : goal.invariant-loop-last
invariant-loop-last l = spec.behind_space (reverse l.rest) ≡ spec.behind_space (reverse l.text)

abbrev pub decreases-loop-last : goal.decreases-loop-last
decreases-loop-last l = length l.rest
