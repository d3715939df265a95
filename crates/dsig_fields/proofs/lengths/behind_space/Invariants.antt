use Rattle.std.proofs.Common.{◌≡◌, length}
use Rattle.dsig_fields.specs.Lengths as spec
use Rattle.dsig_fields.proofs.lengths.behind_space.Given as goal

abbrev pub invariant-loop-first : goal.invariant-loop-first
invariant-loop-first l = spec.behind_space l.rest ≡ spec.behind_space l.text

abbrev pub decreases-loop-first : goal.decreases-loop-first
decreases-loop-first l = length l.rest
