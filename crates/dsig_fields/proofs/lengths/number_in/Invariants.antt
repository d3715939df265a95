use Rattle.std.proofs.Common.{◌≡◌, ◌≤◌, min, drop}
use Rattle.dsig_fields.specs.Lengths as spec
use Rattle.dsig_fields.proofs.lengths.number_in.Given as goal

abbrev pub invariant-loop-digit : goal.invariant-loop-digit
invariant-loop-digit l =
    (l.number ≤ 513) × (min (spec.number_behind l.number (drop l.digit-index l.digits)) 513 ≡ min (spec.number_behind 0 l.digits) 513)
