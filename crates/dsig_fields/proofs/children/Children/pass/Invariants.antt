use Rattle.std.proofs.Common.{◌≡◌, length}
use Rattle.dsig_fields.specs.Reading.{passed}
use Rattle.dsig_fields.proofs.children.Children.pass.Given as goal

abbrev pub invariant-loop-y : goal.invariant-loop-y
invariant-loop-y l = passed l.doc l.self ≡ passed l.doc l.initial.self

abbrev pub decreases-loop-y : goal.decreases-loop-y
decreases-loop-y l = length l.self
