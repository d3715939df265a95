use Rattle.std.proofs.Common.{◌≡◌, length}
use Rattle.dsig_fields.specs.Reading.{behind_all}
use Rattle.dsig_fields.proofs.children.Children.behind_all.Given as goal

abbrev pub invariant-loop : goal.invariant-loop
invariant-loop l = behind_all l.doc l.name l.self ≡ behind_all l.doc l.name l.initial.self

abbrev pub decreases-loop : goal.decreases-loop
decreases-loop l = length l.self
