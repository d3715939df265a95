use Rattle.std.proofs.Common.{◌≡◌, ◌+◌, ◌≤◌, drop}
use Rattle.xpath_syntax.specs.Reading.{levels}
use Rattle.xpath_syntax.proofs.nesting.levels.Given as goal

abbrev pub invariant-loop-frame : goal.invariant-loop-frame
invariant-loop-frame l = (l.count + levels (drop l.frame-index l.stack) ≡ levels l.stack) × (l.count ≤ l.frame-index)
