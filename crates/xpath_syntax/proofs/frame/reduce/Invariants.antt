use Rattle.std.proofs.Common.{◌≡◌, reverse, length}
use Rattle.xpath_syntax.specs.Reading.{reduced}
use Rattle.xpath_syntax.proofs.frame.reduce.Given as goal

abbrev pub invariant-loop-frame : goal.invariant-loop-frame
invariant-loop-frame l = reduced l.level (reverse l.stack.items) l.operand ≡ reduced l.initial.level (reverse l.initial.stack.items) l.initial.operand

abbrev pub decreases-loop-frame : goal.decreases-loop-frame
decreases-loop-frame l = length l.stack.items
