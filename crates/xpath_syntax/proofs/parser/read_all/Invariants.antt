use Rattle.std.proofs.Common.{◌≡◌, reverse, length}
use Rattle.xpath_syntax.specs.Offences.{terminals}
use Rattle.xpath_syntax.specs.Reading.{run}
use Rattle.xpath_syntax.specs.Code.Forgetting.{shallow, shallow_expression_of}
use Rattle.xpath_syntax.proofs.parser.read_all.Given as goal

abbrev pub invariant-loop-token : goal.invariant-loop-token
invariant-loop-token l =
    shallow (run (reverse l.stack.items) l.mode l.is_deep (terminals (reverse l.rest.items))) ≡ shallow_expression_of (terminals l.fn.tokens.items)

abbrev pub decreases-loop-token : goal.decreases-loop-token
decreases-loop-token l = length l.rest.items
