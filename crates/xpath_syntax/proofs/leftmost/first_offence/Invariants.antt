use Rattle.std.proofs.Common.{◌≡◌, drop}
use Rattle.xpath_syntax.specs.Offences.{first_offence}
use Rattle.xpath_syntax.proofs.leftmost.first_offence.Given as goal

abbrev pub invariant-loop-i : goal.invariant-loop-i
invariant-loop-i l = first_offence (drop l.i l.tokens) ≡ first_offence l.tokens
