use Rattle.std.proofs.Common.{◌≡◌, ◌+◌, ◌≤◌, drop}
use Rattle.xpath_syntax.specs.Counts.{commas}
use Rattle.xpath_syntax.specs.Offences.{terminals}
use Rattle.xpath_syntax.proofs.leftmost.count_commas.Given as goal

abbrev pub invariant-loop-token : goal.invariant-loop-token
invariant-loop-token l = (l.count + commas l.depth (terminals (drop l.token-index l.tokens)) ≡ commas 0 (terminals l.tokens)) × (l.count + l.depth ≤ l.token-index)
