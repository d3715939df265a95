use Rattle.std.proofs.Common.{◌≡◌, length}
use Rattle.xpath_words.specs.Terminals.{groups_behind}
use Rattle.xpath_words.specs.Code.Given.{with_front}
use Rattle.xpath_words.proofs.group.grouped.Given as goal

abbrev pub invariant-loop-first : goal.invariant-loop-first
invariant-loop-first l = with_front l.tokens.items (groups_behind l.prefixes 0 l.rest) ≡ groups_behind l.prefixes 0 l.meant

abbrev pub decreases-loop-first : goal.decreases-loop-first
decreases-loop-first l = length l.rest
