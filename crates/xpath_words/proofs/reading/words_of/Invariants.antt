use Rattle.std.proofs.Common.{◌≡◌, length}
use Rattle.std.specs.Str.{chars}
use Rattle.xpath_words.specs.Reading.{words_behind}
use Rattle.xpath_words.specs.Code.Given.{with_front}
use Rattle.xpath_words.proofs.reading.words_of.Given as goal

abbrev pub invariant-loop-cursor : goal.invariant-loop-cursor
invariant-loop-cursor l = with_front l.words.items (words_behind 0 l.cursor) ≡ words_behind 0 (chars l.text)

abbrev pub decreases-loop-cursor : goal.decreases-loop-cursor
decreases-loop-cursor l = length l.cursor
