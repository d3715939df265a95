use Rattle.std.proofs.Common.{sym, ap, ◌∙◌}
use Rattle.xpath_words.specs.Reading.{words_behind}
use Rattle.xpath_words.specs.Code.Given.{with_front}
use Rattle.xpath_words.proofs.Turns.{space_turn, word_turn, word_refused, all_words, passed_on}
use Rattle.xpath_words.proofs.TextLaws.{word_shorter}
use Rattle.xpath_words.proofs.reading.words_of.Goals as goal

pub loop-cursor-preserved-then-begins : goal.loop-cursor-preserved-then-begins
loop-cursor-preserved-then-begins c =
    ap (with_front c.loop-cursor.words.items) (ap (words_behind 0) c.next.ensures.rest ∙ space_turn c.loop-cursor.cursor (sym c.if-begins.ensures)) ∙ c.loop-cursor.invariant

pub returns-in_err-word : goal.returns-in_err-word
returns-in_err-word c =
    passed_on _ _ _ c.from_residual.ensures.1 (word_refused _ _ _ _ (sym c.loop-cursor-test.ensures) (sym c.if-begins.ensures) c.in_err-word.ensures c.loop-cursor.invariant)

pub loop-cursor-smaller : goal.loop-cursor-smaller
loop-cursor-smaller c = word_shorter _ _ _ c.in_ok-word.ensures

pub loop-cursor-preserved : goal.loop-cursor-preserved
loop-cursor-preserved c = word_turn _ _ _ _ _ _ (sym c.loop-cursor-test.ensures) (sym c.if-begins.ensures) c.in_ok-word.ensures c.loop-cursor.invariant c.in_ok-push.ensures.items

pub returns : goal.returns
returns c = all_words _ _ _ (sym c.loop-cursor-test.ensures) c.loop-cursor.invariant
