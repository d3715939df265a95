use Rattle.std.proofs.Common.{◌≡◌, ◌++◌, length}
use Rattle.xpath_words.specs.Characters.{front, behind}
use Rattle.xpath_words.specs.Classes.{test_of}
use Rattle.xpath_words.proofs.cursor.take_run.Given as goal

abbrev pub invariant-loop-c : goal.invariant-loop-c
invariant-loop-c l =
    (l.text ++ front (test_of l.class) l.cursor ≡ l.initial.text ++ front (test_of l.class) l.initial.cursor)
    × (behind (test_of l.class) l.cursor ≡ behind (test_of l.class) l.initial.cursor)

abbrev pub decreases-loop-c : goal.decreases-loop-c
decreases-loop-c l = length l.cursor
