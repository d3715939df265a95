use Rattle.std.proofs.Common.{◌≡◌, false}
use Rattle.std.specs.Vec.Iter.{into_iter_items}
use Rattle.xpath_words.specs.Meaning.{meanings}
use Rattle.xpath_words.specs.Code.Given.{with_front}
use Rattle.xpath_words.proofs.meaning.meanings.Given as goal

abbrev pub invariant-loop-word : goal.invariant-loop-word
invariant-loop-word l =
    (goal.iterator-loop-word).can_next l.word-iterator × (goal.iterator-loop-word).is_finite l.word-iterator
    × (with_front l.all.items (meanings l.is_behind (into_iter_items l.word-iterator)) ≡ meanings false l.fn.words.items)
