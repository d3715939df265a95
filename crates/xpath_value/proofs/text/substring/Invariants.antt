use Rattle.std.proofs.Common.{◌≡◌, length}
use Rattle.xpath_value.specs.Texts.{at_places, is_kept}
use Rattle.xpath_value.proofs.text.substring.Given as goal

abbrev pub invariant-loop-c : goal.invariant-loop-c
invariant-loop-c l = (l.kept ≡ at_places (is_kept l.from l.count) 1 l.yielded) × (l.place ≡ length l.yielded)
