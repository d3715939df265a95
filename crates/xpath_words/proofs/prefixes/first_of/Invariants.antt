use Rattle.std.proofs.Common.{◌≡◌, drop}
use Rattle.std.specs.Prelude.{map}
use Rattle.xpath_words.specs.Prefixes.{namespace_of, pair_of}
use Rattle.xpath_words.proofs.prefixes.first_of.Given as goal

abbrev pub invariant-loop-bound : goal.invariant-loop-bound
invariant-loop-bound l = namespace_of l.prefix (map pair_of (drop l.bound-index l.pairs)) ≡ namespace_of l.prefix (map pair_of l.pairs)
