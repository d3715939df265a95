use Rattle.std.proofs.Common.{◌≡◌, ◌+◌, drop}
use Rattle.std.specs.List.{position_or_len}
use Rattle.c14n_bases.specs.Join.{is_one_of}
use Rattle.c14n_bases.proofs.cut.first_of.Given as goal

abbrev pub invariant-loop-i : goal.invariant-loop-i
invariant-loop-i l = position_or_len (is_one_of l.stops) l.text ≡ l.i + position_or_len (is_one_of l.stops) (drop l.i l.text)
