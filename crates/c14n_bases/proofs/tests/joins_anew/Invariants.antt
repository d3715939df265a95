use Rattle.std.proofs.Common.{◌≡◌, true}
use Rattle.c14n_bases.proofs.tests.joins_anew.Given as goal

abbrev pub invariant-loop-base : goal.invariant-loop-base
invariant-loop-base l = record { room : l.joined.room ≡ 100; settled : l.joined.settled ≡ true }
