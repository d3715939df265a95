use Rattle.std.proofs.Common.{◌≡◌, ◌≤◌, ◌+◌, ◌*◌, length}
use Rattle.std.specs.Prelude.{vec_capacity}
use Rattle.c14n_bases.proofs.tests.joins_below.Given as goal

abbrev pub invariant-loop-base : goal.invariant-loop-base
invariant-loop-base l = record {
  room : l.joined.room ≡ 200;
  value : length l.joined.value ≤ 24 * l.base-index + 20;
  count : l.prepared.count ≡ 1;
  most : l.prepared.room ≡ 30;
  spare : 200 ≤ vec_capacity l.spare;
}
