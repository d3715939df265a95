use Rattle.std.proofs.Common.{◌≡◌, ◌++◌, ◌+◌, ◌*◌, drop}
use Rattle.c14n_bases.specs.Code.Climbs.{climbs}
use Rattle.c14n_bases.proofs.joined.put_upwards.Given as goal

abbrev pub invariant-loop : goal.invariant-loop
invariant-loop l = record {
  value : drop l.begin l.buffer ≡ climbs l.counter ++ drop l.from l.initial.buffer;
  begin : l.begin + 3 * l.counter ≡ l.from;
}
