use Rattle.std.proofs.Common.{◌≡◌, ◌≤◌, ◌-◌, ◌*◌, ◌++◌, length, drop}
use Rattle.c14n_bases.specs.Code.Climbs.{climbs}
use Rattle.c14n_bases.proofs.place.count_upwards.Given as goal

abbrev pub invariant-loop-upwards : goal.invariant-loop-upwards
invariant-loop-upwards l = record {
  climbs : l.text ≡ climbs l.upwards ++ drop (3 * l.upwards) l.text;
  within : 3 * l.upwards ≤ length l.text;
}

abbrev pub decreases-loop-upwards : goal.decreases-loop-upwards
decreases-loop-upwards l = length l.text - 3 * l.upwards
