use Rattle.std.proofs.Common.{◌≡◌, ◌≤◌, ◌+◌, ◌-◌, ◌*◌}
use Rattle.c14n_bases.specs.Code.Slices.{octets_of, segments_left, most_left}
use Rattle.c14n_bases.specs.Code.Surplus.{surplus}
use Rattle.c14n_bases.proofs.clean.surplus.Given as goal

abbrev pub invariant-loop-next : goal.invariant-loop-next
invariant-loop-next l = record {
  exact : l.upwards + (surplus l.behind (segments_left (octets_of l.next)) - l.waiting) ≡ surplus l.behind (segments_left (octets_of l.left));
  bounded : (l.upwards + l.waiting) * 2 + most_left (octets_of l.next) ≤ most_left (octets_of l.left);
}

abbrev pub decreases-loop-next : goal.decreases-loop-next
decreases-loop-next l = most_left (octets_of l.next)
