use Rattle.std.proofs.Common.{◌≡◌, length}
use Rattle.signed_views.specs.Handing.{EachGrew, CountsStand}
use Rattle.signed_views.specs.Code.Given.{before_place}
use Rattle.signed_views.proofs.handing.give.Given as goal

abbrev pub invariant-loop-place : goal.invariant-loop-place
invariant-loop-place g l = record {
  end : l.place-end ≡ length l.fn.keepers.items;
  grew : EachGrew g.K.ViewKeeper.pairs (before_place (l.name, l.bytes) l.place) l.fn.keepers.items l.keepers.items;
  counts : CountsStand g.K.ViewKeeper.faults l.fn.keepers.items l.keepers.items;
}
