use Rattle.std.proofs.Common.{◌≡◌, length}
use Rattle.signed_views.specs.Handing.{EachGrew, CountsStand, pairs_of}
use Rattle.signed_views.specs.Code.Given.{first_views}
use Rattle.signed_views.proofs.handing.hand_on.Given as goal

abbrev pub invariant-loop-index : goal.invariant-loop-index
invariant-loop-index g l = record {
  end : l.index-end ≡ length l.names;
  grew : EachGrew g.K.ViewKeeper.pairs (first_views (pairs_of l.names l.views.octets) l.index) l.fn.keepers.items l.keepers.items;
  counts : CountsStand g.K.ViewKeeper.faults l.fn.keepers.items l.keepers.items;
}
