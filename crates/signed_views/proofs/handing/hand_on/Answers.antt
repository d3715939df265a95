use Rattle.std.proofs.Common.{◌≡◌, ◌+◌, ◌++◌, [], ◌∷◌, take, arith}
use Rattle.signed_views.specs.Handing.{Pair, pairs_of}
use Rattle.signed_views.specs.Code.Given.{first_views}
use Rattle.signed_views.proofs.Places.{pair_at, each_grew_then, each_grew_same, counts_then, up_to_next, all_views}
use Rattle.signed_views.proofs.handing.hand_on.Goals as goal

pub returns-in-Failed-clause-grew : goal.returns-in-Failed-clause-grew
returns-in-Failed-clause-grew g c =
    let all = pairs_of c.args.names.now c.args.views.now.octets in
    let i = c.loop-index.index in
    let next = pair_at c.args.names.now c.args.views.now.octets i _ _ c.as_str.result.now c.bytes.result.now c.requires (omega arith) c.in-Some.ensures c.in-Some-get.ensures c.as_str.ensures.bytes c.bytes.ensures in
    each_grew_then _ (first_views all i) _ _ _ _ _ c.loop-index.invariant.grew c.in-Failed.ensures.grew (λ k _. up_to_next all _ i _ k next)

pub returns-in-NoMemory-clause-grew : goal.returns-in-NoMemory-clause-grew
returns-in-NoMemory-clause-grew g c =
    let all = pairs_of c.args.names.now c.args.views.now.octets in
    let i = c.loop-index.index in
    let next = pair_at c.args.names.now c.args.views.now.octets i _ _ c.as_str.result.now c.bytes.result.now c.requires (omega arith) c.in-Some.ensures c.in-Some-get.ensures c.as_str.ensures.bytes c.bytes.ensures in
    each_grew_then _ (first_views all i) _ _ _ _ _ c.loop-index.invariant.grew c.in-NoMemory.ensures.grew (λ k _. up_to_next all _ i _ k next)

pub loop-index-preserved : goal.loop-index-preserved
loop-index-preserved g c =
    let all = pairs_of c.args.names.now c.args.views.now.octets in
    let i = c.loop-index.index in
    let next = pair_at c.args.names.now c.args.views.now.octets i _ _ c.as_str.result.now c.bytes.result.now c.requires (omega arith) c.in-Some.ensures c.in-Some-get.ensures c.as_str.ensures.bytes c.bytes.ensures in
    record {
      end = c.loop-index.invariant.end;
      grew = each_grew_then _ (first_views all i) _ _ _ _ _ c.loop-index.invariant.grew c.in-All.ensures.grew (λ k _. next);
      counts = counts_then g.K.ViewKeeper.faults c.args.keepers.now.items c.loop-index.keepers.items c.give.new.keepers.items c.loop-index.invariant.counts c.in-All.ensures.counts c.loop-index.invariant.grew.number;
    }

pub returns-clause-grew : goal.returns-clause-grew
returns-clause-grew g c =
    each_grew_same _ (first_views (pairs_of c.args.names.now c.args.views.now.octets) c.loop-index.index) _ _ _ c.loop-index.invariant.grew (λ k _. all_views _ _ _ k c.requires (omega arith))
