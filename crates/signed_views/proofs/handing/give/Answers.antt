use Rattle.std.proofs.Common.{arith, refl, sym, ◌∷◌, []}
use Rattle.std.proofs.lemmas.List.{append-nil}
use Rattle.signed_views.specs.Handing.{Pair}
use Rattle.signed_views.specs.Code.Given.{before_place}
use Rattle.signed_views.proofs.Places.{each_grew_at, each_grew_same, counts_at, given_here, given_stays, given_all}
use Rattle.signed_views.proofs.handing.give.Goals as goal

pub returns-in-Failed-clause-grew : goal.returns-in-Failed-clause-grew
returns-in-Failed-clause-grew g c =
    let i = c.loop-place.place in
    each_grew_at _ (before_place _ i) _ _ _ i c.index_mut.result.now _ [] c.loop-place.invariant.grew (omega arith) c.index_mut.ensures.value c.in-Failed.ensures.pairs (sym (append-nil _)) (λ k ne. refl)

pub returns-in-NoMemory-clause-grew : goal.returns-in-NoMemory-clause-grew
returns-in-NoMemory-clause-grew g c =
    let i = c.loop-place.place in
    each_grew_at _ (before_place _ i) _ _ _ i c.index_mut.result.now _ [] c.loop-place.invariant.grew (omega arith) c.index_mut.ensures.value c.in-NoMemory.ensures.pairs (sym (append-nil _)) (λ k ne. refl)

pub loop-place-preserved : goal.loop-place-preserved
loop-place-preserved g c =
    let i = c.loop-place.place in
    let pair : Pair = (c.args.name.now, c.args.bytes.now) in
    let same = c.loop-place.invariant.grew.number in
    record {
      end = c.loop-place.invariant.end;
      grew = each_grew_at _ (before_place pair i) _ _ _ i c.index_mut.result.now _ (pair ∷ []) c.loop-place.invariant.grew (omega arith) c.index_mut.ensures.value c.in-Done.ensures.pairs (given_here pair i) (given_stays pair i);
      counts = counts_at g.K.ViewKeeper.faults _ _ i c.index_mut.result.now c.take.new.self c.loop-place.invariant.counts same (omega arith) c.index_mut.ensures.value (let e = c.in-Done.ensures.cause in omega arith);
    }

pub returns-clause-grew : goal.returns-clause-grew
returns-clause-grew g c =
    each_grew_same _ (before_place _ c.loop-place.place) _ _ _ c.loop-place.invariant.grew (λ k lt. given_all _ c.loop-place.place k (omega arith))
