use Rattle.std.proofs.Common.{◌≡◌, ℕ, List, length, arith, ap, sym, ◌∙◌}
use Rattle.c14n_bases.specs.Join.{add, added}
use Rattle.c14n_bases.specs.Code.Slices.{octets_of, segments_left, most_left}
use Rattle.c14n_bases.specs.Code.Kept.{KeptIn}
use Rattle.c14n_bases.proofs.fill.add_segments.Goals as goal

pub loop-next-preserved : goal.loop-next-preserved
loop-next-preserved c =
    let inv = c.loop-next.invariant in
    let left = ap (λ o. most_left (octets_of o)) c.in-Some.is in
    let shorter = c.cut_segment.ensures.shorter in
    let longer = c.add_segment.ensures.longer in
    let few = c.add_segment.ensures.few in
    record {
      kept = λ (front : List ℕ) (kept : List (List ℕ)) (at : c.args.floor ≡ length front) (k : KeptIn c.args.absolute front kept c.args.into.now.items c.args.names.now).
          let so_far = inv.kept front kept at k in (
            add c.args.absolute so_far.0 c.cut_segment.result.0.now,
            c.add_segment.ensures.kept front so_far.0 at so_far.1,
            ap (added c.args.absolute so_far.0) (sym (ap (λ o. segments_left (octets_of o)) c.in-Some.is ∙ c.cut_segment.ensures.segments)) ∙ so_far.2,
          );
      within = c.add_segment.ensures.within;
      longer = omega arith;
      few = omega arith;
      capacity = let a = c.add_segment.ensures.capacity in let b = inv.capacity in omega arith;
    }
