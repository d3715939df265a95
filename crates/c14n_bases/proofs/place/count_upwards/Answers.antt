use Rattle.std.proofs.Common.{◌*◌, ap, sym, ◌∙◌}
use Rattle.std.specs.Prelude.{codes}
use Rattle.c14n_bases.specs.Join.{begins}
use Rattle.c14n_bases.proofs.SegmentLemmas.{rest_whole}
use Rattle.c14n_bases.proofs.ClimbLemmas.{climbs-more}
use Rattle.c14n_bases.proofs.place.count_upwards.Goals as goal

pub loop-upwards-preserved : goal.loop-upwards-preserved
loop-upwards-preserved c =
    let text = c.args.text.now in let u = c.loop-upwards.upwards in
    let t = sym (ap (begins (codes "../")) (rest_whole (3 * u) text)) ∙ sym c.starts_with.ensures.value ∙ c.loop-upwards-test.true in
    let more = climbs-more text u c.loop-upwards.invariant.climbs t in
    record { climbs = more.0; within = more.1 }
