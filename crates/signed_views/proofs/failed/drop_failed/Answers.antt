use Rattle.std.proofs.Common.{arith, sym, ◌∙◌, ap, get_or}
use Rattle.signed_views.proofs.StoodLaws.{stood_kept, stood_left, stood_at_start, stood_all}
use Rattle.signed_views.proofs.failed.drop_failed.Goals as goal
use Rattle.signed_views.proofs.failed.drop_failed.Goals.{then-faults_now-counts, else-faults_now-counts}

pub loop-place-init : goal.loop-place-init
loop-place-init g c = stood_at_start _ _ _

pub loop-place-preserved : goal.loop-place-preserved
loop-place-preserved g c =
    let i = c.loop-place.place in
    let faults = g.K.ViewKeeper.faults in
    let before = c.args.before.now in
    let old = c.args.keepers.now.items in
    let now = c.loop-place.keepers.items in
    let so = c.loop-place.invariant in
    elim c.if-faults_now-counts.branch [
      | then-faults_now-counts w ↦ rw (w.keepers-is, w.kept-is, w.swap.ensures.items)
          (stood_kept faults before old now c.loop-place.kept i c.index.result.now so c.requires (omega arith) c.index.ensures
          (sym c.faults_now.ensures ∙ w.if-faults_now-counts.true ∙ ap (λ l. get_or l i 0) c.as_slice-counts.ensures))
      | else-faults_now-counts w ↦ rw (w.keepers-is, w.kept-is)
          (stood_left faults before old now c.loop-place.kept i c.index.result.now so c.requires (omega arith) c.index.ensures
          (λ e. w.if-faults_now-counts.false (c.faults_now.ensures ∙ e ∙ sym (ap (λ l. get_or l i 0) c.as_slice-counts.ensures))))
    ]

pub returns-clause-kept : goal.returns-clause-kept
returns-clause-kept g c = c.truncate.ensures.items ∙ stood_all _ _ _ _ _ _ c.loop-place.invariant (omega arith)
