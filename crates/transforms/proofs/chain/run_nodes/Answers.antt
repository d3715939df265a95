use Rattle.std.proofs.Common.{◌≡◌, ◌∙◌, ◌+◌, ◌<◌, ◌≤◌, Ok, Err, refl, sym, arith, length}
use Rattle.std.proofs.lemmas.Option.{slice_get_within}
use Rattle.std.proofs.lemmas.Result.{err_from_is_err_and}
use Rattle.sig_base.proofs.PutsLemmas.{Appended-nil}
use Rattle.dsig_fields.specs.Fits.{StepFits}
use Rattle.transforms.specs.Code.Answers.{nodes_of}
use Rattle.transforms.specs.Steps.{nodes_step}
use Rattle.transforms.specs.Values.{origin_of}
use Rattle.transforms.specs.Values.{OfNodes, OfOctets}
use Rattle.transforms.proofs.ChainLaws.{all_at, ends, left, set_goes_on, set_stops}
use Rattle.transforms.proofs.Stops.{refused_before, refuses_on, stops_as, whole_as}
use Rattle.transforms.proofs.chain.run_nodes.Goals as goal

pub loop-step-init : goal.loop-step-init
loop-step-init g c = record { from = omega arith; within = c.requires.within; rows = refl; rest = refl }

pub change-requires-clause-signature : goal.change-requires-clause-signature
change-requires-clause-signature g c = c.requires.chain.row

pub change-requires-clause-own : goal.change-requires-clause-own
change-requires-clause-own g c = λ e. c.loop-step.invariant.rows ∙ c.requires.own e

pub change-requires-clause-fits : goal.change-requires-clause-fits
change-requires-clause-fits g c = all_at (StepFits c.args.doc.now) c.args.steps.now c.loop-step.next c.in-Some.step.now c.requires.chain.fit c.in-Some.ensures

pub returns-in_err-octets : goal.returns-in_err-octets
returns-in_err-octets g c =
    let origin = origin_of c.args.doc.now c.args.signature in let steps = c.args.steps.now in let n = c.loop-step.next in
    let step = c.in-Some.step.now in let nodes = nodes_of c.args.own c.loop-step.set in let cause = c.in_err-octets.field-0.0 in
    let outcome = left origin steps c.args.done (OfNodes (nodes_of c.args.own c.args.nodes)) in
    let p = err_from_is_err_and c.from_residual.result c.from_residual.ensures.1 in
    rw (p.1, p.2)
    (record {
      by =
          refused_before _ _ _ c.args.sink.now outcome cause
          (refuses_on cause (nodes_step origin (n + 1) step nodes) outcome
          (λ e. c.loop-step.invariant.rest ∙ set_stops origin steps n step nodes cause c.in-Some.ensures e)
          c.in_err-octets.ensures.value);
    })

pub returns-in-Some-2 : goal.returns-in-Some-2
returns-in-Some-2 g c =
    let origin = origin_of c.args.doc.now c.args.signature in let steps = c.args.steps.now in let n = c.loop-step.next in
    let step = c.in-Some.step.now in let nodes = nodes_of c.args.own c.loop-step.set in
    let inside : n < length steps = slice_get_within steps n step (sym c.in-Some.ensures) in
    let from : c.args.done ≤ n = c.loop-step.invariant.from in
    let given = rw c.in-Some-2.is at c.in_ok-octets.ensures.value in
    record {
      by = record {
        further = omega arith;
        within = omega arith;
        rest = c.loop-step.invariant.rest ∙ set_goes_on origin steps n step nodes (OfOctets c.in-Some-2.octets) c.in-Some.ensures given;
        appended = Appended-nil _ _ _ c.args.sink.now;
      };
    }

pub loop-step-smaller : goal.loop-step-smaller
loop-step-smaller g c =
    let within = slice_get_within c.args.steps.now c.loop-step.next c.in-Some.step.now (sym c.in-Some.ensures) in
    omega arith

pub loop-step-preserved : goal.loop-step-preserved
loop-step-preserved g c =
    let origin = origin_of c.args.doc.now c.args.signature in let steps = c.args.steps.now in let n = c.loop-step.next in
    let step = c.in-Some.step.now in let nodes = nodes_of c.args.own c.loop-step.set in
    let inside : n < length steps = slice_get_within steps n step (sym c.in-Some.ensures) in
    let from : c.args.done ≤ n = c.loop-step.invariant.from in
    let given = rw c.in_default-2.is at c.in_ok-octets.ensures.value in
    record {
      from = omega arith;
      within = omega arith;
      rows = c.in_ok-octets.ensures.rows ∙ c.loop-step.invariant.rows;
      rest = c.loop-step.invariant.rest ∙ set_goes_on origin steps n step nodes (OfNodes (nodes_of c.args.own c.change.new.set)) c.in-Some.ensures given;
    }

pub returns-in_err-write_set : goal.returns-in_err-write_set
returns-in_err-write_set g c =
    let origin = origin_of c.args.doc.now c.args.signature in let steps = c.args.steps.now in let n = c.loop-step.next in
    let same = c.loop-step.invariant.rest ∙ ends origin steps n (OfNodes (nodes_of c.args.own c.loop-step.set)) c.in_default.ensures in
    let p = err_from_is_err_and c.from_residual-in_err-write_set.result c.from_residual-in_err-write_set.ensures.1 in
    rw (p.1, p.2) (record { by = stops_as _ _ _ c.args.sink.now c.write_set.new.sink c.in_err-write_set.field-0.0 (sym same) c.in_err-write_set.ensures.by })

pub returns : goal.returns
returns g c =
    let origin = origin_of c.args.doc.now c.args.signature in let steps = c.args.steps.now in let n = c.loop-step.next in
    let same = c.loop-step.invariant.rest ∙ ends origin steps n (OfNodes (nodes_of c.args.own c.loop-step.set)) c.in_default.ensures in
    record { by = whole_as _ _ _ (sym same) c.in_ok-write_set.ensures.by }
