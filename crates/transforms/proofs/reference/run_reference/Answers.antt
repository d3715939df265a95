use Rattle.std.proofs.Common.{◌≡◌, ◌∙◌, Ok, Err, Result, ℕ, Bool, true, refl, sym, ap}
use Rattle.std.specs.Prelude.{encode_utf8_all}
use Rattle.std.proofs.lemmas.Result.{err_from_is_err_and}
use Rattle.node_sets.specs.Members.{has}
use Rattle.xml_doc.specs.Ids.{answer_of, bearers}
use Rattle.transforms.specs.Code.Answers.{nodes_of}
use Rattle.sig_base.specs.Outcomes.{and_then}
use Rattle.transforms.specs.Start.{in_element, in_whole, selected}
use Rattle.transforms.specs.Values.{OfNodes, origin_of}
use Rattle.transforms.specs.Views.{target_in, view_from, view_of}
use Rattle.transforms.proofs.Limits.{view_given}
use Rattle.transforms.proofs.Stops.{refused_before, refuses_on}
use Rattle.transforms.proofs.ViewLaws.{asks_nothing, at_element, at_name, at_whole, leaves_by, no_target, own_is, views_by, writes_as}
use Rattle.transforms.proofs.reference.run_reference.Goals as goal

pub returns-in_err-comments-clause-view : goal.returns-in_err-comments-clause-view
returns-in_err-comments-clause-view g c = λ files tells.
    let origin = origin_of c.args.doc.now c.args.signature in let place = c.args.place.now in let reference = c.args.reference.now in
    let outcome = view_of origin place files reference in let cause = c.in_err-comments.field-0.0 in
    let p = err_from_is_err_and c.from_residual.result c.from_residual.ensures.1 in
    rw (p.1, p.2)
    (views_by _ _ _ c.args.sink.now c.args.sink.now outcome (Err cause)
    (record { by = refused_before _ _ _ c.args.sink.now outcome cause (refuses_on cause (target_in place reference) outcome (no_target origin place files reference cause) c.in_err-comments.ensures) }))

pub returns-in_err-set-in-Element-clause-view : goal.returns-in_err-set-in-Element-clause-view
returns-in_err-set-in-Element-clause-view g c = λ files tells.
    let origin = origin_of c.args.doc.now c.args.signature in let place = c.args.place.now in let reference = c.args.reference.now in
    let outcome = view_of origin place files reference in let cause = c.in_err-set-in-Element.field-0.0 in
    let e = rw c.in-Element.is at c.in_ok-comments.ensures in
    let rows = c.args.doc.now in let id = c.in-Element.id in let comments = c.in-Element.comments in
    let p = err_from_is_err_and c.from_residual-in_err-set-in-Element.result c.from_residual-in_err-set-in-Element.ensures.1 in
    rw (p.1, p.2)
    (views_by _ _ _ c.args.sink.now c.args.sink.now outcome (Err cause)
    (record {
      by =
          refused_before _ _ _ c.args.sink.now outcome cause
          (refuses_on cause (and_then (selected (answer_of (bearers rows (encode_utf8_all id)))) (λ x. Ok (in_element comments rows x))) outcome
          (at_element origin place files reference id comments (Err cause) e) c.in_err-set-in-Element.ensures.members);
    }))

pub returns-in_ok-set-in-Whole-clause-view : goal.returns-in_ok-set-in-Whole-clause-view
returns-in_ok-set-in-Whole-clause-view g c = λ files tells.
    let origin = origin_of c.args.doc.now c.args.signature in let place = c.args.place.now in let reference = c.args.reference.now in
    let rows = c.args.doc.now in let comments = c.in-Whole.comments in
    let e = rw c.in-Whole.is at c.in_ok-comments.ensures in
    let own = own_is c.in_ok-set-in-Whole.set rows (in_whole comments rows) c.in_ok-set-in-Whole.ensures.rows c.in_ok-set-in-Whole.ensures.members in
    let same = at_whole origin place files reference comments e ∙ ap (view_from origin 1 reference.steps) (sym own) in
    views_by _ _ _ c.args.sink.now c.run_own.new.sink (view_of origin place files reference) c.run_own.result (writes_as _ _ _ (sym same) c.run_own.ensures)

pub returns-in_ok-set-in-Whole-clause-sink : goal.returns-in_ok-set-in-Whole-clause-sink
returns-in_ok-set-in-Whole-clause-sink g c =
    let origin = origin_of c.args.doc.now c.args.signature in let steps = c.args.reference.now.steps in let v = OfNodes (nodes_of true c.in_ok-set-in-Whole.set) in
    leaves_by _ _ _ c.args.sink.now c.run_own.new.sink (view_from origin 1 steps v) c.run_own.result (λ view e. view_given origin 1 steps v view e) c.run_own.ensures

pub returns-in_ok-set-in-Element-clause-view : goal.returns-in_ok-set-in-Element-clause-view
returns-in_ok-set-in-Element-clause-view g c = λ files tells.
    let origin = origin_of c.args.doc.now c.args.signature in let place = c.args.place.now in let reference = c.args.reference.now in
    let rows = c.args.doc.now in let set = c.in_ok-set-in-Element.set in
    let e = rw c.in-Element.is at c.in_ok-comments.ensures in
    let own = own_is set rows (has set.members) c.in_ok-set-in-Element.ensures.rows refl in
    let same =
    at_element origin place files reference c.in-Element.id c.in-Element.comments (Ok (has set.members)) e c.in_ok-set-in-Element.ensures.members
    ∙ ap (view_from origin 1 reference.steps) (sym own) in
    views_by _ _ _ c.args.sink.now c.run_own-in-Element.new.sink (view_of origin place files reference) c.run_own-in-Element.result (writes_as _ _ _ (sym same) c.run_own-in-Element.ensures)

pub returns-in_ok-set-in-Element-clause-sink : goal.returns-in_ok-set-in-Element-clause-sink
returns-in_ok-set-in-Element-clause-sink g c =
    let origin = origin_of c.args.doc.now c.args.signature in let steps = c.args.reference.now.steps in let v = OfNodes (nodes_of true c.in_ok-set-in-Element.set) in
    leaves_by _ _ _ c.args.sink.now c.run_own-in-Element.new.sink (view_from origin 1 steps v) c.run_own-in-Element.result (λ view e. view_given origin 1 steps v view e) c.run_own-in-Element.ensures

pub returns-in-Named-clause-view : goal.returns-in-Named-clause-view
returns-in-Named-clause-view g c = λ files tells.
    let origin = origin_of c.args.doc.now c.args.signature in let place = c.args.place.now in let reference = c.args.reference.now in
    let e = rw c.in-Named.is at c.in_ok-comments.ensures in
    let told = rw e at tells in
    let seen = rw c.as_str.ensures.bytes at (c.run_file.ensures.view files told) in
    rw (at_name origin place files reference c.in-Named.name e) seen

pub returns-in_ok-set-in-Element-clause-asked : goal.returns-in_ok-set-in-Element-clause-asked
returns-in_ok-set-in-Element-clause-asked g c = λ files held.
    let e = rw c.in-Element.is at c.in_ok-comments.ensures in
    rw e (asks_nothing c.run_own-in-Element.result (g.F.Folder.asked c.args.folder.now))

pub returns-in_ok-set-in-Whole-clause-asked : goal.returns-in_ok-set-in-Whole-clause-asked
returns-in_ok-set-in-Whole-clause-asked g c = λ files held.
    let e = rw c.in-Whole.is at c.in_ok-comments.ensures in
    rw e (asks_nothing c.run_own.result (g.F.Folder.asked c.args.folder.now))
