use Rattle.std.proofs.Common.{Result, Ok, Err, Some, ◌≡◌, ◌∙◌, sym}
use Rattle.std.specs.Prelude.{OnOk}
use Rattle.transforms.specs.Values.{origin_of}
use Rattle.transforms.specs.Views.{target_in, view_of}
use Rattle.transforms.specs.Answers.{names_of}
use Rattle.core_validate.specs.Progress.{sources_of, with_limited, with_reference}
use Rattle.core_validate.specs.Code.Progress.{reference_cause}
use Rattle.core_validate.proofs.AskLaws.{asked_as, asked_behind, counted_as, counted_behind, own_cause}
use Rattle.core_validate.proofs.ProgressLaws.{gives_by, with_its_view, without_view}
use Rattle.core_validate.proofs.ReachedLaws.{is_had}
use Rattle.core_validate.proofs.progress.Progress.add_reference.Goals as goal

had_on : {T E P : Type 0} (r : Result T E) → P → OnOk r P
had_on (Ok x) p = p
had_on (Err e) p = tt

pub returns-in-Ok-clause-progress : goal.returns-in-Ok-clause-progress
returns-in-Ok-clause-progress g c = λ files tells.
    let sources = sources_of c.args.doc.now c.args.signature c.args.place.now files in
    let reference = c.args.reference.now in let p = c.args.self.now in
    let m = c.in-Ok.ensures.measured files tells in
    gives_by (λ _. c.add_view.new.self) c.add_view.result (with_limited c.args.number reference m.view p) (with_reference sources c.args.number reference p)
    (with_its_view sources c.args.number reference p m.view m.outcome_is)
    (c.add_view.ensures.added m.view m.is)

pub returns-in-Ok-clause-had : goal.returns-in-Ok-clause-had
returns-in-Ok-clause-had g c =
    had_on c.add_view.result
    (is_had c.args.doc.now c.args.signature c.args.place.now c.args.reference.now c.args.self.now.keep c.in-Ok.measured _ c.in-Ok.ensures.measured)

pub returns-in-Ok-clause-asked : goal.returns-in-Ok-clause-asked
returns-in-Ok-clause-asked g c = λ files told. asked_behind c.add_view.result (names_of (target_in c.args.place.now c.args.reference.now)) _ _ (c.in-Ok.ensures.asked files told)

pub returns-in-Ok-clause-faults : goal.returns-in-Ok-clause-faults
returns-in-Ok-clause-faults g c =
    let m = c.in-Ok.ensures.shape in
    counted_behind (λ _. c.add_view.new.self) c.add_view.result (with_limited c.args.number c.args.reference.now m.view c.args.self.now) _ _
    (c.add_view.ensures.added m.view m.is) c.in-Ok.ensures.faults

pub returns-in-Err-clause-progress : goal.returns-in-Err-clause-progress
returns-in-Err-clause-progress g c = λ files tells.
    let sources = sources_of c.args.doc.now c.args.signature c.args.place.now files in
    rw c.reference_cause.ensures
    (without_view sources c.args.number c.args.reference.now c.args.self.now c.in-Err.cause c.args.self.now.keep (c.in-Err.ensures.measured files tells))

pub returns-in-Err-clause-causes : goal.returns-in-Err-clause-causes
returns-in-Err-clause-causes g c = rw c.reference_cause.ensures (own_cause c.args.number c.in-Err.cause)

pub returns-in-Err-clause-asked : goal.returns-in-Err-clause-asked
returns-in-Err-clause-asked g c = λ files told.
    rw c.reference_cause.ensures
    (asked_as c.args.number c.in-Err.cause (names_of (target_in c.args.place.now c.args.reference.now)) _ _ (c.in-Err.ensures.asked files told))

pub returns-in-Err-clause-faults : goal.returns-in-Err-clause-faults
returns-in-Err-clause-faults g c =
    rw c.reference_cause.ensures (counted_as c.args.number c.in-Err.cause _ _ c.in-Err.ensures.faults)
