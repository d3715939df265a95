use Rattle.transforms.specs.Answers.{names_of}
use Rattle.transforms.specs.Views.{target_in}
use Rattle.core_validate.specs.Progress.{sources_of}
use Rattle.signer.specs.Code.Views.{with_limited, with_reference}
use Rattle.signer.proofs.Refusing.{asked_behind}
use Rattle.signer.proofs.ViewLaws.{asked_as, limits_give, with_its_view, without_view}
use Rattle.signer.proofs.views.Gathered.add_reference.Goals as goal

pub returns-in-Ok-clause-gathered : goal.returns-in-Ok-clause-gathered
returns-in-Ok-clause-gathered g c = λ files tells.
    let sources = sources_of c.args.doc.now c.args.signature c.args.place.now files in
    let reference = c.args.reference.now in let p = c.args.self.now in let view = c.in-Ok.view in
    limits_give (λ _. c.add_view.new.self) c.add_view.result (with_limited c.args.number reference view p) (with_reference sources c.args.number reference p)
    (with_its_view sources c.args.number reference p view (c.in-Ok.ensures.shown files tells))
    c.add_view.ensures.added

pub returns-in-Ok-clause-asked : goal.returns-in-Ok-clause-asked
returns-in-Ok-clause-asked g c = λ files told. asked_behind c.add_view.result (names_of (target_in c.args.place.now c.args.reference.now)) _ _ (c.in-Ok.ensures.asked files told)

pub returns-in-Err-clause-gathered : goal.returns-in-Err-clause-gathered
returns-in-Err-clause-gathered g c = λ files tells.
    let sources = sources_of c.args.doc.now c.args.signature c.args.place.now files in
    rw c.reference_cause.ensures (without_view sources c.args.number c.args.reference.now c.args.self.now c.in-Err.cause (c.in-Err.ensures.shown files tells))

pub returns-in-Err-clause-asked : goal.returns-in-Err-clause-asked
returns-in-Err-clause-asked g c = λ files told.
    rw c.reference_cause.ensures (asked_as c.args.number c.in-Err.cause (names_of (target_in c.args.place.now c.args.reference.now)) _ _ (c.in-Err.ensures.asked files told))
