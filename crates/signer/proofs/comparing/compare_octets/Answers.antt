use Rattle.std.proofs.Common.{◌∙◌, ◌++◌, ℕ, List, ap, sym, subst, append-nil}
use Rattle.xml_read.specs.ReadOutcome.{read_outcome}
use Rattle.core_validate.specs.Progress.{sources_of}
use Rattle.signer.specs.Answers.{AsksAll}
use Rattle.signer.specs.Code.Comparing.{compared, made_outcome, names_made}
use Rattle.signer.specs.Code.Refusals.{filled_cause}
use Rattle.signer.proofs.CompareLaws.{made_fits, made_stops, made_too_long, names_fit, names_stop, names_too_long, tells_read}
use Rattle.signer.proofs.Refusing.{gives_by, refuses_from}
use Rattle.signer.proofs.SigningLaws.{filled_asks}
use Rattle.signer.proofs.comparing.compare_octets.Goals as goal

pub returns-in-Ok-clause-outcome : goal.returns-in-Ok-clause-outcome
returns-in-Ok-clause-outcome g c = λ files tells.
    made_too_long c.args.signature c.args.place.now c.args.made.now c.args.fits c.args.views.now files c.in-Ok.field-0 c.in-Ok.ensures c.if-not-fits.true

pub returns-in-Ok-clause-asked : goal.returns-in-Ok-clause-asked
returns-in-Ok-clause-asked g c = λ files told.
    sym (ap (λ (t : List (List ℕ)). g.F.Folder.asked c.args.folder.now ++ t)
    (names_too_long c.args.signature c.args.place.now c.args.made.now c.args.fits c.args.views.now files c.in-Ok.field-0 c.in-Ok.ensures c.if-not-fits.true)
    ∙ append-nil (g.F.Folder.asked c.args.folder.now))

pub returns-in-Ok-2-clause-outcome : goal.returns-in-Ok-2-clause-outcome
returns-in-Ok-2-clause-outcome g c = λ files tells.
    let made = c.args.made.now in let place = c.args.place.now in let rows = c.in-Ok.field-0 in let views = c.args.views.now in
    gives_by (λ (done : Unit {0}). done) c.compare_document.result (compared (sources_of rows c.args.signature place files) views) (made_outcome c.args.signature place files made c.args.fits views)
    (made_fits c.args.signature place made c.args.fits views files rows c.in-Ok.ensures c.if-not-fits.false)
    (c.compare_document.ensures.outcome files (tells_read c.args.signature place made c.args.fits views rows _ files c.in-Ok.ensures tells))

pub returns-in-Ok-2-clause-asked : goal.returns-in-Ok-2-clause-asked
returns-in-Ok-2-clause-asked g c = λ files told.
    let P : List (List ℕ) → Type 0 = λ names. AsksAll c.compare_document.result names (g.F.Folder.asked c.args.folder.now) (g.F.Folder.asked c.compare_document.new.folder) in
    subst P (sym (names_fit c.args.signature c.args.place.now c.args.made.now c.args.fits c.args.views.now files c.in-Ok.field-0 c.in-Ok.ensures c.if-not-fits.false))
    (c.compare_document.ensures.asked files told)

pub returns-clause-outcome : goal.returns-clause-outcome
returns-clause-outcome g c = λ files tells.
    let outcome = made_outcome c.args.signature c.args.place.now files c.args.made.now c.args.fits c.args.views.now in
    rw c.filled_cause.ensures
    (refuses_from (filled_cause c.in-Err.cause) outcome outcome (λ e. e) (made_stops c.args.signature c.args.place.now c.args.made.now c.args.fits c.args.views.now files c.in-Err.cause c.in-Err.ensures))

pub returns-clause-asked : goal.returns-clause-asked
returns-clause-asked g c = λ files told.
    rw c.filled_cause.ensures
    (filled_asks (read_outcome c.args.made.now) (names_made c.args.signature c.args.place.now files c.args.made.now c.args.fits c.args.views.now) _ c.in-Err.cause c.in-Err.ensures
    (λ e. names_stop c.args.signature c.args.place.now c.args.made.now c.args.fits c.args.views.now files c.in-Err.cause e))
