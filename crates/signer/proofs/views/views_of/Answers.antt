use Rattle.std.proofs.Common.{Err, ◌≡◌, ◌∙◌, ◌<◌, ◌+◌, [], length, drop, ap, sym, arith, inl}
use Rattle.std.proofs.lemmas.Option.{slice_get_within}
use Rattle.std.proofs.lemmas.Result.{err_from_is_err_and}
use Rattle.sig_base.proofs.ListLemmas.{drop-at, drop_none}
use Rattle.transforms.specs.Answers.{names_of}
use Rattle.transforms.specs.Asked.{names_behind}
use Rattle.transforms.specs.Views.{target_in}
use Rattle.transforms.proofs.AskLaws.{ended, rest_goes}
use Rattle.core_validate.specs.Progress.{sources_of}
use Rattle.signer.specs.Code.Views.{with_reference}
use Rattle.signer.specs.Outcome.{views_from}
use Rattle.signer.proofs.Refusing.{asked_refused, refuses_on}
use Rattle.signer.proofs.ViewLaws.{behind, behind_all, behind_one, behind_refused, named, names_last, names_none, names_one, names_split, next_of, tells_at}
use Rattle.signer.proofs.views.views_of.Goals as goal

pub loop-reference-preserved : goal.loop-reference-preserved
loop-reference-preserved g c =
    let rows = c.args.doc.now in let signature = c.args.signature in let place = c.args.place.now in
    let all = c.args.references.now in let p = c.loop-reference.gathered in let n = c.loop-reference.number in
    let q = c.add_reference.new.self in let r = c.in-Some.reference.now in
    let inside : n < length all = slice_get_within all n r (sym c.in-Some.ensures) in
    let here = drop-at all n r c.in-Some.ensures in
    record {
      within = omega arith;
      limit = c.in_ok-add_reference.ensures.within;
      left = λ files tells.
          let sources = sources_of rows signature place files in
          sym (behind_one sources (n + 1) r (drop (n + 1) all) p q
          (c.in_ok-add_reference.ensures.gathered files (tells_at place all _ _ files n r c.loop-reference.invariant.held tells c.in-Some.ensures)))
          ∙ ap (behind sources p (n + 1)) (sym here)
          ∙ c.loop-reference.invariant.left files tells;
      held = c.in_ok-add_reference.ensures.held ∙ c.loop-reference.invariant.held;
      asked = λ files told.
          let sources = sources_of rows signature place files in
          rest_goes _ _ _ _ _ (names_of (target_in place r)) (names_behind sources q.total (drop (n + 1) all)) (c.loop-reference.invariant.asked files told)
          (ap (names_behind sources p.total) here
          ∙ names_one sources (n + 1) r (drop (n + 1) all) p q
          (c.in_ok-add_reference.ensures.gathered files (tells_at place all _ _ files n r c.loop-reference.invariant.held (inl told) c.in-Some.ensures)))
          (c.in_ok-add_reference.ensures.asked files (c.loop-reference.invariant.held ∙ told));
      faults = c.in_ok-add_reference.ensures.faults ∙ c.loop-reference.invariant.faults;
    }

pub returns-in_err-add_reference-clause-views : goal.returns-in_err-add_reference-clause-views
returns-in_err-add_reference-clause-views g c = λ files tells.
    let rows = c.args.doc.now in let all = c.args.references.now in let p = c.loop-reference.gathered in let n = c.loop-reference.number in
    let r = c.in-Some.reference.now in let cause = c.in_err-add_reference.field-0.0 in
    let sources = sources_of rows c.args.signature c.args.place.now files in
    let here = drop-at all n r c.in-Some.ensures in
    let e = err_from_is_err_and c.from_residual.result c.from_residual.ensures.1 in
    rw (e.1, e.2)
    (refuses_on cause (with_reference sources (n + 1) r p) (views_from sources 0 1 all)
    (λ (h : with_reference sources (n + 1) r p ≡ Err cause).
    sym (c.loop-reference.invariant.left files tells)
    ∙ ap (behind sources p (n + 1)) here
    ∙ behind_refused sources (n + 1) r (drop (n + 1) all) p cause h)
    (c.in_err-add_reference.ensures.gathered files (tells_at c.args.place.now all _ _ files n r c.loop-reference.invariant.held tells c.in-Some.ensures)))

pub returns-in_err-add_reference-clause-asked : goal.returns-in_err-add_reference-clause-asked
returns-in_err-add_reference-clause-asked g c = λ files told.
    let rows = c.args.doc.now in let all = c.args.references.now in let p = c.loop-reference.gathered in let n = c.loop-reference.number in
    let r = c.in-Some.reference.now in let cause = c.in_err-add_reference.field-0.0 in let place = c.args.place.now in
    let sources = sources_of rows c.args.signature place files in
    let here = ap (names_behind sources p.total) (drop-at all n r c.in-Some.ensures) in
    let e = err_from_is_err_and c.from_residual.result c.from_residual.ensures.1 in
    rw (e.1, e.2)
    (asked_refused cause (with_reference sources (n + 1) r p) _ _ _ _ _ (names_of (target_in place r)) (named sources (n + 1) r (drop (n + 1) all) p (next_of sources p r))
    (c.loop-reference.invariant.asked files told) (here ∙ names_split sources (n + 1) r (drop (n + 1) all) p)
    (λ (h : with_reference sources (n + 1) r p ≡ Err cause). here ∙ names_last sources (n + 1) r (drop (n + 1) all) p cause h)
    (c.in_err-add_reference.ensures.gathered files (tells_at place all _ _ files n r c.loop-reference.invariant.held (inl told) c.in-Some.ensures))
    (c.in_err-add_reference.ensures.asked files (c.loop-reference.invariant.held ∙ told)))

pub returns-clause-views : goal.returns-clause-views
returns-clause-views g c = λ files tells.
    let sources = sources_of c.args.doc.now c.args.signature c.args.place.now files in
    let p = c.loop-reference.gathered in let n = c.loop-reference.number in
    sym (c.loop-reference.invariant.left files tells)
    ∙ ap (behind sources p (n + 1)) (drop_none c.args.references.now n c.in_default.ensures)
    ∙ behind_all sources p (n + 1)

pub returns-clause-asked : goal.returns-clause-asked
returns-clause-asked g c = λ files told.
    let sources = sources_of c.args.doc.now c.args.signature c.args.place.now files in
    let p = c.loop-reference.gathered in let n = c.loop-reference.number in
    let none : names_behind sources p.total (drop n c.args.references.now) ≡ [] =
    ap (names_behind sources p.total) (drop_none c.args.references.now n c.in_default.ensures) ∙ names_none sources p.total in
    ended _ _ _ _ none (c.loop-reference.invariant.asked files told)
