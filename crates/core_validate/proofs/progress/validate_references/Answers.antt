use Rattle.std.proofs.Common.{Ok, Err, Some, None, ◌≡◌, ◌∙◌, ◌<◌, ◌≤◌, ◌+◌, ◌++◌, [], ℕ, List, length, drop, take, ap, sym, subst, arith, inl, refl}
use Rattle.std.specs.List.{All}
use Rattle.std.proofs.lemmas.List.{take_all}
use Rattle.std.proofs.lemmas.List.Elements.{All-more, All-nil}
use Rattle.std.proofs.lemmas.Option.{get_or_from_slice_get, slice_get_within}
use Rattle.std.proofs.lemmas.Result.{err_from_is_err_and}
use Rattle.sig_base.proofs.ListLemmas.{drop-at, drop_none}
use Rattle.dsig_fields.specs.Fits.{ReferenceFits}
use Rattle.dsig_fields.specs.declared.fields.Reference.{Reference}
use Rattle.transforms.specs.Answers.{names_of}
use Rattle.transforms.specs.Asked.{names_behind}
use Rattle.transforms.specs.Outcome.{references_report}
use Rattle.transforms.specs.Views.{target_in}
use Rattle.transforms.proofs.AskLaws.{ended, rest_begins, rest_goes}
use Rattle.core_validate.specs.Progress.{sources_of, with_reference}
use Rattle.core_validate.specs.Reached.{IsHad}
use Rattle.core_validate.specs.declared.progress.Progress.{Progress}
use Rattle.core_validate.proofs.AskLaws.{asked_refused, counted_on, own_on}
use Rattle.core_validate.proofs.Lists.{all_at, none_left, passed_at}
use Rattle.core_validate.proofs.ProgressLaws.{IsWithin, advanced, behind, behind_all, behind_nothing, behind_one, behind_refused, names_last, names_none, names_one, names_split, named, next_of, nothing_within, refuses_on}
use Rattle.core_validate.proofs.ReachedLaws.{few_views, reported, staged, tells_at}
use Rattle.core_validate.proofs.progress.validate_references.Goals as goal

pub loop-reference-init : goal.loop-reference-init
loop-reference-init g c =
    let rows = c.args.doc.now in let all = c.args.references.now in
    record {
      within = omega arith;
      limits = rw c.new-progress.ensures (nothing_within c.args.keep);
      had = All-nil (IsHad rows c.args.signature c.args.place.now);
      left = λ files tells. rw c.new-progress.ensures (behind_nothing (sources_of rows c.args.signature c.args.place.now files) c.args.keep all);
      held = refl;
      asked = λ files told. rw c.new-progress.ensures (rest_begins _ (names_behind (sources_of rows c.args.signature c.args.place.now files) 0 all));
      faults = refl;
    }

pub add_reference-requires-clause-total : goal.add_reference-requires-clause-total
add_reference-requires-clause-total g c = c.loop-reference.invariant.limits.within

pub add_reference-requires-clause-fits : goal.add_reference-requires-clause-fits
add_reference-requires-clause-fits g c =
    all_at (ReferenceFits c.args.doc.now) c.args.references.now c.loop-reference.number c.in-Some.reference.now c.requires.fit c.in-Some.ensures

pub loop-reference-smaller : goal.loop-reference-smaller
loop-reference-smaller g c =
    let within = slice_get_within c.args.references.now c.loop-reference.number c.in-Some.reference.now (sym c.in-Some.ensures) in
    omega arith

pub loop-reference-preserved : goal.loop-reference-preserved
loop-reference-preserved g c =
    let rows = c.args.doc.now in let signature = c.args.signature in let place = c.args.place.now in let keep = c.args.keep in
    let all = c.args.references.now in let p = c.loop-reference.progress in let n = c.loop-reference.number in
    let q = c.add_reference.new.self in let r = c.in-Some.reference.now in
    let inside : n < length all = slice_get_within all n r (sym c.in-Some.ensures) in
    let here = drop-at all n r c.in-Some.ensures in
    record {
      within = omega arith;
      limits = advanced keep n (n + 1) r p q c.loop-reference.invariant.limits c.in_ok-add_reference.ensures.further;
      had =
          let P = IsHad rows signature place in
          All-more P all n r inside c.loop-reference.invariant.had (subst P (sym (get_or_from_slice_get all n r r (sym c.in-Some.ensures))) c.in_ok-add_reference.ensures.had);
      left = λ files tells.
          let sources = sources_of rows signature place files in
          sym (behind_one sources (n + 1) r (drop (n + 1) all) p q
          (c.in_ok-add_reference.ensures.progress files (tells_at place all _ _ files n r c.loop-reference.invariant.held tells c.in-Some.ensures)))
          ∙ ap (behind sources p (n + 1)) (sym here)
          ∙ c.loop-reference.invariant.left files tells;
      held = c.in_ok-add_reference.ensures.held ∙ c.loop-reference.invariant.held;
      asked = λ files told.
          let sources = sources_of rows signature place files in
          rest_goes _ _ _ _ _ (names_of (target_in place r)) (names_behind sources q.total (drop (n + 1) all)) (c.loop-reference.invariant.asked files told)
          (ap (names_behind sources p.total) here
          ∙ names_one sources (n + 1) r (drop (n + 1) all) p q
          (c.in_ok-add_reference.ensures.progress files (tells_at place all _ _ files n r c.loop-reference.invariant.held (inl told) c.in-Some.ensures)))
          (c.in_ok-add_reference.ensures.asked files (c.loop-reference.invariant.held ∙ told));
      faults = c.in_ok-add_reference.ensures.faults ∙ c.loop-reference.invariant.faults;
    }

pub returns-in_err-add_reference-clause-report : goal.returns-in_err-add_reference-clause-report
returns-in_err-add_reference-clause-report g c = λ files tells.
    let rows = c.args.doc.now in let all = c.args.references.now in let p = c.loop-reference.progress in let n = c.loop-reference.number in
    let r = c.in-Some.reference.now in let cause = c.in_err-add_reference.field-0.0 in
    let sources = sources_of rows c.args.signature c.args.place.now files in
    let here = drop-at all n r c.in-Some.ensures in
    let e = err_from_is_err_and c.from_residual.result c.from_residual.ensures.1 in
    rw (e.1, e.2)
    (refuses_on cause (with_reference sources (n + 1) r p) (references_report sources c.args.keep all)
    (λ (h : with_reference sources (n + 1) r p ≡ Err cause).
    sym (c.loop-reference.invariant.left files tells)
    ∙ ap (behind sources p (n + 1)) here
    ∙ behind_refused sources (n + 1) r (drop (n + 1) all) p cause h)
    (c.in_err-add_reference.ensures.progress files (tells_at c.args.place.now all _ _ files n r c.loop-reference.invariant.held tells c.in-Some.ensures)))

pub returns-in_err-add_reference-clause-causes : goal.returns-in_err-add_reference-clause-causes
returns-in_err-add_reference-clause-causes g c =
    let e = err_from_is_err_and c.from_residual.result c.from_residual.ensures.1 in
    rw (e.1, e.2) (own_on c.in_err-add_reference.field-0.0 c.in_err-add_reference.ensures.causes)

pub returns-in_err-add_reference-clause-held : goal.returns-in_err-add_reference-clause-held
returns-in_err-add_reference-clause-held g c = c.in_err-add_reference.ensures.held ∙ c.loop-reference.invariant.held

pub returns-in_err-add_reference-clause-asked : goal.returns-in_err-add_reference-clause-asked
returns-in_err-add_reference-clause-asked g c = λ files told.
    let rows = c.args.doc.now in let all = c.args.references.now in let p = c.loop-reference.progress in let n = c.loop-reference.number in
    let r = c.in-Some.reference.now in let cause = c.in_err-add_reference.field-0.0 in let place = c.args.place.now in
    let sources = sources_of rows c.args.signature place files in
    let here = ap (names_behind sources p.total) (drop-at all n r c.in-Some.ensures) in
    let e = err_from_is_err_and c.from_residual.result c.from_residual.ensures.1 in
    rw (e.1, e.2)
    (asked_refused cause (with_reference sources (n + 1) r p) _ _ _ _ _ (names_of (target_in place r)) (named sources (n + 1) r (drop (n + 1) all) p (next_of sources p r))
    (c.loop-reference.invariant.asked files told) (here ∙ names_split sources (n + 1) r (drop (n + 1) all) p)
    (λ (h : with_reference sources (n + 1) r p ≡ Err cause). here ∙ names_last sources (n + 1) r (drop (n + 1) all) p cause h)
    (c.in_err-add_reference.ensures.progress files (tells_at place all _ _ files n r c.loop-reference.invariant.held (inl told) c.in-Some.ensures))
    (c.in_err-add_reference.ensures.asked files (c.loop-reference.invariant.held ∙ told)))

pub returns-in_err-add_reference-clause-faults : goal.returns-in_err-add_reference-clause-faults
returns-in_err-add_reference-clause-faults g c =
    let e = err_from_is_err_and c.from_residual.result c.from_residual.ensures.1 in
    rw (e.1, e.2) (counted_on c.in_err-add_reference.field-0.0 _ _ _ c.loop-reference.invariant.faults c.in_err-add_reference.ensures.faults)

pub returns-clause-report : goal.returns-clause-report
returns-clause-report g c = λ files tells.
    let sources = sources_of c.args.doc.now c.args.signature c.args.place.now files in
    let p = c.loop-reference.progress in let n = c.loop-reference.number in
    sym (c.loop-reference.invariant.left files tells)
    ∙ ap (behind sources p (n + 1)) (drop_none c.args.references.now n c.in_default.ensures)
    ∙ behind_all sources p (n + 1)
    ∙ ap Ok (sym c.report.ensures)

pub returns-clause-reached : goal.returns-clause-reached
returns-clause-reached g c =
    let all = c.args.references.now in let p = c.loop-reference.progress in let n = c.loop-reference.number in
    let end : n ≡ length all = none_left all n c.in_default.ensures c.loop-reference.invariant.within in
    let P : List Reference → Type 0 = λ rs. All (IsHad c.args.doc.now c.args.signature c.args.place.now) rs in
    rw c.report.ensures
    (reported c.args.doc.now c.args.signature c.args.place.now c.args.keep all n p c.loop-reference.invariant.limits end
    (subst P (take_all n all (omega arith)) c.loop-reference.invariant.had))

pub returns-clause-few : goal.returns-clause-few
returns-clause-few g c =
    let within = c.loop-reference.invariant.within in let few = c.requires.few in
    rw c.report.ensures (few_views c.args.keep c.loop-reference.number c.loop-reference.progress c.loop-reference.invariant.limits (omega arith))

pub returns-clause-causes : goal.returns-clause-causes
returns-clause-causes g c =
    let p = c.loop-reference.progress in
    rw c.report.ensures (staged p.views.lengths p.views.octets p.differing)

pub returns-clause-asked : goal.returns-clause-asked
returns-clause-asked g c = λ files told.
    let sources = sources_of c.args.doc.now c.args.signature c.args.place.now files in
    let p = c.loop-reference.progress in let n = c.loop-reference.number in
    let none : names_behind sources p.total (drop n c.args.references.now) ≡ [] =
    ap (names_behind sources p.total) (drop_none c.args.references.now n c.in_default.ensures) ∙ names_none sources p.total in
    ended _ _ _ _ none (c.loop-reference.invariant.asked files told)
