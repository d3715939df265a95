use Rattle.std.proofs.Common.{true, false, ◌≡◌, ◌∙◌, ◌+◌, ◌++◌, ℕ, List, drop, ap, sym, arith, inl}
use Rattle.std.proofs.lemmas.Result.{err_from_is_err_and}
use Rattle.dsig_fields.specs.Fits.{ReferenceFits}
use Rattle.transforms.specs.Answers.{names_of}
use Rattle.transforms.specs.Views.{target_in}
use Rattle.transforms.proofs.AskLaws.{ended, rest_ends, rest_goes}
use Rattle.core_validate.specs.Progress.{sources_of}
use Rattle.signer.specs.Asked.{names_compared}
use Rattle.signer.specs.Outcome.{is_view}
use Rattle.signer.proofs.Refusing.{asked_outside}
use Rattle.signer.proofs.CompareLaws.{changed_here, changed_none, compared_none, had, more_names, names_here, names_next, names_split, same_next}
use Rattle.signer.proofs.ViewLaws.{all_at, tells_at}
use Rattle.signer.proofs.comparing.first_changed.Goals as goal

pub is_view-requires-clause-fits : goal.is_view-requires-clause-fits
is_view-requires-clause-fits g c = all_at (ReferenceFits c.args.doc.now) c.args.references.now c.loop-reference.number c.in-Some.reference.now c.requires.fit c.in-Some.ensures.found

pub loop-reference-preserved : goal.loop-reference-preserved
loop-reference-preserved g c =
    let rows = c.args.doc.now in let signature = c.args.signature in let place = c.args.place.now in
    let all = c.args.references.now in let others = c.args.views.now in let n = c.loop-reference.number in
    let r = c.in-Some.reference.now in let v = c.in-Some.view.now in let b = c.in-Some.ensures in
    record {
      within = let inside = b.within in omega (arith, inside);
      left = λ files tells.
          let sources = sources_of rows signature place files in
          let same : is_view (had sources r) v ≡ true =
          ap (is_view (had sources r)) (sym c.bytes.ensures) ∙ sym (c.in_ok-is_view.ensures.same files (tells_at place all _ _ files n r c.loop-reference.invariant.held tells b.found)) ∙ c.if-not-branch.false in
          sym (same_next sources all others n r v b (n + 1) same) ∙ c.loop-reference.invariant.left files tells;
      held = c.in_ok-is_view.ensures.held ∙ c.loop-reference.invariant.held;
      asked = λ files told.
          let sources = sources_of rows signature place files in
          let same : is_view (had sources r) v ≡ true =
          ap (is_view (had sources r)) (sym c.bytes.ensures) ∙ sym (c.in_ok-is_view.ensures.same files (tells_at place all _ _ files n r c.loop-reference.invariant.held (inl told) b.found)) ∙ c.if-not-branch.false in
          rest_goes _ _ _ _ _ (names_of (target_in place r)) (names_compared sources (drop (n + 1) all) (drop (n + 1) others)) (c.loop-reference.invariant.asked files told)
          (names_next sources all others n r v b same)
          (c.in_ok-is_view.ensures.asked files (c.loop-reference.invariant.held ∙ told));
      faults = c.in_ok-is_view.ensures.faults ∙ c.loop-reference.invariant.faults;
    }

pub returns-in_err-is_view-clause-asked : goal.returns-in_err-is_view-clause-asked
returns-in_err-is_view-clause-asked g c = λ files told.
    let rows = c.args.doc.now in let signature = c.args.signature in let place = c.args.place.now in
    let all = c.args.references.now in let others = c.args.views.now in let n = c.loop-reference.number in
    let r = c.in-Some.reference.now in let v = c.in-Some.view.now in let b = c.in-Some.ensures in
    let sources = sources_of rows signature place files in
    let e = err_from_is_err_and c.from_residual.result c.from_residual.ensures.1 in
    rw (e.1, e.2)
    (asked_outside c.in_err-is_view.field-0.0 _ _ _ _ _ (names_of (target_in place r)) (more_names sources all others n r v b (is_view (had sources r) v)) (c.loop-reference.invariant.asked files told)
    (names_split sources all others n r v b) c.in_err-is_view.ensures.causes (c.in_err-is_view.ensures.asked files (c.loop-reference.invariant.held ∙ told)))

pub returns-then-not-branch-clause-changed : goal.returns-then-not-branch-clause-changed
returns-then-not-branch-clause-changed g c = λ files tells.
    let rows = c.args.doc.now in let signature = c.args.signature in let place = c.args.place.now in
    let all = c.args.references.now in let others = c.args.views.now in let n = c.loop-reference.number in
    let r = c.in-Some.reference.now in let v = c.in-Some.view.now in let b = c.in-Some.ensures in
    let sources = sources_of rows signature place files in
    let same : is_view (had sources r) v ≡ false =
    ap (is_view (had sources r)) (sym c.bytes.ensures) ∙ sym (c.in_ok-is_view.ensures.same files (tells_at place all _ _ files n r c.loop-reference.invariant.held tells b.found)) ∙ c.if-not-branch.true in
    sym (changed_here sources all others n r v b (n + 1) same) ∙ c.loop-reference.invariant.left files tells

pub returns-then-not-branch-clause-asked : goal.returns-then-not-branch-clause-asked
returns-then-not-branch-clause-asked g c = λ files told.
    let rows = c.args.doc.now in let signature = c.args.signature in let place = c.args.place.now in
    let all = c.args.references.now in let others = c.args.views.now in let n = c.loop-reference.number in
    let r = c.in-Some.reference.now in let v = c.in-Some.view.now in let b = c.in-Some.ensures in
    let sources = sources_of rows signature place files in
    let same : is_view (had sources r) v ≡ false =
    ap (is_view (had sources r)) (sym c.bytes.ensures) ∙ sym (c.in_ok-is_view.ensures.same files (tells_at place all _ _ files n r c.loop-reference.invariant.held (inl told) b.found)) ∙ c.if-not-branch.true in
    rest_ends _ _ _ _ _ (c.loop-reference.invariant.asked files told)
    (c.in_ok-is_view.ensures.asked files (c.loop-reference.invariant.held ∙ told) ∙ ap (λ (t : List (List ℕ)). g.F.Folder.asked c.loop-reference.folder ++ t) (sym (names_here sources all others n r v b same)))

pub returns-clause-changed : goal.returns-clause-changed
returns-clause-changed g c = λ files tells.
    let sources = sources_of c.args.doc.now c.args.signature c.args.place.now files in let n = c.loop-reference.number in
    sym (changed_none sources (n + 1) (drop n c.args.references.now) (drop n c.args.views.now) c.in_default.ensures) ∙ c.loop-reference.invariant.left files tells

pub returns-clause-asked : goal.returns-clause-asked
returns-clause-asked g c = λ files told.
    let sources = sources_of c.args.doc.now c.args.signature c.args.place.now files in let n = c.loop-reference.number in
    ended _ _ _ _ (compared_none sources (drop n c.args.references.now) (drop n c.args.views.now) c.in_default.ensures) (c.loop-reference.invariant.asked files told)
