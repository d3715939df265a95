use Rattle.std.proofs.Common.{◌∙◌, ◌<◌, ◌+◌, ◌∷◌, List, length, drop, ap, sym, subst, arith, refl}
use Rattle.std.specs.List.{All}
use Rattle.std.proofs.lemmas.List.Elements.{All-push}
use Rattle.std.proofs.lemmas.Option.{slice_get_within}
use Rattle.std.proofs.lemmas.Result.{err_from_is_err_and}
use Rattle.sig_base.proofs.ListLemmas.{drop_none}
use Rattle.dsig_fields.specs.Fits.{ReferenceFits}
use Rattle.transforms.specs.Values.{origin_of}
use Rattle.transforms.specs.Views.{target_in}
use Rattle.manifests.specs.Answers.{HasOwnKind}
use Rattle.manifests.specs.Manifests.{line, names_of_entries, names_of_entry}
use Rattle.manifests.specs.declared.lines.ManifestKind.{ManifestKind}
use Rattle.manifests.specs.declared.lines.ManifestLine.{ManifestLine}
use Rattle.transforms.proofs.AskLaws.{ended, rest_begins, rest_goes, rest_grows, rest_part}
use Rattle.manifests.proofs.LineLaws.{left_lines, line_goes, lines_end, no_line, one_line, tells_at, tells_target}
use Rattle.manifests.proofs.Lists.{all_at, flat_at}
use Rattle.manifests.proofs.check.check_entries.Goals as goal

pub loop-entry-init : goal.loop-entry-init
loop-entry-init g c = record {
  within = omega arith;
  own = c.requires.own;
  left = λ files tells. refl;
  held = refl;
  asked = λ files told. rest_begins _ (names_of_entries c.args.place.now c.args.entries.now);
  faults = refl;
}

pub check_entry-requires-clause-fits : goal.check_entry-requires-clause-fits
check_entry-requires-clause-fits g c =
    all_at (ReferenceFits c.args.doc.now) c.args.entries.now c.loop-entry.number c.in-Some.entry.now c.requires.fit c.in-Some.ensures

pub loop-entry-smaller : goal.loop-entry-smaller
loop-entry-smaller g c =
    let within = slice_get_within c.args.entries.now c.loop-entry.number c.in-Some.entry.now (sym c.in-Some.ensures) in
    omega arith

pub loop-entry-preserved : goal.loop-entry-preserved
loop-entry-preserved g c =
    let rows = c.args.doc.now in let place = c.args.place.now in let reference = c.args.reference in
    let entries = c.args.entries.now in let n = c.loop-entry.number in let entry = c.in-Some.entry.now in
    let origin = origin_of rows c.args.signature in let kind = c.in_ok-kind.kind in
    let inside : n < length entries = slice_get_within entries n entry (sym c.in-Some.ensures) in
    record {
      within = omega arith;
      own =
          let P : List ManifestLine → Type 0 = All HasOwnKind in
          subst P (sym c.in_ok-push.ensures.ok) (All-push HasOwnKind c.loop-entry.lines (line reference (n + 1) kind) c.loop-entry.invariant.own c.in_ok-kind.ensures.own);
      left = λ files tells.
          let tell = tells_target (target_in place entry) _ files (tells_at (names_of_entry place) entries n entry _ _ files c.loop-entry.invariant.held c.in-Some.ensures tells) in
          let is = c.in_ok-kind.ensures.kind files tell in
          let more = left_lines origin place files reference entries (n + 1) in
          line_goes _ _ _ _ more (line reference (n + 1) kind)
          (one_line origin place files reference entries n entry c.in-Some.ensures ∙ ap (λ (k : ManifestKind). line reference (n + 1) k ∷ more) (sym is))
          c.in_ok-push.ensures.ok (c.loop-entry.invariant.left files tells);
      held = c.in_ok-kind.ensures.held ∙ c.loop-entry.invariant.held;
      asked = λ files told.
          rest_goes _ _ _ _ _ (names_of_entry place entry) (names_of_entries place (drop (n + 1) entries)) (c.loop-entry.invariant.asked files told)
          (flat_at (names_of_entry place) entries n entry c.in-Some.ensures)
          (c.in_ok-kind.ensures.asked files (c.loop-entry.invariant.held ∙ told));
      faults = c.in_ok-kind.ensures.faults ∙ c.loop-entry.invariant.faults;
    }

pub returns-in_err-kind-clause-asked : goal.returns-in_err-kind-clause-asked
returns-in_err-kind-clause-asked g c = λ files told.
    let place = c.args.place.now in let entries = c.args.entries.now in let n = c.loop-entry.number in let entry = c.in-Some.entry.now in
    let e = err_from_is_err_and c.from_residual.result c.from_residual.ensures.1 in
    rw e.1
    (rest_grows _ _ _ _ _ (names_of_entry place entry) (names_of_entries place (drop (n + 1) entries)) (c.loop-entry.invariant.asked files told)
    (flat_at (names_of_entry place) entries n entry c.in-Some.ensures)
    (c.in_err-kind.ensures.asked files (c.loop-entry.invariant.held ∙ told)))

pub returns-in_err-push-clause-asked : goal.returns-in_err-push-clause-asked
returns-in_err-push-clause-asked g c = λ files told.
    let place = c.args.place.now in let entries = c.args.entries.now in let n = c.loop-entry.number in let entry = c.in-Some.entry.now in
    let e = err_from_is_err_and c.from_residual-in_err-push.result c.from_residual-in_err-push.ensures.1 in
    rw e.1
    (rest_part _ _ _ (names_of_entries place (drop (n + 1) entries))
    (rest_goes _ _ _ _ _ (names_of_entry place entry) (names_of_entries place (drop (n + 1) entries)) (c.loop-entry.invariant.asked files told)
    (flat_at (names_of_entry place) entries n entry c.in-Some.ensures)
    (c.in_ok-kind.ensures.asked files (c.loop-entry.invariant.held ∙ told))))

pub returns-clause-lines : goal.returns-clause-lines
returns-clause-lines g c = λ files tells.
    let origin = origin_of c.args.doc.now c.args.signature in
    lines_end _ _ _ (no_line origin c.args.place.now files c.args.reference c.args.entries.now c.loop-entry.number c.in_default.ensures)
    (c.loop-entry.invariant.left files tells)

pub returns-clause-asked : goal.returns-clause-asked
returns-clause-asked g c = λ files told.
    ended _ _ _ _ (ap (names_of_entries c.args.place.now) (drop_none c.args.entries.now c.loop-entry.number c.in_default.ensures)) (c.loop-entry.invariant.asked files told)
