use Rattle.std.proofs.Common.{◌∙◌, ◌+◌, ◌++◌, List, drop, ap, sym, subst, arith, refl}
use Rattle.std.specs.List.{All}
use Rattle.std.proofs.lemmas.List.Elements.{All-nil}
use Rattle.std.proofs.lemmas.Option.{slice_get_within}
use Rattle.std.proofs.lemmas.Result.{err_from_is_err_and}
use Rattle.sig_base.proofs.ListLemmas.{drop_none}
use Rattle.manifests.specs.Answers.{HasOwnKind}
use Rattle.manifests.specs.Code.Findings.{FindingFits}
use Rattle.manifests.specs.Manifests.{lines_of_finding, lines_of_findings, names_of_finding, names_of_findings}
use Rattle.manifests.specs.declared.lines.ManifestLine.{ManifestLine}
use Rattle.transforms.proofs.AskLaws.{ended, rest_begins, rest_goes, rest_grows}
use Rattle.manifests.proofs.LineLaws.{lines_end, lines_go, tells_at}
use Rattle.manifests.proofs.Lists.{all_at, flat_at}
use Rattle.manifests.proofs.check.check_findings.Goals as goal

pub loop-finding-init : goal.loop-finding-init
loop-finding-init g c =
    let P : List ManifestLine → Type 0 = All HasOwnKind in
    record {
      own = subst P (sym c.new-lines.ensures) (All-nil HasOwnKind);
      left = λ files tells. ap (λ (t : List ManifestLine). t ++ lines_of_findings c.args.doc.now c.args.place.now files c.args.findings.now) c.new-lines.ensures;
      held = refl;
      asked = λ files told. rest_begins _ (names_of_findings c.args.place.now c.args.findings.now);
      faults = refl;
    }

pub overflow_add-k : goal.overflow_add-k
overflow_add-k g c =
    let within = slice_get_within c.args.findings.now c.loop-finding.k c.in-Some.finding.now (sym c.in-Some.ensures) in
    omega (arith, c.len-count.ensures)

pub check_finding-requires-clause-fits : goal.check_finding-requires-clause-fits
check_finding-requires-clause-fits g c =
    all_at (FindingFits c.args.doc.now) c.args.findings.now c.loop-finding.k c.in-Some.finding.now c.requires.fit c.in-Some.ensures

pub loop-finding-smaller : goal.loop-finding-smaller
loop-finding-smaller g c =
    let within = slice_get_within c.args.findings.now c.loop-finding.k c.in-Some.finding.now (sym c.in-Some.ensures) in
    omega arith

pub loop-finding-preserved : goal.loop-finding-preserved
loop-finding-preserved g c =
    let rows = c.args.doc.now in let place = c.args.place.now in
    let found = c.args.findings.now in let k = c.loop-finding.k in let finding = c.in-Some.finding.now in
    record {
      own = c.in_ok-check_finding.ensures.own;
      left = λ files tells.
          lines_go _ _ _ _ (lines_of_finding rows place files finding) (lines_of_findings rows place files (drop (k + 1) found))
          (flat_at (lines_of_finding rows place files) found k finding c.in-Some.ensures)
          (c.in_ok-check_finding.ensures.lines files (tells_at (names_of_finding place) found k finding _ _ files c.loop-finding.invariant.held c.in-Some.ensures tells))
          (c.loop-finding.invariant.left files tells);
      held = c.in_ok-check_finding.ensures.held ∙ c.loop-finding.invariant.held;
      asked = λ files told.
          rest_goes _ _ _ _ _ (names_of_finding place finding) (names_of_findings place (drop (k + 1) found)) (c.loop-finding.invariant.asked files told)
          (flat_at (names_of_finding place) found k finding c.in-Some.ensures)
          (c.in_ok-check_finding.ensures.asked files (c.loop-finding.invariant.held ∙ told));
      faults = c.in_ok-check_finding.ensures.faults ∙ c.loop-finding.invariant.faults;
    }

pub returns-in_err-check_finding-clause-asked : goal.returns-in_err-check_finding-clause-asked
returns-in_err-check_finding-clause-asked g c = λ files told.
    let place = c.args.place.now in let found = c.args.findings.now in let k = c.loop-finding.k in let finding = c.in-Some.finding.now in
    let e = err_from_is_err_and c.from_residual.result c.from_residual.ensures.1 in
    rw e.1
    (rest_grows _ _ _ _ _ (names_of_finding place finding) (names_of_findings place (drop (k + 1) found)) (c.loop-finding.invariant.asked files told)
    (flat_at (names_of_finding place) found k finding c.in-Some.ensures)
    (c.in_err-check_finding.ensures.asked files (c.loop-finding.invariant.held ∙ told)))

pub returns-clause-lines : goal.returns-clause-lines
returns-clause-lines g c = λ files tells.
    let rows = c.args.doc.now in let place = c.args.place.now in
    lines_end _ _ _ (ap (lines_of_findings rows place files) (drop_none c.args.findings.now c.loop-finding.k c.in_default.ensures))
    (c.loop-finding.invariant.left files tells)

pub returns-clause-asked : goal.returns-clause-asked
returns-clause-asked g c = λ files told.
    ended _ _ _ _ (ap (names_of_findings c.args.place.now) (drop_none c.args.findings.now c.loop-finding.k c.in_default.ensures)) (c.loop-finding.invariant.asked files told)
