use Rattle.std.proofs.Common.{◌∙◌, ap, sym, arith}
use Rattle.std.specs.List.{list_all}
use Rattle.std.proofs.lemmas.Option.{slice_get_within}
use Rattle.sig_base.proofs.ListLemmas.{drop_none}
use Rattle.manifests.specs.Findings.{is_canonicalization}
use Rattle.manifests.proofs.Lists.{failed_here, passed_here}
use Rattle.manifests.proofs.findings.canonicalize_alone.Goals as goal

pub returns-then-not-is_canonicalization : goal.returns-then-not-is_canonicalization
returns-then-not-is_canonicalization c =
    sym (failed_here is_canonicalization c.args.steps.now c.loop-step.k c.in-Some.step.now c.in-Some.ensures (sym c.is_canonicalization.ensures ∙ c.if-not-is_canonicalization.true))
    ∙ c.loop-step.invariant

pub overflow_add-k : goal.overflow_add-k
overflow_add-k c =
    let within = slice_get_within c.args.steps.now c.loop-step.k c.in-Some.step.now (sym c.in-Some.ensures) in
    omega (arith, c.len-count.ensures)

pub loop-step-smaller : goal.loop-step-smaller
loop-step-smaller c =
    let within = slice_get_within c.args.steps.now c.loop-step.k c.in-Some.step.now (sym c.in-Some.ensures) in
    omega arith

pub loop-step-preserved : goal.loop-step-preserved
loop-step-preserved c =
    passed_here is_canonicalization c.args.steps.now c.loop-step.k c.in-Some.step.now c.in-Some.ensures (sym c.is_canonicalization.ensures ∙ c.if-not-is_canonicalization.false)
    ∙ c.loop-step.invariant

pub returns : goal.returns
returns c = sym (ap (list_all is_canonicalization) (drop_none c.args.steps.now c.loop-step.k c.in_default.ensures)) ∙ c.loop-step.invariant
