use Rattle.std.proofs.Common.{sym, ◌∙◌}
use Rattle.std.proofs.lemmas.Result.{err_from_is_err_and}
use Rattle.dsig_fields.proofs.ManyLaws.{behind_refused, one_passed, none_passed, one_less}
use Rattle.dsig_fields.proofs.children.Children.behind_all.Goals as goal

pub returns-in_err-optional : goal.returns-in_err-optional
returns-in_err-optional c =
    let p = err_from_is_err_and c.from_residual.result c.from_residual.ensures.1 in
    rw (p.1, p.2, ← c.loop.invariant) (behind_refused c.args.doc.now c.args.name _ c.loop.self c.in_err-optional.ensures.reads)

pub loop-smaller : goal.loop-smaller
loop-smaller c = one_less c.args.doc.now c.args.name c.loop.self _ _ (sym c.if-is_some.ensures) c.in_ok-optional.ensures.reads

pub loop-preserved : goal.loop-preserved
loop-preserved c = one_passed c.args.doc.now c.args.name c.loop.self _ _ (sym c.if-is_some.ensures) c.in_ok-optional.ensures.reads ∙ c.loop.invariant

pub returns : goal.returns
returns c = sym c.loop.invariant ∙ none_passed c.args.doc.now c.args.name c.loop.self _ _ (sym c.if-is_some.ensures) c.in_ok-optional.ensures.reads
