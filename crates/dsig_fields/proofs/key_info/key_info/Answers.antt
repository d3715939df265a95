use Rattle.std.proofs.Common.{sym, ◌∙◌}
use Rattle.std.proofs.lemmas.Result.{err_from_is_err_and}
use Rattle.dsig_fields.proofs.NameLaws.{key_info_is, next_refused, name_refused, turn, last}
use Rattle.dsig_fields.proofs.NextLaws.{any_shorter}
use Rattle.dsig_fields.proofs.key_info.key_info.Goals as goal

pub loop-first-init : goal.loop-first-init
loop-first-init c = rw c.of-children.ensures (sym (key_info_is c.args.doc.now c.args.x))

pub returns-in_err-y : goal.returns-in_err-y
returns-in_err-y c =
    let p = err_from_is_err_and c.from_residual.result c.from_residual.ensures.1 in
    rw (p.1, p.2, ← c.loop-first.invariant) (next_refused c.args.doc.now c.loop-first.first _ c.loop-first.children c.in_err-y.ensures.reads)

pub returns-in_err-name : goal.returns-in_err-name
returns-in_err-name c =
    let p = err_from_is_err_and c.from_residual-in_err-name.result c.from_residual-in_err-name.ensures.1 in
    rw (p.1, p.2, ← c.loop-first.invariant) (name_refused c.args.doc.now c.loop-first.first _ c.loop-first.children _ c.in-Some.y (rw c.in-Some.is at c.in_ok-y.ensures.reads) c.in_err-name.ensures)

pub loop-first-smaller : goal.loop-first-smaller
loop-first-smaller c = any_shorter c.args.doc.now c.loop-first.children _ _ (rw c.in-Some.is at c.in_ok-y.ensures.reads)

pub loop-first-preserved : goal.loop-first-preserved
loop-first-preserved c =
    rw c.or-first.ensures (turn c.args.doc.now c.loop-first.first _ c.loop-first.children _ c.in-Some.y (rw c.in-Some.is at c.in_ok-y.ensures.reads) c.in_ok-name.ensures ∙ c.loop-first.invariant)

pub returns : goal.returns
returns c = sym c.loop-first.invariant ∙ last c.args.doc.now c.loop-first.first c.loop-first.children _ (rw c.in_default.is at c.in_ok-y.ensures.reads)
