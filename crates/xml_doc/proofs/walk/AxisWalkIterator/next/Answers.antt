use Rattle.std.proofs.Common.{◌∙◌, sym}
use Rattle.xml_doc.specs.Axes.{on_axis}
use Rattle.xml_doc.proofs.AxisLemmas.{forward_step, reverse_step, no_step}
use Rattle.xml_doc.proofs.SearchLemmas.{first_gives, none_gives}
use Rattle.xml_doc.proofs.walk.AxisWalkIterator.next.Goals as goal

pub returns-in_err-y-clause-steps : goal.returns-in_err-y-clause-steps
returns-in_err-y-clause-steps c =
    let p = on_axis c.self.inside.axis c.self.inside.doc.now c.self.inside.from in
    none_gives c.args.self.now c.from_residual.result c.from_residual.ensures (sym c.self.view_is ∙ no_step c.self.inside.axis p c.self.inside.at c.self.inside.until c.in_err-y.ensures)

pub returns-in_err-y-2-clause-steps : goal.returns-in_err-y-2-clause-steps
returns-in_err-y-2-clause-steps c =
    let p = on_axis c.self.inside.axis c.self.inside.doc.now c.self.inside.from in
    none_gives c.args.self.now c.from_residual-in_err-y-2.result c.from_residual-in_err-y-2.ensures (sym c.self.view_is ∙ no_step c.self.inside.axis p c.self.inside.at c.self.inside.until c.in_err-y-2.ensures)

pub returns-in_ok-y-clause-steps : goal.returns-in_ok-y-clause-steps
returns-in_ok-y-clause-steps c =
    let p = on_axis c.self.inside.axis c.self.inside.doc.now c.self.inside.from in
    sym c.self.view_is ∙ reverse_step c.self.inside.axis p c.self.inside.at c.self.inside.until c.in_ok-y.y c.until_before-self-inside.result (sym c.is_reverse.ensures ∙ c.if-is_reverse.true) c.in_ok-y.ensures c.until_before-self-inside.ensures.before c.until_before-self-inside.ensures.none

pub returns-in_ok-y-2-clause-steps : goal.returns-in_ok-y-2-clause-steps
returns-in_ok-y-2-clause-steps c =
    let p = on_axis c.self.inside.axis c.self.inside.doc.now c.self.inside.from in
    sym c.self.view_is ∙ forward_step c.self.inside.axis p c.self.inside.at c.self.inside.until c.in_ok-y-2.y c.at_behind-self-inside.result (sym c.is_reverse.ensures ∙ c.if-is_reverse.false) c.in_ok-y-2.ensures c.at_behind-self-inside.ensures.behind c.at_behind-self-inside.ensures.none

pub returns-in_ok-y-clause-goes : goal.returns-in_ok-y-clause-goes
returns-in_ok-y-clause-goes c = first_gives c.args.self.now _ c.in_ok-y.y (returns-in_ok-y-clause-steps c)

pub returns-in_ok-y-2-clause-goes : goal.returns-in_ok-y-2-clause-goes
returns-in_ok-y-2-clause-goes c = first_gives c.args.self.now _ c.in_ok-y-2.y (returns-in_ok-y-2-clause-steps c)
