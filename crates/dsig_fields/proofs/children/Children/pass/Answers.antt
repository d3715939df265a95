use Rattle.std.proofs.Common.{sym, ◌∙◌}
use Rattle.dsig_fields.proofs.NextLaws.{passed_element, passed_over, passed_refused, passed_no_row, passed_none}
use Rattle.dsig_fields.proofs.children.Children.pass.Goals as goal

pub returns-in-Some-row-clause-left : goal.returns-in-Some-row-clause-left
returns-in-Some-row-clause-left c =
    sym c.loop-y.invariant ∙ passed_element c.args.doc.now c.loop-y.self c.in-Some.y _ (sym c.first.ensures ∙ c.in-Some.is) (rw c.in-Some-row.is at c.row.ensures) (sym c.if-is_element.ensures)

pub loop-y-preserved : goal.loop-y-preserved
loop-y-preserved c =
    rw c.advance.ensures (passed_over c.args.doc.now c.loop-y.self c.in-Some.y _ (sym c.first.ensures ∙ c.in-Some.is) (rw c.in-Some-row.is at c.row.ensures) (sym c.if-is_element.ensures) (sym c.if-passes_over.ensures) ∙ c.loop-y.invariant)

pub returns-in_default-row-clause-left : goal.returns-in_default-row-clause-left
returns-in_default-row-clause-left c =
    sym c.loop-y.invariant ∙ passed_refused c.args.doc.now c.loop-y.self c.in-Some.y _ (sym c.first.ensures ∙ c.in-Some.is) (rw c.in-Some-row.is at c.row.ensures) (sym c.if-is_element.ensures) (sym c.if-passes_over.ensures)

pub returns-in_default-row-2-clause-left : goal.returns-in_default-row-2-clause-left
returns-in_default-row-2-clause-left c =
    sym c.loop-y.invariant ∙ passed_no_row c.args.doc.now c.loop-y.self c.in-Some.y (sym c.first.ensures ∙ c.in-Some.is) (rw c.in_default-row.is at c.row.ensures)

pub returns-clause-left : goal.returns-clause-left
returns-clause-left c =
    sym c.loop-y.invariant ∙ passed_none c.args.doc.now c.loop-y.self (sym c.first.ensures ∙ c.in_default.is)
