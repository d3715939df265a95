use Rattle.std.proofs.Common.{◌<◌, ◌≤◌, length, refl, sym, ◌∙◌, arith}
use Rattle.xml_doc.specs.Top.{is_top_element}
use Rattle.xml_doc.proofs.Ranges.{find_more, find_here, find_end}
use Rattle.xml_doc.proofs.doc.Doc.document_element.Goals as goal

pub loop-y-init : goal.loop-y-init
loop-y-init c = refl

pub loop-y-preserved : goal.loop-y-preserved
loop-y-preserved c =
    let lt : c.loop-y.y < length c.args.self.now = omega arith in
    c.loop-y.invariant ∙ find_more (is_top_element c.args.self.now) c.loop-y.y (length c.args.self.now) lt c.if-is_top_element.ensures

pub returns-then-is_top_element-clause-element : goal.returns-then-is_top_element-clause-element
returns-then-is_top_element-clause-element c =
    let lt : c.loop-y.y < length c.args.self.now = omega arith in
    sym (c.loop-y.invariant ∙ find_here (is_top_element c.args.self.now) c.loop-y.y (length c.args.self.now) lt c.if-is_top_element.ensures)

pub returns-clause-element : goal.returns-clause-element
returns-clause-element c =
    let le : length c.args.self.now ≤ c.loop-y.y = omega arith in
    sym (c.loop-y.invariant ∙ find_end (is_top_element c.args.self.now) c.loop-y.y (length c.args.self.now) le)
