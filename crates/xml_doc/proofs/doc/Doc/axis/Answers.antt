use Rattle.std.proofs.Common.{length, arith}
use Rattle.xml_doc.specs.Axes.{on_axis}
use Rattle.xml_doc.proofs.AxisLemmas.{whole_axis, few_on_axis}
use Rattle.xml_doc.proofs.doc.Doc.axis.Goals as goal

pub returns-clause-rows : goal.returns-clause-rows
returns-clause-rows c = let e = c.axis_bounds-at.ensures in whole_axis c.args.axis (on_axis c.args.axis c.args.self.now c.args.i) c.axis_bounds-at.result.0 c.axis_bounds-at.result.1 (length c.args.self.now) e.before e.behind e.within

pub returns-clause-few : goal.returns-clause-few
returns-clause-few c =
    let e = c.axis_bounds-at.ensures in
    let p = on_axis c.args.axis c.args.self.now c.args.i in
    let h = few_on_axis c.args.axis p c.axis_bounds-at.result.0 c.axis_bounds-at.result.1 in
    let w = e.within in
    let n = c.rows-count.ensures.count in
    omega arith
