use Rattle.std.proofs.Common.{arith, ◌+◌, ◌≤◌}
use Rattle.xml_doc.specs.Shape.{row_at}
use Rattle.xml_doc.proofs.AxisLemmas.{none_above}
use Rattle.xml_doc.proofs.doc.Doc.until_before.Goals as goal

pub returns-in-Some-clause-none : goal.returns-in-Some-clause-none
returns-in-Some-clause-none c = λ z h l.
    let e = c.in-Some.ensures.value.2 in
    let k : (row_at c.args.self.now c.args.y).parent + 1 ≤ z = omega arith in
    none_above c.args.self.now c.rows-count.ensures.shaped c.args.axis c.args.x c.args.y z c.in-Ancestor.is c.requires.on c.requires.y k l
