use Rattle.std.proofs.Common.{◌≡◌, ◌<◌, ◌++◌, length, take}
use Rattle.std.specs.List.{All, filter}
use Rattle.xml_doc.specs.Axes.{axis_rows}
use Rattle.xml_doc.specs.Shape.{row_at}
use Rattle.xpath_eval.specs.NodeTests.{passes}
use Rattle.xpath_eval.proofs.node_test.tested.Given as goal

abbrev pub invariant-loop-left : goal.invariant-loop-left
invariant-loop-left l = record {
  within : All (λ y. y < length l.doc) l.walk;
  value : l.ys ++ take l.left (filter (λ y. passes l.axis l.test (row_at l.doc y)) l.walk) ≡ take l.most (filter (λ y. passes l.axis l.test (row_at l.doc y)) (axis_rows l.axis l.doc l.x));
}

abbrev pub decreases-loop-left : goal.decreases-loop-left
decreases-loop-left l = length l.walk
