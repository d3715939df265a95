use Rattle.std.proofs.Common.{◌≡◌, ◌≤◌, ◌++◌, length, map, drop}
use Rattle.xml_resolve.specs.Code.Keys.{attribute_of}
use Rattle.xml_resolve.specs.Rows.{attribute_rows}
use Rattle.xml_resolve.specs.Limits.{row_limit}
use Rattle.xml_resolve.proofs.rows.push_rising.Given as goal

abbrev pub invariant-loop-attribute : goal.invariant-loop-attribute
invariant-loop-attribute l =
    (length l.rows ≤ row_limit) ×
    (l.rows ++ attribute_rows l.parent (length l.rows) (map attribute_of (drop l.attribute-index l.attributes)) ≡ l.initial.rows ++ attribute_rows l.parent (length l.initial.rows) (map attribute_of l.attributes))
