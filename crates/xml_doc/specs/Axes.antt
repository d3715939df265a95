-- The axes: XPath 1.0, section 2.2. `on_axis a rows x y` tells whether row y stands on axis a of row x. A row's
-- descendants are those behind it up to its `last` that are no attribute and no namespace node (XPath 1.0, section 5:
-- these have a parent, and are no children of it). So such a node is on no axis but `self`, `descendant-or-self` and
-- `ancestor-or-self` from itself, and `attribute` or `namespace` from its element.
use Rattle.std.specs.Prelude.{ℕ, Bool, true, false, not, cond, ◌&&◌, ◌||◌, ◌==◌, nat_lt, nat_le, List, length, reverse}
use Rattle.std.specs.List.{filter, range_with_len}
use Rattle.xml_doc.specs.Fields.{is_attribute_of, is_namespace_of}
use Rattle.xml_doc.specs.Kinds.{is_field}
use Rattle.xml_doc.specs.Rows.{RowOf}
use Rattle.xml_doc.specs.Shape.{row_at}
use Rattle.xml_doc.specs.declared.axis.Axis.{Axis}
use Rattle.xml_doc.specs.declared.axis.Axis.TheVariants.{Child, Descendant, Parent, Ancestor, FollowingSibling, PrecedingSibling, Following, Preceding, Attribute, Namespace, SelfNode, DescendantOrSelf, AncestorOrSelf}

-- row y is an attribute or a namespace node
abbrev pub is_field_at : List RowOf → ℕ → Bool
is_field_at rows y = is_field (row_at rows y).kind

-- y is a child of x. The root, row 0, is its own parent, and nobody's child
abbrev pub is_child : List RowOf → ℕ → ℕ → Bool
is_child rows x y = nat_lt 0 y && ((row_at rows y).parent == x) && not (is_field_at rows y)

-- y is an ancestor of x: its parent, or the parent's parent and so on, as a law of AxisLaws.antt says. Those of an
-- attribute or a namespace node begin with its element
abbrev pub is_ancestor : List RowOf → ℕ → ℕ → Bool
is_ancestor rows x y = nat_lt y x && nat_le x (row_at rows y).last

-- y is a descendant of x: a child, or a child of a child and so on
abbrev pub is_descendant : List RowOf → ℕ → ℕ → Bool
is_descendant rows x y = is_ancestor rows y x && not (is_field_at rows y)

-- x and y are children of one parent. An attribute or a namespace node has no siblings, and neither has the root
abbrev pub are_siblings : List RowOf → ℕ → ℕ → Bool
are_siblings rows x y = is_child rows (row_at rows x).parent x && is_child rows (row_at rows x).parent y

abbrev pub on_axis : Axis → List RowOf → ℕ → ℕ → Bool
-- the children
on_axis Child rows x y = is_child rows x y
-- the descendants, and so no attribute and no namespace node
on_axis Descendant rows x y = is_descendant rows x y
-- the parent, if there is one; of an attribute or a namespace node its element
on_axis Parent rows x y = nat_lt 0 x && ((row_at rows x).parent == y)
-- the ancestors, and so always the root, unless from the root
on_axis Ancestor rows x y = is_ancestor rows x y
-- the siblings behind; from an attribute or a namespace node none
on_axis FollowingSibling rows x y = nat_lt x y && are_siblings rows x y
-- the siblings before; from an attribute or a namespace node none
on_axis PrecedingSibling rows x y = nat_lt y x && are_siblings rows x y
-- what stands behind in document order: no descendant, no attribute and no namespace node
on_axis Following rows x y = nat_lt (row_at rows x).last y && not (is_field_at rows y)
-- what stands before in document order: no ancestor, no attribute and no namespace node
on_axis Preceding rows x y = nat_lt (row_at rows y).last x && not (is_field_at rows y)
-- the attributes; none unless from an element
on_axis Attribute rows x y = is_attribute_of rows x y
-- the namespace nodes; none unless from an element
on_axis Namespace rows x y = is_namespace_of rows x y
-- the node itself
on_axis SelfNode rows x y = x == y
-- the node and its descendants
on_axis DescendantOrSelf rows x y = (x == y) || is_descendant rows x y
-- the node and its ancestors
on_axis AncestorOrSelf rows x y = (x == y) || is_ancestor rows x y

-- a reverse axis, of which the nodes before the context node come in reverse document order: XPath 1.0, section 2.4
abbrev pub is_reverse : Axis → Bool
is_reverse Child = false
is_reverse Descendant = false
is_reverse Parent = false
is_reverse Ancestor = true
is_reverse FollowingSibling = false
is_reverse PrecedingSibling = true
is_reverse Following = false
is_reverse Preceding = true
is_reverse Attribute = false
is_reverse Namespace = false
is_reverse SelfNode = false
is_reverse DescendantOrSelf = false
is_reverse AncestorOrSelf = true

-- rows that stand in document order, in the order of the axis: XPath 1.0, section 2.4
abbrev pub in_axis_order : Axis → List ℕ → List ℕ
in_axis_order a ys = cond (is_reverse a) (reverse ys) ys

-- the rows on axis a of row x, in the order of the axis
abbrev pub axis_rows : Axis → List RowOf → ℕ → List ℕ
axis_rows a rows x = in_axis_order a (filter (on_axis a rows x) (range_with_len 0 (length rows)))
