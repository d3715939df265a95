-- The namespace rows and the attribute rows of an element: XPath 1.0, sections 5.3 and 5.4.
use Rattle.std.specs.Prelude.{◌≡◌, ℕ, ◌<◌, ◌≤◌, ◌-◌, ◌+◌, Bool, true, false, ◌&&◌, ◌==◌, List, length}
use Rattle.std.specs.List.{filter, range_with_len}
use Rattle.xml_doc.specs.Kinds.{is_namespace, is_attribute}
use Rattle.xml_doc.specs.Rows.{RowOf}
use Rattle.xml_doc.specs.Shape.{row_at}

-- row y is a namespace row of element e: XPath 1.0, section 5.4
abbrev pub is_namespace_of : List RowOf → ℕ → ℕ → Bool
is_namespace_of rows e y = is_namespace (row_at rows y).kind && ((row_at rows y).parent == e)

-- row y is an attribute row of element e: XPath 1.0, section 5.3
abbrev pub is_attribute_of : List RowOf → ℕ → ℕ → Bool
is_attribute_of rows e y = is_attribute (row_at rows y).kind && ((row_at rows y).parent == e)

-- the namespace rows of element e, in document order
abbrev pub namespace_rows : List RowOf → ℕ → List ℕ
namespace_rows rows e = filter (is_namespace_of rows e) (range_with_len 1 (length rows - 1))

-- the attribute rows of element e, in document order
abbrev pub attribute_rows : List RowOf → ℕ → List ℕ
attribute_rows rows e = filter (is_attribute_of rows e) (range_with_len 1 (length rows - 1))

-- `end` is the first row from `from` on that does not pass, or the number of rows
pub record RunEnds (rows : List RowOf) (passes : ℕ → Bool) (from end : ℕ) : Type 0 where
  pub reached : from ≤ end
  pub within : end ≤ length rows
  pub run : (k : ℕ) → k < end → from ≤ k → passes k ≡ true
  pub stop : end < length rows → passes end ≡ false

-- the namespace rows of element e stand right behind it, and its attribute rows right behind these: they are the ranges
-- of numbers that end before `first_attribute` and before `first_child`
pub record OwnRowsStand (rows : List RowOf) (e first_attribute first_child : ℕ) : Type 0 where
  pub behind : e < first_attribute
  pub ordered : first_attribute ≤ first_child
  pub within : first_child ≤ length rows
  pub namespaces : namespace_rows rows e ≡ range_with_len (e + 1) (first_attribute - (e + 1))
  pub attributes : attribute_rows rows e ≡ range_with_len first_attribute (first_child - first_attribute)
