-- The document element.
use Rattle.std.specs.Prelude.{ℕ, ◌-◌, Bool, ◌&&◌, ◌==◌, List, length, Option}
use Rattle.std.specs.List.{find, range_with_len}
use Rattle.xml_doc.specs.Kinds.{is_element}
use Rattle.xml_doc.specs.Rows.{RowOf}
use Rattle.xml_doc.specs.Shape.{row_at}

-- row y is an element whose parent is the root: XPath 1.0, section 5.1
abbrev pub is_top_element : List RowOf → ℕ → Bool
is_top_element rows y = is_element (row_at rows y).kind && ((row_at rows y).parent == 0)

-- the document element, if the rows have one: XML 1.0, section 2.1
abbrev pub document_element : List RowOf → Option ℕ
document_element rows = find (is_top_element rows) (range_with_len 1 (length rows - 1))
