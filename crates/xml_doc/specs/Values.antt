-- String values: XPath 1.0, sections 5.1 to 5.7.
use Rattle.std.specs.Prelude.{ℕ, ◌+◌, cond, List, [], slice_range}
use Rattle.std.specs.List.{flat_map}
use Rattle.xml_doc.specs.Kinds.{is_text, is_inner}
use Rattle.xml_doc.specs.Rows.{RowOf}
use Rattle.xml_doc.specs.Shape.{row_at}

-- the characters of a text, and nothing of another node
abbrev pub text_of : RowOf → List ℕ
text_of r = cond (is_text r.kind) r.value []

-- the rows from i to the last of its subtree: XPath 1.0, section 5
abbrev pub subtree : List RowOf → ℕ → List RowOf
subtree rows i = slice_range rows i ((row_at rows i).last + 1)

-- of the root or an element the texts below it, joined in document order: XPath 1.0, sections 5.1 and 5.2. Of another
-- node its value: sections 5.3 to 5.7
abbrev pub string_value : List RowOf → ℕ → List ℕ
string_value rows i = cond (is_inner (row_at rows i).kind) (flat_map text_of (subtree rows i)) (row_at rows i).value
