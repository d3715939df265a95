use Rattle.std.specs.Prelude.{ℕ, List}
use Rattle.xml_doc.specs.Rows.{RowOf}
use Rattle.xml_doc.specs.Shape.{row_at}

abbrev pub last_of : List RowOf → ℕ → ℕ
last_of rows i = (row_at rows i).last
