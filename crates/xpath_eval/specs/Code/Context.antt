use Rattle.std.specs.Prelude.{ℕ, ◌<◌, List, length}
use Rattle.std.specs.List.{All}
use Rattle.xml_doc.specs.Rows.{RowOf}
use Rattle.xpath_eval.specs.declared.found.Found.{Found}
use Rattle.xpath_eval.specs.declared.found.Found.TheVariants.{Truth, Num, Words, Nodes}

-- all rows of a node set are rows of the document
abbrev pub AreRows : List RowOf → List ℕ → Type 0
AreRows rows ys = All (λ y. y < length rows) ys

abbrev pub IsOver : List RowOf → Found → Type 0
IsOver rows (Nodes ys) = AreRows rows ys
IsOver rows (Truth b) = Unit {0}
IsOver rows (Num n) = Unit {0}
IsOver rows (Words w) = Unit {0}
