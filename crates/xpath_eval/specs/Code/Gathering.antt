use Rattle.std.specs.Prelude.{◌≡◌, ℕ, Bool, List}
use Rattle.node_sets.specs.Members.{SetOf, has}
use Rattle.xml_doc.specs.Rows.{RowOf}
use Rattle.xpath_eval.specs.declared.gathering.Gathering.{Gathering}
use Rattle.xpath_eval.specs.declared.gathering.Gathering.TheVariants.{Listed, Marked}
use Rattle.xpath_eval.specs.Context.{is_in}
use Rattle.xpath_eval.specs.Order.{Ascends}
use Rattle.xpath_eval.specs.Code.Context.{AreRows}

-- what is gathered has the row
abbrev pub holds_row : Gathering → ℕ → Bool
holds_row (Listed ys end) k = is_in ys k
holds_row (Marked s) k = has s.members k

-- what is gathered are rows of the document
abbrev pub Gathers : List RowOf → Gathering → Type 0
Gathers rows (Listed ys end) = Ascends 0 end ys × AreRows rows ys
Gathers rows (Marked s) = s.rows ≡ rows
