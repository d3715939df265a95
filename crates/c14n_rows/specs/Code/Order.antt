-- The attributes of an element, which stand in order.
use Rattle.std.specs.Prelude.{◌≡◌, ℕ, ◌<◌, ◌≤◌, Bool, ◌&&◌, not, true, false, List, Option}
use Rattle.std.specs.List.{list_any}
use Rattle.xml_doc.specs.Rows.{RowOf}
use Rattle.xml_doc.specs.Shape.{row_at}
use Rattle.c14n_text.specs.Namespaces.{Rule}
use Rattle.c14n_text.specs.Attributes.{is_inheritable, same_name, xml_attributes}
use Rattle.c14n_text.specs.Code.Choice.{is_behind}

-- of the rows from `from` to before `until` those from `place` on go behind the last one, and no others
pub record IsBehindFrom (rows : List RowOf) (last : Option ℕ) (from until place : ℕ) : Type 0 where
  pub low : from ≤ place
  pub high : place ≤ until
  pub before : (k : ℕ) → from ≤ k → k < place → is_behind rows last k ≡ false
  pub behind : (k : ℕ) → place ≤ k → k < until → is_behind rows last k ≡ true

-- the `xml:` attribute a of an element above x is imported to x if it is the nearest of its name
abbrev pub may_import : List RowOf → Rule → ℕ → ℕ → Bool
may_import rows rule x a = is_inheritable rule (row_at rows a).local_name && not (list_any (same_name rows a) (xml_attributes rows x))
