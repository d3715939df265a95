-- Simple content: the joined text children of an element. Comments are passed over; another child is refused.
use Rattle.std.specs.Prelude.{ℕ, List, [], ◌∷◌, ◌++◌, Result, Ok, Err}
use Rattle.dsig_base64.specs.Loose.{octets_in}
use Rattle.xml_doc.specs.Rows.{RowOf}
use Rattle.xml_doc.specs.Shape.{row_at}
use Rattle.xml_doc.specs.declared.row.Kind.{Kind}
use Rattle.xml_doc.specs.declared.row.Kind.TheVariants.{Text, Comment}
use Rattle.dsig_fields.specs.Reading.{◌>>=◌, children, or_refusal}
use Rattle.dsig_fields.specs.declared.refusal.FieldRefusal.{FieldRefusal}
use Rattle.dsig_fields.specs.declared.refusal.FieldRefusal.TheVariants.{BadBase64, Extra}

-- what child y adds: a text its value, a comment nothing
abbrev pub added_by : ℕ → Kind → List ℕ → Result (List ℕ) FieldRefusal
added_by y Text value = Ok value
added_by y Comment value = Ok []
added_by y other value = Err (Extra y)

unfoldable pub joined : List RowOf → List ℕ → Result (List ℕ) FieldRefusal
joined rows [] = Ok []
joined rows (y ∷ rest) = do
  first ← added_by y (row_at rows y).kind (row_at rows y).value
  others ← joined rows rest
  Ok (first ++ others)

abbrev pub simple_text : List RowOf → ℕ → Result (List ℕ) FieldRefusal
simple_text rows x = joined rows (children rows x)

-- the octets that simple content spells in base64: XML Signature 1.1, sections 4.3 and 4.4.3.6
unfoldable pub simple_octets : List RowOf → ℕ → Result (List ℕ) FieldRefusal
simple_octets rows x = do
  text ← simple_text rows x
  or_refusal (BadBase64 x) (octets_in text)
