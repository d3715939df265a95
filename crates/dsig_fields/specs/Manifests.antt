-- The grammar of a Manifest: XML Signature 1.1, section 5.1.
use Rattle.std.specs.Prelude.{ℕ, List, Result, Ok}
use Rattle.xml_doc.specs.Rows.{RowOf}
use Rattle.dsig_fields.specs.Fields.{reference}
use Rattle.dsig_fields.specs.Reading.{◌>>=◌, children, one_or_more, at_end}
use Rattle.dsig_fields.specs.declared.fields.Reference.{Reference}
use Rattle.dsig_fields.specs.declared.names.ElementName.TheVariants as element
use Rattle.dsig_fields.specs.declared.refusal.FieldRefusal.{FieldRefusal}
use Rattle.dsig_fields.specs.declared.refusal.FieldRefusal.TheVariants.{TooManyReferences}

-- Manifest: one or more References
unfoldable pub manifest_of : List RowOf → ℕ → Result (List Reference) FieldRefusal
manifest_of rows x = do
  references ← one_or_more (λ y. TooManyReferences) rows element.Reference (reference rows) 256 (children rows x)
  nothing ← at_end rows references.1
  Ok references.0
