-- The Signature elements of a document: XML Signature 1.1, section 4.1.
use Rattle.std.specs.Prelude.{ℕ, ◌-◌, ◌==◌, List, length, Option, None, slice_get, if◌then◌else◌}
use Rattle.std.specs.List.{filter, range_with_len}
use Rattle.xml_doc.specs.Rows.{RowOf}
use Rattle.dsig_fields.specs.Reading.{is_named}
use Rattle.dsig_fields.specs.declared.names.ElementName.TheVariants.{Signature}

-- in document order
abbrev pub signatures : List RowOf → List ℕ
signatures rows = filter (is_named rows Signature) (range_with_len 0 (length rows))

-- the n-th of them, counted from 1
abbrev pub nth_signature : List RowOf → ℕ → Option ℕ
nth_signature rows n = if n == 0 then None else slice_get (signatures rows) (n - 1)
