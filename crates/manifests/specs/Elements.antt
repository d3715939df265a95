-- The elements to which References to Manifests lead, and those around them.
use Rattle.std.specs.Prelude.{ℕ, ◌&&◌, Bool, List, Option, Some, None, Result, Ok, Err, bytes_eq, codes, encode_utf8_all, if◌then◌else◌}
use Rattle.std.specs.List.{find}
use Rattle.xml_doc.specs.Axes.{axis_rows}
use Rattle.xml_doc.specs.Ids.{answer_of, bearers}
use Rattle.xml_doc.specs.Rows.{RowOf}
use Rattle.xml_doc.specs.Shape.{row_at}
use Rattle.xml_doc.specs.declared.axis.Axis.TheVariants.{Ancestor}
use Rattle.xml_doc.specs.declared.ids.IdAnswer.{IdAnswer}
use Rattle.xml_doc.specs.declared.ids.IdAnswer.TheVariants as bearer
use Rattle.uri_refs.specs.declared.target.Target.{Target}
use Rattle.uri_refs.specs.declared.target.Target.TheVariants as target
use Rattle.dsig_fields.specs.Names.{signature_namespace}
use Rattle.dsig_fields.specs.Reading.{is_element_at, is_named}
use Rattle.dsig_fields.specs.declared.names.ElementName.TheVariants.{Signature}
use Rattle.transforms.specs.declared.refusal.RefRefusal.{RefRefusal}

-- row y is an element of this local name in the namespace of signatures
abbrev pub is_of_signatures : List RowOf → List ℕ → ℕ → Bool
is_of_signatures rows name y =
    is_element_at rows y && bytes_eq (row_at rows y).uri signature_namespace && bytes_eq (row_at rows y).local_name name

abbrev pub is_manifest : List RowOf → ℕ → Bool
is_manifest rows x = is_of_signatures rows (codes "Manifest") x

-- the Manifest among the elements that bear an ID: the only one of them
abbrev pub manifest_in : List RowOf → IdAnswer → Option ℕ
manifest_in rows (bearer.One x) = if is_manifest rows x then Some x else None
manifest_in rows bearer.None = None
manifest_in rows (bearer.Several first second) = None

-- the Manifest to which a URI leads: an element of this document
abbrev pub manifest_row : List RowOf → Result Target RefRefusal → Option ℕ
manifest_row rows (Ok (target.Whole comments)) = None
manifest_row rows (Ok (target.Element id comments)) = manifest_in rows (answer_of (bearers rows (encode_utf8_all id)))
manifest_row rows (Ok (target.Named name)) = None
manifest_row rows (Err cause) = None

-- the nearest Signature in which a row stands, if it stands in one
abbrev pub signature_above : List RowOf → ℕ → Option ℕ
signature_above rows x = find (is_named rows Signature) (axis_rows Ancestor rows x)
