-- The lines of Manifests beside a report, and the names that are asked for them (XML Signature 1.1, section 5.1): where the words ask for
-- them and the report is valid, those of the signature that was validated, whose fields are read once more.
use Rattle.std.specs.Prelude.{ℕ, Bool, false, List, [], Option, Some, None, Result, Ok, Err, if◌then◌else◌}
use Rattle.sig_outside.specs.Told.{Held}
use Rattle.xml_doc.specs.Rows.{RowOf}
use Rattle.uri_refs.specs.declared.target.Place.{Place}
use Rattle.dsig_fields.specs.Fields.{fields_of}
use Rattle.dsig_fields.specs.Keys.{QuestionOf}
use Rattle.dsig_fields.specs.Signatures.{nth_signature}
use Rattle.dsig_fields.specs.declared.fields.Fields.{Fields}
use Rattle.dsig_fields.specs.declared.refusal.FieldRefusal.{FieldRefusal}
use Rattle.transforms.specs.declared.outcome.Report.{Report}
use Rattle.transforms.specs.declared.outcome.Report.TheVariants.{SignatureDiffers, ShortTruncation, Valid, DigestsDiffer}
use Rattle.manifests.specs.Manifests.{manifest_lines, names_asked}
use Rattle.manifests.specs.declared.lines.ManifestLine.{ManifestLine}

-- the fields of the signature of that number, which a signature with a report has
abbrev pub those_read : Result Fields FieldRefusal → Option Fields
those_read (Ok fields) = Some fields
those_read (Err cause) = None

abbrev pub fields_in : List RowOf → Option ℕ → Option Fields
fields_in rows None = None
fields_in rows (Some x) = those_read (fields_of rows x)

abbrev pub fields_at : List RowOf → (index : ℕ) → Option Fields
fields_at rows index = fields_in rows (nth_signature rows index)

-- their lines, and the names that are asked for these
abbrev pub lines_by : List RowOf → Place → Held → Option Fields → List ManifestLine
lines_by rows place files None = []
lines_by rows place files (Some fields) = manifest_lines rows fields place files

abbrev pub names_by : List RowOf → Place → Option Fields → List (List ℕ)
names_by rows place None = []
names_by rows place (Some fields) = names_asked rows fields place

abbrev pub lines_of : List RowOf → QuestionOf → Held → List ManifestLine
lines_of rows question files = lines_by rows question.place files (fields_at rows question.index)

abbrev pub names_of : List RowOf → QuestionOf → List (List ℕ)
names_of rows question = names_by rows question.place (fields_at rows question.index)

-- they are told where they are asked for and the report is valid
abbrev pub are_told : (manifests : Bool) → Report → Bool
are_told manifests (Valid views) = manifests
are_told manifests SignatureDiffers = false
are_told manifests (ShortTruncation bits) = false
are_told manifests (DigestsDiffer numbers) = false

abbrev pub lines_beside : (manifests : Bool) → List RowOf → QuestionOf → Held → Report → List ManifestLine
lines_beside manifests rows question files report = if are_told manifests report then lines_of rows question files else []

abbrev pub names_beside : (manifests : Bool) → List RowOf → QuestionOf → Report → List (List ℕ)
names_beside manifests rows question report = if are_told manifests report then names_of rows question else []
