-- What References to Manifests come to before the entries are looked at: XML Signature 1.1, section 5.1.
use Rattle.std.specs.Prelude.{ℕ, ◌+◌, nat_le, Bool, true, false, List, [], ◌∷◌, length, Option, Some, None, Result, Ok, Err, if◌then◌else◌}
use Rattle.std.specs.List.{list_all}
use Rattle.xml_doc.specs.Rows.{RowOf}
use Rattle.uri_refs.specs.declared.target.Place.{Place}
use Rattle.dsig_fields.specs.declared.fields.Reference.{Reference}
use Rattle.dsig_fields.specs.declared.fields.Step.{Step}
use Rattle.dsig_fields.specs.declared.fields.Step.TheVariants as step
use Rattle.dsig_fields.specs.declared.refusal.FieldRefusal.{FieldRefusal}
use Rattle.transforms.specs.Views.{target_in}
use Rattle.manifests.specs.Elements.{manifest_row, signature_above}
use Rattle.dsig_fields.specs.Manifests.{manifest_of}
use Rattle.manifests.specs.declared.findings.Finding.{Finding}
use Rattle.manifests.specs.declared.findings.Found.{Found}
use Rattle.manifests.specs.declared.findings.Found.TheVariants.{OneLine, Entries}
use Rattle.manifests.specs.declared.lines.ManifestKind.TheVariants.{ManifestTransforms, NotManifest, Fields, TooMany}

-- the entries that may be checked in a run: this project's limit
abbrev pub entry_limit : ℕ
entry_limit = 1024

abbrev pub is_canonicalization : Step → Bool
is_canonicalization (step.Canon method prefixes) = true
is_canonicalization step.Base64 = false
is_canonicalization (step.XPath row text) = false
is_canonicalization (step.Filters filters) = false
is_canonicalization step.Enveloped = false

-- the entries of the Manifest of row x, behind `count` others, or one line where these would be too many
abbrev pub found_of_entries : List RowOf → (x count : ℕ) → List Reference → Found
found_of_entries rows x count entries =
    if nat_le (count + length entries) entry_limit then Entries (signature_above rows x) entries else OneLine TooMany

abbrev pub found_of_read : List RowOf → (x count : ℕ) → Result (List Reference) FieldRefusal → Found
found_of_read rows x count (Ok entries) = found_of_entries rows x count entries
found_of_read rows x count (Err cause) = OneLine (Fields cause)

-- what the Manifest of row x comes to
abbrev pub found_of_manifest : List RowOf → (x count : ℕ) → Found
found_of_manifest rows x count = found_of_read rows x count (manifest_of rows x)

abbrev pub found_of_target : List RowOf → (count : ℕ) → Option ℕ → Found
found_of_target rows count None = OneLine NotManifest
found_of_target rows count (Some x) = found_of_manifest rows x count

-- what a Reference to a Manifest comes to, behind `count` entries of others. What is signed is the Manifest only where the
-- Reference canonicalizes it and does nothing else with it
unfoldable pub found_of_reference : List RowOf → Place → (count : ℕ) → Reference → Found
found_of_reference rows place count reference =
    if list_all is_canonicalization reference.steps then found_of_target rows count (manifest_row rows (target_in place reference))
    else OneLine ManifestTransforms

-- the entries that are to be checked
abbrev pub entries_in : Found → List Reference
entries_in (OneLine kind) = []
entries_in (Entries signature entries) = entries

abbrev pub finding : (number : ℕ) → Found → Finding
finding number found = record { reference = number; found = found }

-- what the References come to that say by their Type that they refer to a Manifest; the first one here has this number, and
-- `count` entries stand before
unfoldable pub findings : List RowOf → Place → (number count : ℕ) → List Reference → List Finding
findings rows place number count [] = []
findings rows place number count (reference ∷ more) =
    if reference.manifest
    then finding number (found_of_reference rows place count reference)
    ∷ findings rows place (number + 1) (count + length (entries_in (found_of_reference rows place count reference))) more
    else findings rows place (number + 1) count more
