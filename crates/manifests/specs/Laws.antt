-- What each line tells, by itself: XML Signature 1.1, section 5.1.
use Rattle.std.specs.Prelude.{◌≡◌, ◌⊎◌, ◌+◌, ◌<◌, ◌≤◌, ℕ, nat_lt, Bool, true, false, List, length, Some, None, Result, Ok, Err, slice_get}
use Rattle.std.specs.List.{All, Contains, filter, list_all}
use Rattle.sig_outside.specs.Told.{Held}
use Rattle.xml_doc.specs.Rows.{RowOf}
use Rattle.uri_refs.specs.declared.target.Place.{Place}
use Rattle.dsig_fields.specs.Holds.{digest_holds}
use Rattle.dsig_fields.specs.declared.fields.Fields.{Fields}
use Rattle.dsig_fields.specs.declared.fields.Reference.{Reference}
use Rattle.transforms.specs.Values.{origin_of}
use Rattle.transforms.specs.Views.{target_in, view_of}
use Rattle.transforms.specs.declared.refusal.RefRefusal.{RefRefusal}
use Rattle.manifests.specs.Elements.{manifest_row, signature_above}
use Rattle.dsig_fields.specs.Manifests.{manifest_of}
use Rattle.manifests.specs.Findings.{entry_limit, is_canonicalization}
use Rattle.manifests.specs.Manifests.{line, manifest_lines}
use Rattle.manifests.specs.declared.lines.ManifestKind.{ManifestKind}
use Rattle.manifests.specs.declared.lines.ManifestKind.TheVariants.{Same, Differs, Refused, ManifestTransforms, NotManifest, Fields as BadFields, TooMany}
use Rattle.manifests.specs.declared.lines.ManifestLine.{ManifestLine}

-- the member has this number, where that of the first one is `first`
pub record HasNumber {X : Type 0} (members : List X) (first number : ℕ) (member : X) : Type 0 where
  pub at : ℕ
  pub is : number ≡ first + at
  pub stands : slice_get members at ≡ Some member

-- the Reference covers the Manifest element of row x: it leads to that one of this document, and does nothing but canonicalize it
pub record Covers (rows : List RowOf) (place : Place) (reference : Reference) (x : ℕ) : Type 0 where
  pub canonicalizes : list_all is_canonicalization reference.steps ≡ true
  pub leads : manifest_row rows (target_in place reference) ≡ Some x

-- the lines that are of entries
abbrev pub is_of_entry : ManifestLine → Bool
is_of_entry l = nat_lt 0 l.entry

abbrev pub entry_count : List ManifestLine → ℕ
entry_count lines = length (filter is_of_entry lines)

-- ---- a line of a Manifest, where so many lines are of entries
abbrev pub ManifestTells : List RowOf → Place → (count : ℕ) → Reference → ManifestKind → Type 0
ManifestTells rows place count reference ManifestTransforms = list_all is_canonicalization reference.steps ≡ false
ManifestTells rows place count reference NotManifest =
    (list_all is_canonicalization reference.steps ≡ true) × (manifest_row rows (target_in place reference) ≡ None)
ManifestTells rows place count reference (BadFields cause) = (x : ℕ) × Covers rows place reference x × (manifest_of rows x ≡ Err cause)
ManifestTells rows place count reference TooMany =
    (x : ℕ) × Covers rows place reference x × (entries : List Reference) × (manifest_of rows x ≡ Ok entries)
    × (entry_limit < count + length entries)
ManifestTells rows place count reference Same = ⊥
ManifestTells rows place count reference Differs = ⊥
ManifestTells rows place count reference (Refused cause) = ⊥

-- ---- a line of an entry
-- whether the digest of the view is the DigestValue (section 3.2.1), or why there is no view
abbrev pub EntryTells : Reference → Result (List ℕ) RefRefusal → ManifestKind → Type 0
EntryTells entry outcome Same = (view : List ℕ) × (outcome ≡ Ok view) × (digest_holds entry.digest view entry.expected ≡ true)
EntryTells entry outcome Differs = (view : List ℕ) × (outcome ≡ Ok view) × (digest_holds entry.digest view entry.expected ≡ false)
EntryTells entry outcome (Refused cause) = outcome ≡ Err cause
EntryTells entry outcome ManifestTransforms = ⊥
EntryTells entry outcome NotManifest = ⊥
EntryTells entry outcome (BadFields cause) = ⊥
EntryTells entry outcome TooMany = ⊥

pub record IsOfEntry (rows : List RowOf) (place : Place) (files : Held) (reference : Reference) (number : ℕ) (kind : ManifestKind) : Type 0 where
  pub manifest : ℕ
  pub covers : Covers rows place reference manifest
  pub entries : List Reference
  pub read : manifest_of rows manifest ≡ Ok entries
  pub entry : Reference
  pub numbered : HasNumber entries 1 number entry
  pub tells : EntryTells entry (view_of (origin_of rows (signature_above rows manifest)) place files entry) kind

-- ---- a line
pub record LineTells (rows : List RowOf) (fields : Fields) (place : Place) (files : Held) (line : ManifestLine) : Type 0 where
  pub reference : Reference
  pub numbered : HasNumber fields.references 1 line.reference reference
  pub typed : reference.manifest ≡ true
  pub tells : ((line.entry ≡ 0) × ManifestTells rows place (entry_count (manifest_lines rows fields place files)) reference line.kind) ⊎ IsOfEntry rows place files reference line.entry line.kind

-- each line is true of the Reference, and of the entry of its Manifest, that its numbers tell
abbrev pub LinesTell : Type 0
LinesTell = (rows : List RowOf) (fields : Fields) (place : Place) (files : Held) → All (LineTells rows fields place files) (manifest_lines rows fields place files)

-- ---- no line is missing
abbrev pub HasLine : List ManifestLine → (reference number : ℕ) → Type 0
HasLine lines reference number = (kind : ManifestKind) × Contains lines (line reference number kind)

-- each entry of the Manifest that the Reference covers has a line
pub record HasEachLine (rows : List RowOf) (place : Place) (reference : Reference) (number : ℕ) (lines : List ManifestLine) : Type 0 where
  pub manifest : ℕ
  pub covers : Covers rows place reference manifest
  pub entries : List Reference
  pub read : manifest_of rows manifest ≡ Ok entries
  pub each : (k : ℕ) (entry : Reference) → HasNumber entries 1 k entry → HasLine lines number k

-- each Reference whose Type says that it refers to a Manifest has its one line, or a line for each entry
abbrev pub AllAnswered : Type 0
AllAnswered =
    (rows : List RowOf) (fields : Fields) (place : Place) (files : Held) (number : ℕ) (reference : Reference)
    → HasNumber fields.references 1 number reference → reference.manifest ≡ true
    → HasLine (manifest_lines rows fields place files) number 0
    ⊎ HasEachLine rows place reference number (manifest_lines rows fields place files)

-- ---- the limit
-- at most 1,024 lines are of entries
abbrev pub FewEntries : Type 0
FewEntries = (rows : List RowOf) (fields : Fields) (place : Place) (files : Held) → entry_count (manifest_lines rows fields place files) ≤ entry_limit
