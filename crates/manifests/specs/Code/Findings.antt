use Rattle.std.specs.Prelude.{◌≡◌, ◌<◌, ◌≤◌, ◌+◌, ℕ, List, [], ◌∷◌, ◌++◌, length, Option, Result, Ok, Err, if◌then◌else◌}
use Rattle.std.specs.List.{All}
use Rattle.std.specs.Option.{ForSome}
use Rattle.xml_doc.specs.Rows.{RowOf}
use Rattle.uri_refs.specs.declared.target.Place.{Place}
use Rattle.dsig_fields.specs.Fits.{ReferenceFits}
use Rattle.dsig_fields.specs.Reading as reading
use Rattle.dsig_fields.specs.declared.fields.Reference.{Reference}
use Rattle.dsig_fields.specs.declared.refusal.FieldRefusal.{FieldRefusal}
use Rattle.manifests.specs.Answers.{IsOwnKind}
use Rattle.manifests.specs.Findings.{entries_in, finding, found_of_reference, found_of_read}
use Rattle.manifests.specs.declared.findings.Finding.{Finding}
use Rattle.manifests.specs.declared.findings.Found.{Found}
use Rattle.manifests.specs.declared.findings.Found.TheVariants.{OneLine, Entries}
use Rattle.manifests.specs.declared.findings.Search.{Search}

-- the entries that are to be checked fit the document
pub record EntriesFit (rows : List RowOf) (signature : Option ℕ) (entries : List Reference) : Type 0 where
  pub within : ForSome signature (λ g. g < length rows)
  pub few : length entries ≤ 256
  pub fit : All (ReferenceFits rows) entries

abbrev pub FoundFits : List RowOf → Found → Type 0
FoundFits rows (OneLine kind) = IsOwnKind kind
FoundFits rows (Entries signature entries) = EntriesFit rows signature entries

abbrev pub FindingFits : List RowOf → Finding → Type 0
FindingFits rows f = FoundFits rows f.found

-- what a refusal of a Manifest's fields comes to
pub record Unread (found : Found) (cause : FieldRefusal) : Type 0 where
  pub is : (rows : List RowOf) (x count : ℕ) (outcome : Result (List Reference) FieldRefusal)
      → reading.Refuses cause outcome → found ≡ found_of_read rows x count outcome
  pub fits : (rows : List RowOf) → FoundFits rows found
  pub none : entries_in found ≡ []

abbrev pub Unreads : {E : Type 0} → Result Found E → FieldRefusal → Type 0
Unreads (Ok found) cause = Unread found cause
Unreads (Err e) cause = Unit {0}

-- with what one more Reference to a Manifest comes to
abbrev pub with_found : (number : ℕ) → Found → Search → Search
with_found number found s = record {
  findings = s.findings ++ finding number found ∷ [];
  count = s.count + length (entries_in found);
}

-- with one more Reference, of this number
abbrev pub with_reference : List RowOf → Place → (number : ℕ) → Reference → Search → Search
with_reference rows place number reference s =
    if reference.manifest then with_found number (found_of_reference rows place s.count reference) s else s
