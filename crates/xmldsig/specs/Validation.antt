-- What the words of a validation come to over the files that a folder holds, and the names that it asks for: the document first, then the
-- key file, then the catalog, then the files of the References, then those of the entries of Manifests.
use Rattle.std.specs.Prelude.{ℕ, Bool, List, ◌∷◌, ◌++◌, option_map, encode_utf8_all, Result, Ok}
use Rattle.sig_base.specs.Outcomes.{and_then, with_cause}
use Rattle.sig_outside.specs.Told.{Held}
use Rattle.digests_hmac.specs.KeyEntries.{KeyEntry}
use Rattle.uri_refs.specs.CatalogEntries.{CatalogEntry}
use Rattle.xml_doc.specs.Rows.{RowOf}
use Rattle.xml_read.specs.ReadOutcome.{read_outcome}
use Rattle.dsig_fields.specs.Keys.{QuestionOf}
use Rattle.transforms.specs.Asked.{names_asked, or_nothing}
use Rattle.transforms.specs.Outcome.{outcome}
use Rattle.transforms.specs.declared.outcome.Report.{Report}
use Rattle.job_words.specs.declared.job.Asked.{Asked}
use Rattle.xmldsig.specs.Files as file
use Rattle.xmldsig.specs.Manifests.{lines_beside, names_beside}
use Rattle.xmldsig.specs.declared.ending.Refusal.{Refusal}
use Rattle.xmldsig.specs.declared.ending.Refusal.TheVariants as refusal
use Rattle.xmldsig.specs.declared.ending.Validated.{Validated}

-- what the words ask: the signature of that number, under that key, with the views kept where they are wanted
abbrev pub question_for : Asked → (keep : Bool) → List KeyEntry → List CatalogEntry → QuestionOf
question_for asked keep keys catalog = record {
  index = asked.index;
  key_name = option_map encode_utf8_all asked.key;
  keys = keys;
  place = record { base = asked.base; catalog = catalog };
  keep_views = keep;
}

-- core validation (XML Signature 1.1, section 3.2)
abbrev pub rows_report : List RowOf → QuestionOf → Held → Result Report Refusal
rows_report rows question files = with_cause refusal.Validate (outcome rows question files)

-- a report, and the lines of Manifests beside it
abbrev pub validated : (manifests : Bool) → List RowOf → QuestionOf → Held → Report → Validated
validated manifests rows question files report = record { report = report; lines = lines_beside manifests rows question files report }

abbrev pub rows_outcome : (manifests : Bool) → List RowOf → QuestionOf → Held → Result Validated Refusal
rows_outcome manifests rows question files =
    and_then (rows_report rows question files) (λ report. Ok (validated manifests rows question files report))

abbrev pub document_read : List ℕ → Result (List RowOf) Refusal
document_read bytes = with_cause refusal.Read (read_outcome bytes)

abbrev pub document_outcome : (manifests : Bool) → List ℕ → QuestionOf → Held → Result Validated Refusal
document_outcome manifests bytes question files = and_then (document_read bytes) (λ rows. rows_outcome manifests rows question files)

abbrev pub outcome_behind_keys : Asked → (keep manifests : Bool) → List ℕ → List KeyEntry → Held → Result Validated Refusal
outcome_behind_keys asked keep manifests bytes keys files =
    and_then (file.catalog_outcome asked.catalog files)
    (λ catalog. document_outcome manifests bytes (question_for asked keep keys catalog) files)

abbrev pub outcome_behind_document : Asked → (keep manifests : Bool) → List ℕ → Held → Result Validated Refusal
outcome_behind_document asked keep manifests bytes files =
    and_then (file.keys_outcome asked.keys files) (λ keys. outcome_behind_keys asked keep manifests bytes keys files)

-- the report of a validation and the lines beside it, or its first refusal
abbrev pub validation_outcome : Asked → (keep manifests : Bool) → Held → Result Validated Refusal
validation_outcome asked keep manifests files =
    and_then (file.document_outcome asked.doc files) (λ bytes. outcome_behind_document asked keep manifests bytes files)

-- ---- the names, up to the first refusal

abbrev pub rows_names : (manifests : Bool) → List RowOf → QuestionOf → Held → List (List ℕ)
rows_names manifests rows question files =
    names_asked rows question files ++ or_nothing (rows_report rows question files) (names_beside manifests rows question)

abbrev pub document_names : (manifests : Bool) → List ℕ → QuestionOf → Held → List (List ℕ)
document_names manifests bytes question files = or_nothing (document_read bytes) (λ rows. rows_names manifests rows question files)

abbrev pub names_behind_keys : Asked → (keep manifests : Bool) → List ℕ → List KeyEntry → Held → List (List ℕ)
names_behind_keys asked keep manifests bytes keys files =
    file.catalog_names asked.catalog
    ++ or_nothing (file.catalog_outcome asked.catalog files)
    (λ catalog. document_names manifests bytes (question_for asked keep keys catalog) files)

abbrev pub names_behind_document : Asked → (keep manifests : Bool) → List ℕ → Held → List (List ℕ)
names_behind_document asked keep manifests bytes files =
    encode_utf8_all asked.keys
    ∷ or_nothing (file.keys_outcome asked.keys files) (λ keys. names_behind_keys asked keep manifests bytes keys files)

abbrev pub validation_names : Asked → (keep manifests : Bool) → Held → List (List ℕ)
validation_names asked keep manifests files =
    encode_utf8_all asked.doc
    ∷ or_nothing (file.document_outcome asked.doc files) (λ bytes. names_behind_document asked keep manifests bytes files)
