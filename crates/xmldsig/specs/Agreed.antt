-- What the report of a validation rests on: the octets that were signed, the signature value, the key and the views.
use Rattle.std.specs.Prelude.{◌≡◌, ℕ, Bool, List, is_some, Ok}
use Rattle.sig_outside.specs.Told.{Held}
use Rattle.digests_hmac.specs.KeyEntries.{KeyEntry}
use Rattle.uri_refs.specs.CatalogEntries.{CatalogEntry}
use Rattle.xml_doc.specs.Rows.{RowOf}
use Rattle.xml_read.specs.ReadOutcome.{read_outcome}
use Rattle.xml_read.specs.Spelled.{Spells}
use Rattle.transforms.specs.declared.outcome.Report.{Report}
use Rattle.core_validate.specs.Verdict.{IsValidated}
use Rattle.job_words.specs.declared.job.Asked.{Asked}
use Rattle.job_words.specs.declared.job.Job.{Job}
use Rattle.job_words.specs.declared.job.Job.TheVariants as job
use Rattle.xmldsig.specs.Files as file
use Rattle.xmldsig.specs.Outcome.{OfReport, run_outcome}
use Rattle.xmldsig.specs.Validation.{question_for}
use Rattle.xmldsig.specs.declared.ending.Validated.{Validated}

-- the document that the folder holds is read, and hence spelled; there is a verdict on the signature, the key, the catalog and the
-- views that the words ask about, and the report tells it
pub record RestsOnSigned (asked : Asked) (keep : Bool) (files : Held) (told : Report) : Type 0 where
  pub octets : List ℕ
  pub document : file.document_outcome asked.doc files ≡ Ok octets
  pub rows : List RowOf
  pub read : read_outcome octets ≡ Ok rows
  pub spelled : Spells octets rows
  pub keys : List KeyEntry
  pub keys_are : file.keys_outcome asked.keys files ≡ Ok keys
  pub catalog : List CatalogEntry
  pub catalog_is : file.catalog_outcome asked.catalog files ≡ Ok catalog
  pub validated : IsValidated rows (question_for asked keep keys catalog) files told

-- each report of a validation does so
abbrev pub IsAgreed : Job → Held → Type 0
IsAgreed (job.Validate asked views manifests) files =
    (told : Validated) → run_outcome (job.Validate asked views manifests) files ≡ Ok (OfReport told)
    → RestsOnSigned asked (is_some views) files told.report
IsAgreed other files = Unit {0}
