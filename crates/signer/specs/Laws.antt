-- What is signed validates, and is the same when it is signed again: XML Signature 1.1, sections 3.1 and 3.2.
use Rattle.std.specs.Prelude.{◌≡◌, ℕ, List, length, map, Some, Ok}
use Rattle.sig_outside.specs.Told.{Held}
use Rattle.xml_doc.specs.Rows.{RowOf}
use Rattle.xml_read.specs.ReadOutcome.{read_outcome}
use Rattle.dsig_fields.specs.Fields.{fields_of}
use Rattle.dsig_fields.specs.Keys.{QuestionOf}
use Rattle.dsig_fields.specs.Signatures.{nth_signature}
use Rattle.dsig_fields.specs.declared.fields.Fields.{Fields}
use Rattle.transforms.specs.Outcome as validation
use Rattle.transforms.specs.declared.outcome.Report.TheVariants as report
use Rattle.signer.specs.Outcome.{outcome}

-- The signed document can be read, and core validation of the same Signature, asked the same with the same files, is valid. What it
-- hands on are the views of the template.
pub record IsValid (octets : List ℕ) (question : QuestionOf) (files : Held) (made : List ℕ) : Type 0 where
  pub template : List RowOf
  pub is_template : read_outcome octets ≡ Ok template
  pub signature : ℕ
  pub found : nth_signature template question.index ≡ Some signature
  pub fields : Fields
  pub fields_are : fields_of template signature ≡ Ok fields
  pub views : List (List ℕ)
  pub views_are : validation.views_of (record { rows = template; signature = signature; place = question.place; files = files })
      fields.references ≡ Ok views
  pub rows : List RowOf
  pub read : read_outcome made ≡ Ok rows
  pub valid : validation.outcome rows question files
      ≡ Ok (report.Valid (record { lengths = map length views; octets = validation.kept_if question.keep_views views }))

abbrev pub SignedIsValid : Type 0
SignedIsValid = (octets made : List ℕ) (question : QuestionOf) (files : Held) → outcome octets question files ≡ Ok made
    → IsValid octets question files made

-- Signing a document that signing has made, asked the same with the same files, gives the same octets.
abbrev pub FilledAgain : Type 0
FilledAgain = (octets made : List ℕ) (question : QuestionOf) (files : Held) → outcome octets question files ≡ Ok made
    → outcome made question files ≡ Ok made
