-- The report of core validation is the verdict on the octets that were signed: XML Signature 1.1, section 3.2.
use Rattle.std.specs.Prelude.{◌≡◌, ℕ, Bool, true, false, List, [], length, map, Some, Result, Ok}
use Rattle.sig_outside.specs.Told.{Held}
use Rattle.digests_hmac.specs.KeyEntries.{KeyEntry}
use Rattle.xml_doc.specs.Rows.{RowOf}
use Rattle.xml_read.specs.Spelled.{Spells}
use Rattle.dsig_fields.specs.Fields.{fields_of}
use Rattle.dsig_fields.specs.Holds.{signature_holds}
use Rattle.dsig_fields.specs.Keys.{QuestionOf, key_of}
use Rattle.dsig_fields.specs.Signatures.{nth_signature}
use Rattle.dsig_fields.specs.Verdicts.{IsVerdict, Verdict}
use Rattle.dsig_fields.specs.Verdicts as verdicts
use Rattle.dsig_fields.specs.declared.fields.Fields.{Fields}
use Rattle.transforms.specs.Outcome.{kept_if, outcome, views_of}
use Rattle.transforms.specs.declared.outcome.Report.{Report}
use Rattle.transforms.specs.declared.outcome.Report.TheVariants as report
use Rattle.transforms.specs.declared.outcome.ValidateRefusal.{ValidateRefusal}
use Rattle.signed_info.specs.Signed.{signed_octets}

-- the report that tells a verdict: the views themselves where they are kept, else their lengths alone
abbrev pub report_of : (keep : Bool) → Verdict → Report
report_of keep (verdicts.ShortTruncation bits) = report.ShortTruncation bits
report_of keep verdicts.SignatureDiffers = report.SignatureDiffers
report_of keep (verdicts.DigestsDiffer numbers) = report.DigestsDiffer numbers
report_of keep (verdicts.Valid views) = report.Valid (record { lengths = map length views; octets = kept_if keep views })

-- the views that are looked at: those that were made, or none where the signature doesn't hold
abbrev pub AreViewsSeen : (holds : Bool) → (made : Result (List (List ℕ)) ValidateRefusal) → List (List ℕ) → Type 0
AreViewsSeen true made views = made ≡ Ok views
AreViewsSeen false made views = views ≡ []

-- the signature that was asked for, with its fields, the key and the views of its References; there is a verdict on these, and the
-- report tells it
pub record IsValidated (rows : List RowOf) (question : QuestionOf) (files : Held) (told : Report) : Type 0 where
  pub signature : ℕ
  pub fields : Fields
  pub key : KeyEntry
  pub views : List (List ℕ)
  pub signature_is : nth_signature rows question.index ≡ Some signature
  pub fields_are : fields_of rows signature ≡ Ok fields
  pub key_is : key_of fields.key_name question ≡ Ok key
  pub views_are : AreViewsSeen (signature_holds fields.mac fields.bits key.octets (signed_octets rows fields) fields.value)
      (views_of (record { rows = rows; signature = signature; place = question.place; files = files }) fields.references) views
  pub verdict : Verdict
  pub verdict_is : IsVerdict (signed_octets rows fields) fields.value key.octets views verdict
  pub told_is : told ≡ report_of question.keep_views verdict

-- each report that validation comes to is such a verdict
abbrev pub ReportsAreVerdicts : Type 0
ReportsAreVerdicts =
    (octets : List ℕ) (rows : List RowOf) (question : QuestionOf) (files : Held) (told : Report)
    → Spells octets rows → outcome rows question files ≡ Ok told → IsValidated rows question files told

-- validations of two documents that agree in what the verdict looks at have one report
abbrev pub AgreeingReportsAreOne : Type 0
AgreeingReportsAreOne =
    (rows others : List RowOf) (question asked : QuestionOf) (files held : Held) (one other : Report)
    → (a : IsValidated rows question files one) → (b : IsValidated others asked held other)
    → signed_octets rows a.fields ≡ signed_octets others b.fields → a.fields.value ≡ b.fields.value
    → a.key.octets ≡ b.key.octets → a.views ≡ b.views → question.keep_views ≡ asked.keep_views → one ≡ other
