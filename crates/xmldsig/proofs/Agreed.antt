-- Each report of a validation rests on what was signed.
use Rattle.std.proofs.Common.{◌≡◌, Bool, List, Result, Ok, ap, subst}
use Rattle.std.specs.Prelude.{is_some}
use Rattle.sig_outside.specs.Told.{Held}
use Rattle.xml_doc.specs.Rows.{RowOf}
use Rattle.xml_read.specs.ReadOutcome.{read_outcome}
use Rattle.xml_read.proofs.SpelledLaws.{spells_of}
use Rattle.dsig_fields.specs.Keys.{QuestionOf}
use Rattle.transforms.specs.Outcome.{outcome}
use Rattle.transforms.specs.declared.outcome.Report.{Report}
use Rattle.core_validate.proofs.Verdicts.{cause_parts, reports_verdicts, then_parts}
use Rattle.job_words.specs.declared.job.Asked.{Asked}
use Rattle.job_words.specs.declared.job.Job.{Job}
use Rattle.job_words.specs.declared.job.Job.TheVariants as job
use Rattle.xmldsig.specs.Agreed.{IsAgreed, RestsOnSigned}
use Rattle.xmldsig.specs.Files as file
use Rattle.xmldsig.specs.Outcome.{Answer, OfReport}
use Rattle.xmldsig.specs.Validation.{document_outcome, document_read, outcome_behind_document, outcome_behind_keys, question_for, rows_outcome, rows_report, validated, validation_outcome}
use Rattle.xmldsig.specs.declared.ending.Refusal.{Refusal}
use Rattle.xmldsig.specs.declared.ending.Refusal.TheVariants as refusal
use Rattle.xmldsig.specs.declared.ending.Validated.{Validated}

same_answer : (v told : Validated) → ◌≡◌ {A = Result Answer Refusal} (Ok (OfReport v)) (Ok (OfReport told)) → v ≡ told
same_answer v told e = cc

same_told : (v told : Validated) → ◌≡◌ {A = Result Validated Refusal} (Ok v) (Ok told) → v ≡ told
same_told v told e = cc

-- the report of rows is the outcome of a validation
outcome_of : (manifests : Bool) (rows : List RowOf) (question : QuestionOf) (files : Held) (told : Validated)
    → rows_outcome manifests rows question files ≡ Ok told → outcome rows question files ≡ Ok told.report
outcome_of manifests rows question files told e =
    let p = then_parts (rows_report rows question files) (λ report. Ok (validated manifests rows question files report)) told e in
    let same = ap (λ (v : Validated). v.report) (same_told (validated manifests rows question files p.0) told p.2) in
    cause_parts refusal.Validate (outcome rows question files) told.report
    (subst (λ (r : Report). rows_report rows question files ≡ Ok r) same p.1)

rests : (asked : Asked) (keep manifests : Bool) (files : Held) (told : Validated) → validation_outcome asked keep manifests files ≡ Ok told
    → RestsOnSigned asked keep files told.report
rests asked keep manifests files told e =
    let document = then_parts (file.document_outcome asked.doc files) (λ bytes. outcome_behind_document asked keep manifests bytes files) told e in
    let octets = document.0 in
    let keys = then_parts (file.keys_outcome asked.keys files) (λ found. outcome_behind_keys asked keep manifests octets found files) told document.2 in
    let catalog = then_parts (file.catalog_outcome asked.catalog files)
    (λ found. document_outcome manifests octets (question_for asked keep keys.0 found) files) told keys.2 in
    let question = question_for asked keep keys.0 catalog.0 in
    let behind = then_parts (document_read octets) (λ rows. rows_outcome manifests rows question files) told catalog.2 in
    let rows = behind.0 in
    let read = cause_parts refusal.Read (read_outcome octets) rows behind.1 in
    let spelled = spells_of octets rows read in
    record {
      octets = octets;
      document = document.1;
      rows = rows;
      read = read;
      spelled = spelled;
      keys = keys.0;
      keys_are = keys.1;
      catalog = catalog.0;
      catalog_is = catalog.1;
      validated = reports_verdicts octets rows question files told.report spelled (outcome_of manifests rows question files told behind.2);
    }

pub agreed : (named : Job) (files : Held) → IsAgreed named files
agreed (job.Validate asked views manifests) files = λ told e.
    let p = then_parts (validation_outcome asked (is_some views) manifests files) (λ v. Ok (OfReport v)) (OfReport told) e in
    rests asked (is_some views) manifests files told
    (subst (λ (v : Validated). validation_outcome asked (is_some views) manifests files ≡ Ok v) (same_answer p.0 told p.2) p.1)
agreed (job.Canon doc method id xpath prefixes) files = tt
agreed (job.Sign asked) files = tt
agreed (job.Template doc mac digest key) files = tt
agreed (job.SelfTest paragraphs) files = tt
