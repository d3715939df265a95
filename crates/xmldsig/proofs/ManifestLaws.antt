-- The fields that are read once more for the lines of Manifests.
use Rattle.std.proofs.Common.{◌≡◌, refl, ℕ, List, Option, Some, None, Result, Ok, Err}
use Rattle.sig_base.specs.Outcomes.{and_then, with_cause}
use Rattle.sig_outside.specs.Told.{Held}
use Rattle.xml_doc.specs.Rows.{RowOf}
use Rattle.dsig_fields.specs.Fields.{fields_of}
use Rattle.dsig_fields.specs.Keys.{QuestionOf}
use Rattle.dsig_fields.specs.Signatures.{nth_signature}
use Rattle.dsig_fields.specs.declared.fields.Fields.{Fields}
use Rattle.dsig_fields.specs.declared.refusal.FieldRefusal.{FieldRefusal}
use Rattle.transforms.specs.Outcome.{or_no_signature, outcome}
use Rattle.transforms.specs.declared.outcome.Report.{Report}
use Rattle.transforms.specs.declared.outcome.ValidateRefusal.{ValidateRefusal}
use Rattle.transforms.specs.declared.outcome.ValidateRefusal.TheVariants as refusal
use Rattle.xmldsig.specs.Manifests.{fields_at, fields_in, those_read}

read_by : (read : Result Fields FieldRefusal) (more : Fields → Result Report ValidateRefusal) (report : Report)
    → and_then (with_cause refusal.Fields read) more ≡ Ok report → (fields : Fields) × (those_read read ≡ Some fields)
read_by (Ok fields) more report e = (fields, refl)
read_by (Err cause) more report e = cc

read_in : (rows : List RowOf) (row : Option ℕ) (more : ℕ → Fields → Result Report ValidateRefusal) (report : Report)
    → and_then (or_no_signature row) (λ x. and_then (with_cause refusal.Fields (fields_of rows x)) (more x)) ≡ Ok report
    → (fields : Fields) × (fields_in rows row ≡ Some fields)
read_in rows None more report e = cc
read_in rows (Some x) more report e = read_by (fields_of rows x) (more x) report e

-- where there is a report, the signature is there and its fields can be read
pub fields_of_report : (rows : List RowOf) (question : QuestionOf) (files : Held) (report : Report) → outcome rows question files ≡ Ok report
    → (fields : Fields) × (fields_at rows question.index ≡ Some fields)
unfolding outcome
fields_of_report rows question files report e = read_in rows (nth_signature rows question.index) _ report e
