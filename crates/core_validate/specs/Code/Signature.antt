-- Signature validation in the steps of the code: the part of the outcome before any Reference is looked at.
use Rattle.std.specs.Prelude.{ℕ, ◌<◌, nat_le, List, length, Bool, not, Option, Some, None, Result, Ok, Err, if◌then◌else◌}
use Rattle.xml_doc.specs.Rows.{RowOf}
use Rattle.sig_base.specs.Outcomes.{and_then, with_cause}
use Rattle.dsig_fields.specs.Fields.{fields_of}
use Rattle.dsig_fields.specs.Fits.{FieldsFit}
use Rattle.dsig_fields.specs.Holds.{is_long_enough, is_mac_value, value_bits}
use Rattle.dsig_fields.specs.Keys.{QuestionOf, key_of}
use Rattle.dsig_fields.specs.Signatures.{nth_signature}
use Rattle.dsig_fields.specs.declared.fields.Fields.{Fields}
use Rattle.transforms.specs.Outcome.{canonical_signed_info, choice_refusal, or_no_signature}
use Rattle.transforms.specs.Steps.{octet_limit}
use Rattle.transforms.specs.declared.outcome.Report.{Report}
use Rattle.transforms.specs.declared.outcome.Report.TheVariants as report
use Rattle.transforms.specs.declared.outcome.ValidateRefusal.{ValidateRefusal}
use Rattle.transforms.specs.declared.outcome.ValidateRefusal.TheVariants as refusal
use Rattle.core_validate.specs.declared.validation.SignatureCheck.{SignatureCheck}
use Rattle.core_validate.specs.declared.validation.SignatureCheck.TheVariants as check

-- whether the value is the kept HMAC over the canonical SignedInfo (XML Signature 1.1, section 3.2.2), which may be too long
unfoldable pub value_stands : List RowOf → Fields → (key : List ℕ) → Result Bool ValidateRefusal
value_stands rows fields key =
    if not (nat_le (length (canonical_signed_info rows fields)) octet_limit) then Err refusal.OctetsTooLong
    else Ok (is_mac_value fields.mac (value_bits fields.mac fields.bits) key (canonical_signed_info rows fields) fields.value)

abbrev pub failure_by : (stands : Bool) → Option Report
failure_by stands = if not stands then Some report.SignatureDiffers else None

-- why the signature fails, if it does: too few bits, or another value
unfoldable pub signature_failure : List RowOf → Fields → (key : List ℕ) → Result (Option Report) ValidateRefusal
signature_failure rows fields key =
    if not (is_long_enough fields.mac (value_bits fields.mac fields.bits))
    then Ok (Some (report.ShortTruncation (value_bits fields.mac fields.bits)))
    else and_then (value_stands rows fields key) (λ stands. Ok (failure_by stands))

-- the reports of a signature that fails
abbrev pub IsFailure : Report → Type 0
IsFailure (report.Valid views) = ⊥
IsFailure report.SignatureDiffers = Unit {0}
IsFailure (report.ShortTruncation bits) = Unit {0}
IsFailure (report.DigestsDiffer numbers) = ⊥

abbrev pub check_of : (signature : ℕ) → Fields → Option Report → SignatureCheck
check_of signature fields None = check.Holds signature fields
check_of signature fields (Some failure) = check.Fails failure

abbrev pub check_under_key : List RowOf → (signature : ℕ) → Fields → (key : List ℕ) → Result SignatureCheck ValidateRefusal
check_under_key rows signature fields key = and_then (signature_failure rows fields key) (λ failure. Ok (check_of signature fields failure))

unfoldable pub check_of_fields : List RowOf → QuestionOf → (signature : ℕ) → Fields → Result SignatureCheck ValidateRefusal
check_of_fields rows question signature fields =
    and_then (with_cause choice_refusal (key_of fields.key_name question)) (λ key. check_under_key rows signature fields key.octets)

-- the signature of the question: its fields where it holds, else why it fails, or the first refusal
unfoldable pub signature_check : List RowOf → QuestionOf → Result SignatureCheck ValidateRefusal
signature_check rows question =
    and_then (or_no_signature (nth_signature rows question.index))
    (λ x. and_then (with_cause refusal.Fields (fields_of rows x)) (check_of_fields rows question x))

-- what a check gives fits the document
abbrev pub CheckFits : List RowOf → SignatureCheck → Type 0
CheckFits rows (check.Holds signature fields) = (signature < length rows) × FieldsFit rows fields
CheckFits rows (check.Fails failure) = IsFailure failure
