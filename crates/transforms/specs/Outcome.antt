-- Core validation: XML Signature 1.1, section 3.2. The signature is validated before its References are looked at.
use Rattle.std.specs.Prelude.{◌≡◌, ◌==◌, ℕ, ◌+◌, ◌&&◌, nat_le, List, [], ◌∷◌, length, map, Bool, true, false, not, Option, Some, None, Result, Ok, Err, encode_utf8_all, if◌then◌else◌}
use Rattle.sig_outside.specs.Told.{Held}
use Rattle.xml_doc.specs.Rows.{RowOf}
use Rattle.node_sets.specs.Members.{in_subtree}
use Rattle.c14n_methods.specs.Methods.{canonical_form}
use Rattle.uri_refs.specs.declared.target.Place.{Place}
use Rattle.dsig_fields.specs.Fields.{fields_of}
use Rattle.dsig_fields.specs.Holds.{is_long_enough, is_mac_value, value_bits}
use Rattle.dsig_fields.specs.Keys.{QuestionOf, key_of}
use Rattle.dsig_fields.specs.Signatures.{nth_signature}
use Rattle.dsig_fields.specs.Verdicts.{differing}
use Rattle.dsig_fields.specs.declared.fields.Fields.{Fields}
use Rattle.dsig_fields.specs.declared.fields.Reference.{Reference}
use Rattle.dsig_fields.specs.declared.key.KeyChoice.{KeyChoice}
use Rattle.dsig_fields.specs.declared.key.KeyChoice.TheVariants as choice
use Rattle.dsig_fields.specs.declared.refusal.FieldRefusal.{FieldRefusal}
use Rattle.dsig_fields.specs.declared.refusal.FieldRefusal.TheVariants as field
use Rattle.sig_base.specs.Outcomes.{and_then, with_cause}
use Rattle.transforms.specs.Steps.{octet_limit}
use Rattle.transforms.specs.Values.{origin_of}
use Rattle.transforms.specs.Views.{view_of}
use Rattle.transforms.specs.declared.outcome.Report.{Report}
use Rattle.transforms.specs.declared.outcome.Report.TheVariants as report
use Rattle.transforms.specs.declared.outcome.ValidateRefusal.{ValidateRefusal}
use Rattle.transforms.specs.declared.outcome.ValidateRefusal.TheVariants as refusal
use Rattle.transforms.specs.declared.refusal.RefRefusal.{RefRefusal}
use Rattle.transforms.specs.declared.refusal.RefRefusal.TheVariants.{OctetsTooLong}

-- the octets over which the HMAC is made: the canonical form of the SignedInfo element (section 3.2.2)
abbrev pub canonical_signed_info : List RowOf → Fields → List ℕ
canonical_signed_info rows fields = canonical_form fields.canon (map encode_utf8_all fields.prefixes) rows
    (in_subtree rows fields.signed_info)

-- ---- the views of all References
-- the octets of all views together: this project's limit
abbrev pub total_limit : ℕ
total_limit = 536870912

-- the document and the Signature whose References they are, and where their URIs lead
pub record Sources : Type 0 where
  pub rows : List RowOf
  pub signature : ℕ
  pub place : Place
  pub files : Held

-- the step behind the last one, which writes the view
abbrev pub last_step : Reference → ℕ
last_step reference = length reference.steps + 1

abbrev pub within_total : (total number : ℕ) → List ℕ → Result (List ℕ) RefRefusal
within_total total number view = if nat_le (total + length view) total_limit then Ok view else Err (OctetsTooLong number)

-- the view of a Reference behind views of `total` octets
unfoldable pub next_view : Sources → (total : ℕ) → Reference → Result (List ℕ) RefRefusal
next_view sources total reference =
    and_then (view_of (origin_of sources.rows (Some sources.signature)) sources.place sources.files reference)
    (within_total total (last_step reference))

-- the views of References of which the first has this number, behind views of `total` octets; the first that is refused decides
unfoldable pub views_behind : Sources → (total number : ℕ) → List Reference → Result (List (List ℕ)) ValidateRefusal
views_behind sources total number [] = Ok []
views_behind sources total number (reference ∷ more) =
    and_then (with_cause (refusal.Reference number) (next_view sources total reference))
    (λ view. and_then (views_behind sources (total + length view) (number + 1) more) (λ others. Ok (view ∷ others)))

abbrev pub views_of : Sources → List Reference → Result (List (List ℕ)) ValidateRefusal
views_of sources references = views_behind sources 0 1 references

abbrev pub kept_if : Bool → List (List ℕ) → List (List ℕ)
kept_if keep views = if keep then views else []

abbrev pub report_by : (keep : Bool) → (views : List (List ℕ)) → (differ : List ℕ) → Report
report_by keep views [] = report.Valid (record { lengths = map length views; octets = kept_if keep views })
report_by keep views (number ∷ more) = report.DigestsDiffer (number ∷ more)

-- reference validation: section 3.2.1
unfoldable pub references_report : Sources → (keep : Bool) → List Reference → Result Report ValidateRefusal
references_report sources keep references = and_then (views_of sources references)
    (λ views. Ok (report_by keep views (differing 1 references views)))

-- signature validation, and then reference validation: sections 3.2.2 and 3.2.1
unfoldable pub verdict : Sources → (keep : Bool) → Fields → (key : List ℕ) → Result Report ValidateRefusal
verdict sources keep fields key =
    if not (is_long_enough fields.mac (value_bits fields.mac fields.bits))
    then Ok (report.ShortTruncation (value_bits fields.mac fields.bits))
    else (if not (nat_le (length (canonical_signed_info sources.rows fields)) octet_limit) then Err refusal.OctetsTooLong
    else (if not (is_mac_value fields.mac (value_bits fields.mac fields.bits) key (canonical_signed_info sources.rows fields) fields.value)
    then Ok report.SignatureDiffers
    else references_report sources keep fields.references))

abbrev pub choice_refusal : KeyChoice → ValidateRefusal
choice_refusal choice.NoKey = refusal.NoKey
choice_refusal choice.UnknownKey = refusal.UnknownKey

-- the key, and the verdict under it
unfoldable pub under_key : Sources → QuestionOf → Fields → Result Report ValidateRefusal
under_key sources question fields =
    and_then (with_cause choice_refusal (key_of fields.key_name question)) (λ key. verdict sources question.keep_views fields key.octets)

abbrev pub or_no_signature : Option ℕ → Result ℕ ValidateRefusal
or_no_signature None = Err refusal.NoSignature
or_no_signature (Some x) = Ok x

-- the outcome of a validation: its report, or its first refusal
unfoldable pub outcome : List RowOf → QuestionOf → Held → Result Report ValidateRefusal
outcome rows question files =
    and_then (or_no_signature (nth_signature rows question.index))
    (λ x. and_then (with_cause refusal.Fields (fields_of rows x))
    (under_key (record { rows = rows; signature = x; place = question.place; files = files }) question))

-- why fields that can't be read stop a validation: want of memory is the same here and there
abbrev pub field_cause : FieldRefusal → ValidateRefusal
field_cause field.Memory = refusal.Memory
field_cause cause = refusal.Fields cause
