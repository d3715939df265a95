-- What signing a template comes to: the octets with digests and signature value filled in (XML Signature 1.1, section 3.1), or the
-- first refusal.
use Rattle.std.specs.Prelude.{ℕ, ◌+◌, nat_le, Bool, false, not, List, [], ◌∷◌, ◌++◌, length, map, Option, Some, None, Result, Ok, Err, if◌then◌else◌, bytes_eq}
use Rattle.std.specs.List.{find, list_all}
use Rattle.sig_base.specs.Outcomes.{and_then, with_cause}
use Rattle.sig_outside.specs.Told.{Held}
use Rattle.xml_doc.specs.Kinds.{is_text}
use Rattle.xml_doc.specs.Rows.{RowOf}
use Rattle.xml_doc.specs.Shape.{row_at}
use Rattle.xml_read.specs.ReadOutcome.{read_outcome}
use Rattle.dsig_fields.specs.Fields.{fields_of}
use Rattle.dsig_fields.specs.Holds.{is_long_enough, value_bits}
use Rattle.dsig_fields.specs.Keys.{QuestionOf, key_of}
use Rattle.dsig_fields.specs.Reading.{children}
use Rattle.dsig_fields.specs.Signatures.{nth_signature}
use Rattle.dsig_fields.specs.declared.fields.Fields.{Fields}
use Rattle.dsig_fields.specs.declared.fields.Reference.{Reference}
use Rattle.dsig_fields.specs.declared.key.KeyChoice.{KeyChoice}
use Rattle.dsig_fields.specs.declared.key.KeyChoice.TheVariants as choice
use Rattle.dsig_fields.specs.declared.refusal.FieldRefusal.{FieldRefusal}
use Rattle.transforms.specs.Outcome.{Sources, canonical_signed_info, next_view}
use Rattle.transforms.specs.Steps.{octet_limit}
use Rattle.transforms.specs.Values.{origin_of}
use Rattle.transforms.specs.Views.{view_of}
use Rattle.transforms.specs.declared.refusal.RefRefusal.{RefRefusal}
use Rattle.signer.specs.Signed.{signed, unsigned, value_under}
use Rattle.signer.specs.declared.refusal.SignRefusal.{SignRefusal}
use Rattle.signer.specs.declared.refusal.SignRefusal.TheVariants as refusal

-- goes on, unless there is a number that refuses
abbrev pub unless : (ℕ → SignRefusal) → Option ℕ → Result (Unit {0}) SignRefusal
unless why None = Ok tt
unless why (Some k) = Err (why k)

abbrev pub or_no_signature : Option ℕ → Result ℕ SignRefusal
or_no_signature None = Err refusal.NoSignature
or_no_signature (Some x) = Ok x

abbrev pub choice_refusal : KeyChoice → SignRefusal
choice_refusal choice.NoKey = refusal.NoKey
choice_refusal choice.UnknownKey = refusal.UnknownKey

-- the HMAC has enough bits (section 4.4.2)
abbrev pub enough_bits : Fields → Result (Unit {0}) SignRefusal
enough_bits fields =
    if is_long_enough fields.mac (value_bits fields.mac fields.bits) then Ok tt
    else Err (refusal.ShortTruncation (value_bits fields.mac fields.bits))

-- ---- what is filled in
-- each child of the element is a text
abbrev pub has_texts : List RowOf → ℕ → Bool
has_texts rows x = list_all (λ y. is_text (row_at rows y).kind) (children rows x)

-- the DigestValues in order, and behind them the SignatureValue
abbrev pub filled_rows : Fields → List ℕ
filled_rows fields = map (λ (r : Reference). r.digest_row) fields.references ++ fields.value_row ∷ []

-- the first of them that has another child
abbrev pub not_text : List RowOf → Fields → Option ℕ
not_text rows fields = find (λ x. not (has_texts rows x)) (filled_rows fields)

-- ---- the views
-- the views of References of which the first has this number, behind views of `total` octets
unfoldable pub views_from : Sources → (total number : ℕ) → List Reference → Result (List (List ℕ)) SignRefusal
views_from sources total number [] = Ok []
views_from sources total number (reference ∷ more) =
    and_then (with_cause (refusal.Reference number) (next_view sources total reference))
    (λ view. and_then (views_from sources (total + length view) (number + 1) more) (λ others. Ok (view ∷ others)))

-- this is the view that is had
abbrev pub is_view : Result (List ℕ) RefRefusal → List ℕ → Bool
is_view (Ok had) view = bytes_eq had view
is_view (Err cause) view = false

-- the number of the first Reference whose view is refused, or is none of these that stand beside the References
unfoldable pub first_changed : Sources → (number : ℕ) → List Reference → (views : List (List ℕ)) → Option ℕ
first_changed sources number [] views = None
first_changed sources number (reference ∷ more) [] = None
first_changed sources number (reference ∷ more) (view ∷ others) =
    if is_view (view_of (origin_of sources.rows (Some sources.signature)) sources.place sources.files reference) view
    then first_changed sources (number + 1) more others
    else Some number

abbrev pub references_of : Result Fields FieldRefusal → List Reference
references_of (Ok fields) = fields.references
references_of (Err cause) = []

-- the same Signature in another document
abbrev pub within_rows : Sources → List RowOf → Sources
within_rows sources rows = record { rows = rows; signature = sources.signature; place = sources.place; files = sources.files }

-- the first Reference that covers what is filled in: its view is another one in the document with these rows
abbrev pub covers_itself : Sources → (signed_rows : List RowOf) → (views : List (List ℕ)) → Option ℕ
covers_itself sources rows views = first_changed (within_rows sources rows) 1 (references_of (fields_of rows sources.signature)) views

-- ---- the outcome
abbrev pub info_within : List RowOf → Fields → Result (Unit {0}) SignRefusal
info_within rows fields = if nat_le (length (canonical_signed_info rows fields)) octet_limit then Ok tt else Err refusal.OctetsTooLong

-- the template filled in, once its views are known
unfoldable pub outcome_of_views : List ℕ → Sources → Fields → (key : List ℕ) → (views : List (List ℕ)) → Result (List ℕ) SignRefusal
outcome_of_views octets sources fields key views =
    and_then (with_cause refusal.Filled (read_outcome (unsigned octets sources.rows fields views)))
    (λ one. and_then (with_cause refusal.Filled (read_outcome (signed octets sources.rows fields views (value_under one fields key))))
    (λ two. and_then (info_within one fields)
    (λ within. and_then (unless refusal.CoversItself (covers_itself sources two views))
    (λ same. Ok (signed octets sources.rows fields views (value_under one fields key))))))

-- the same under a key
unfoldable pub outcome_under_key : List ℕ → Sources → Fields → (key : List ℕ) → Result (List ℕ) SignRefusal
outcome_under_key octets sources fields key =
    and_then (enough_bits fields)
    (λ enough. and_then (unless refusal.NotText (not_text sources.rows fields))
    (λ texts. and_then (views_from sources 0 1 fields.references)
    (outcome_of_views octets sources fields key)))

unfoldable pub outcome_of_fields : List ℕ → Sources → QuestionOf → Fields → Result (List ℕ) SignRefusal
outcome_of_fields octets sources question fields =
    and_then (with_cause choice_refusal (key_of fields.key_name question)) (λ key. outcome_under_key octets sources fields key.octets)

unfoldable pub outcome_of_rows : List ℕ → List RowOf → QuestionOf → Held → Result (List ℕ) SignRefusal
outcome_of_rows octets rows question files =
    and_then (or_no_signature (nth_signature rows question.index))
    (λ x. and_then (with_cause refusal.Fields (fields_of rows x))
    (outcome_of_fields octets (record { rows = rows; signature = x; place = question.place; files = files }) question))

-- the template filled in, or the first refusal
unfoldable pub outcome : List ℕ → QuestionOf → Held → Result (List ℕ) SignRefusal
outcome octets question files = and_then (with_cause refusal.Read (read_outcome octets))
    (λ rows. outcome_of_rows octets rows question files)
