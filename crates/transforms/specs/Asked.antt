-- What a validation asks of the folder: nothing before the signature is validated, and then the files of the References in order, up to
-- and including the first that is refused.
use Rattle.std.specs.Prelude.{◌≡◌, ℕ, ◌+◌, ◌&&◌, nat_le, Bool, List, [], ◌∷◌, ◌++◌, length, Option, Some, Result, Ok, Err, if◌then◌else◌}
use Rattle.std.specs.Option.{ForSome}
use Rattle.sig_base.specs.Outcomes.{and_then, with_cause}
use Rattle.sig_outside.specs.Told.{Held}
use Rattle.xml_doc.specs.Rows.{RowOf}
use Rattle.dsig_fields.specs.Fields.{fields_of}
use Rattle.dsig_fields.specs.Holds.{is_long_enough, is_mac_value, value_bits}
use Rattle.dsig_fields.specs.Keys.{QuestionOf, key_of}
use Rattle.dsig_fields.specs.Signatures.{nth_signature}
use Rattle.dsig_fields.specs.declared.fields.Fields.{Fields}
use Rattle.dsig_fields.specs.declared.fields.Reference.{Reference}
use Rattle.transforms.specs.Answers.{names_of}
use Rattle.transforms.specs.Outcome.{Sources, canonical_signed_info, choice_refusal, next_view, or_no_signature}
use Rattle.transforms.specs.Steps.{octet_limit}
use Rattle.transforms.specs.Views.{target_in}
use Rattle.transforms.specs.declared.outcome.ValidateRefusal.TheVariants as refusal

-- a list that nothing is in where a step is refused
abbrev pub or_nothing : {A B R : Type 0} → Result A R → (A → List B) → List B
or_nothing (Ok x) f = f x
or_nothing (Err refusal) f = []

-- the files for which References ask that stand behind views of `total` octets
unfoldable pub names_behind : Sources → (total : ℕ) → List Reference → List (List ℕ)
names_behind sources total [] = []
names_behind sources total (reference ∷ more) =
    names_of (target_in sources.place reference) ++ or_nothing (next_view sources total reference)
    (λ view. names_behind sources (total + length view) more)

-- those of all References, where the signature value is the HMAC over the canonical SignedInfo; else nothing is asked for
unfoldable pub names_under_key : Sources → Fields → (key : List ℕ) → List (List ℕ)
names_under_key sources fields key =
    if is_long_enough fields.mac (value_bits fields.mac fields.bits)
    && (nat_le (length (canonical_signed_info sources.rows fields)) octet_limit
    && is_mac_value fields.mac (value_bits fields.mac fields.bits) key (canonical_signed_info sources.rows fields) fields.value)
    then names_behind sources 0 fields.references else []

unfoldable pub names_of_fields : Sources → QuestionOf → Fields → List (List ℕ)
names_of_fields sources question fields =
    or_nothing (key_of fields.key_name question) (λ key. names_under_key sources fields key.octets)

-- the files for which a validation asks
unfoldable pub names_asked : List RowOf → QuestionOf → Held → List (List ℕ)
names_asked rows question files =
    or_nothing (or_no_signature (nth_signature rows question.index))
    (λ x. or_nothing (fields_of rows x)
    (names_of_fields (record { rows = rows; signature = x; place = question.place; files = files }) question))
