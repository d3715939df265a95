-- What signing asks of the folder: the files of the References in order, up to and including the first that is refused; and once the
-- document is filled in the same again, up to the first whose view is another one.
use Rattle.std.specs.Prelude.{ℕ, List, [], ◌∷◌, ◌++◌, Some, if◌then◌else◌}
use Rattle.sig_outside.specs.Told.{Held}
use Rattle.xml_read.specs.ReadOutcome.{read_outcome}
use Rattle.dsig_fields.specs.Fields.{fields_of}
use Rattle.dsig_fields.specs.Keys.{QuestionOf, key_of}
use Rattle.dsig_fields.specs.Signatures.{nth_signature}
use Rattle.dsig_fields.specs.declared.fields.Fields.{Fields}
use Rattle.dsig_fields.specs.declared.fields.Reference.{Reference}
use Rattle.transforms.specs.Answers.{names_of}
use Rattle.transforms.specs.Asked.{names_behind, or_nothing}
use Rattle.transforms.specs.Outcome.{Sources}
use Rattle.transforms.specs.Values.{origin_of}
use Rattle.transforms.specs.Views.{target_in, view_of}
use Rattle.signer.specs.Outcome.{enough_bits, info_within, is_view, not_text, or_no_signature, references_of, unless, views_from, within_rows}
use Rattle.signer.specs.Signed.{signed, unsigned, value_under}
use Rattle.signer.specs.declared.refusal.SignRefusal.TheVariants as refusal

-- the files for which the comparison of views with these asks
unfoldable pub names_compared : Sources → List Reference → (views : List (List ℕ)) → List (List ℕ)
names_compared sources [] views = []
names_compared sources (reference ∷ more) [] = []
names_compared sources (reference ∷ more) (view ∷ others) =
    names_of (target_in sources.place reference)
    ++ (if is_view (view_of (origin_of sources.rows (Some sources.signature)) sources.place sources.files reference) view
    then names_compared sources more others else [])

-- those for which the document asks that is filled in with these views
unfoldable pub names_again : List ℕ → Sources → Fields → (key : List ℕ) → (views : List (List ℕ)) → List (List ℕ)
names_again octets sources fields key views =
    or_nothing (read_outcome (unsigned octets sources.rows fields views))
    (λ one. or_nothing (read_outcome (signed octets sources.rows fields views (value_under one fields key)))
    (λ two. or_nothing (info_within one fields)
    (λ within. names_compared (within_rows sources two) (references_of (fields_of two sources.signature)) views)))

unfoldable pub names_under_key : List ℕ → Sources → Fields → (key : List ℕ) → List (List ℕ)
names_under_key octets sources fields key =
    or_nothing (enough_bits fields)
    (λ enough. or_nothing (unless refusal.NotText (not_text sources.rows fields))
    (λ texts. names_behind sources 0 fields.references
    ++ or_nothing (views_from sources 0 1 fields.references) (names_again octets sources fields key)))

unfoldable pub names_of_fields : List ℕ → Sources → QuestionOf → Fields → List (List ℕ)
names_of_fields octets sources question fields =
    or_nothing (key_of fields.key_name question) (λ key. names_under_key octets sources fields key.octets)

-- the files for which signing asks
unfoldable pub names_asked : List ℕ → QuestionOf → Held → List (List ℕ)
names_asked octets question files =
    or_nothing (read_outcome octets)
    (λ rows. or_nothing (or_no_signature (nth_signature rows question.index))
    (λ x. or_nothing (fields_of rows x)
    (names_of_fields octets (record { rows = rows; signature = x; place = question.place; files = files }) question)))
