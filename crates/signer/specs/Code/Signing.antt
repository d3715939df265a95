-- Signing in the steps of the code.
use Rattle.std.specs.Prelude.{◌≡◌, ◌⊎◌, ℕ, List, ◌++◌, Option, Some, Result, Ok}
use Rattle.sig_base.specs.Outcomes.{and_then}
use Rattle.sig_outside.specs.Told.{Held}
use Rattle.xml_doc.specs.Rows.{RowOf}
use Rattle.uri_refs.specs.declared.target.Place.{Place}
use Rattle.dsig_fields.specs.Keys.{QuestionOf}
use Rattle.transforms.specs.Asked.{names_behind, or_nothing}
use Rattle.core_validate.specs.Answers.{HasNoFile}
use Rattle.core_validate.specs.Progress.{sources_of}
use Rattle.signer.specs.Asked.{names_again}
use Rattle.signer.specs.Outcome.{outcome_of_views, views_from}
use Rattle.signer.specs.Signed.{signed}
use Rattle.signer.specs.Code.Comparing.{made_outcome, names_made}
use Rattle.signer.specs.Code.Reading.{TemplateOf, template_of}
use Rattle.signer.specs.declared.refusal.SignRefusal.{SignRefusal}
use Rattle.signer.specs.declared.sealing.Seal.{Seal}

-- ---- a template whose views and signature value are known
abbrev pub made_by : List ℕ → List RowOf → TemplateOf → (views : List (List ℕ)) → Seal → List ℕ
made_by octets rows t views seal = signed octets rows t.fields views seal.value

unfoldable pub outcome_of_seal : List ℕ → List RowOf → TemplateOf → Place → Held → (views : List (List ℕ)) → Seal → Result (List ℕ) SignRefusal
outcome_of_seal octets rows t place files views seal =
    and_then (made_outcome t.signature place files (made_by octets rows t views seal) seal.fits views)
    (λ same. Ok (made_by octets rows t views seal))

abbrev pub names_of_seal : List ℕ → List RowOf → TemplateOf → Place → Held → (views : List (List ℕ)) → Seal → List (List ℕ)
names_of_seal octets rows t place files views seal =
    names_made t.signature place files (made_by octets rows t views seal) seal.fits views

-- ---- a template whose views are known
abbrev pub outcome_behind : List ℕ → List RowOf → TemplateOf → Place → Held → (views : List (List ℕ)) → Result (List ℕ) SignRefusal
outcome_behind octets rows t place files views = outcome_of_views octets (sources_of rows t.signature place files) t.fields t.key views

abbrev pub names_behind_views : List ℕ → List RowOf → TemplateOf → Place → Held → (views : List (List ℕ)) → List (List ℕ)
names_behind_views octets rows t place files views = names_again octets (sources_of rows t.signature place files) t.fields t.key views

-- ---- a template
unfoldable pub template_outcome : List ℕ → List RowOf → TemplateOf → Place → Held → Result (List ℕ) SignRefusal
template_outcome octets rows t place files =
    and_then (views_from (sources_of rows t.signature place files) 0 1 t.fields.references) (outcome_behind octets rows t place files)

unfoldable pub names_of_template : List ℕ → List RowOf → TemplateOf → Place → Held → List (List ℕ)
names_of_template octets rows t place files =
    names_behind (sources_of rows t.signature place files) 0 t.fields.references
    ++ or_nothing (views_from (sources_of rows t.signature place files) 0 1 t.fields.references) (names_behind_views octets rows t place files)

-- ---- a document
unfoldable pub names_of_rows : List ℕ → List RowOf → QuestionOf → Held → List (List ℕ)
names_of_rows octets rows question files =
    or_nothing (template_of rows question) (λ t. names_of_template octets rows t question.place files)

-- the folder tells these files, or no Reference refers to one
abbrev pub TellsRows : List RowOf → QuestionOf → Option Held → Held → Type 0
TellsRows rows question told files = (told ≡ Some files) ⊎ HasNoFile rows question
