-- How the answer of a validation stands to its outcome, and what it does to the folder.
use Rattle.std.specs.Prelude.{◌≡◌, ◌⊎◌, ◌≤◌, ℕ, List, ◌++◌, length, Option, Some, Result, Ok, Err}
use Rattle.std.specs.List.{All}
use Rattle.sig_base.specs.Counts.{Rose}
use Rattle.sig_base.specs.Outcomes as outcomes
use Rattle.sig_outside.specs.Told.{Held}
use Rattle.xml_doc.specs.Rows.{RowOf}
use Rattle.uri_refs.specs.declared.target.Target.{Target}
use Rattle.uri_refs.specs.declared.target.Target.TheVariants as target
use Rattle.dsig_fields.specs.Fields.{fields_of}
use Rattle.dsig_fields.specs.Keys.{QuestionOf}
use Rattle.dsig_fields.specs.Signatures.{nth_signature}
use Rattle.dsig_fields.specs.declared.fields.Fields.{Fields}
use Rattle.dsig_fields.specs.declared.fields.Reference.{Reference}
use Rattle.transforms.specs.Answers.{GrewTowards}
use Rattle.transforms.specs.Views.{target_in}
use Rattle.transforms.specs.declared.outcome.Report.{Report}
use Rattle.transforms.specs.declared.outcome.Report.TheVariants as report
use Rattle.transforms.specs.declared.outcome.ValidateRefusal.{ValidateRefusal}
use Rattle.transforms.specs.declared.outcome.ValidateRefusal.TheVariants.{FetchFailed, Memory}
use Rattle.transforms.specs.declared.outcome.ValidateRefusal.TheVariants as validation
use Rattle.transforms.specs.declared.refusal.RefRefusal.{RefRefusal}
use Rattle.transforms.specs.declared.refusal.RefRefusal.TheVariants as reason

-- a refusal is that of the outcome, unless the folder failed, or memory wasn't given
abbrev pub Refuses : {A : Type 0} → ValidateRefusal → Result A ValidateRefusal → Type 0
Refuses FetchFailed outcome = Unit {0}
Refuses Memory outcome = Unit {0}
Refuses cause outcome = outcome ≡ Err cause

abbrev pub Gives : {T A : Type 0} → (T → A) → Result T ValidateRefusal → Result A ValidateRefusal → Type 0
Gives view result outcome = outcomes.Gives Refuses view result outcome

-- the same of a step that asks no folder
abbrev pub Stops : {A : Type 0} → ValidateRefusal → Result A ValidateRefusal → Type 0
Stops FetchFailed outcome = ⊥
Stops Memory outcome = Unit {0}
Stops cause outcome = outcome ≡ Err cause

-- a target that is no file
abbrev pub IsNoFile : Result Target RefRefusal → Type 0
IsNoFile (Ok (target.Named name)) = ⊥
IsNoFile other = Unit {0}

-- no Reference of the signature that is asked about refers to a file
abbrev pub HasNoFile : List RowOf → QuestionOf → Type 0
HasNoFile rows question =
    (x : ℕ) (fields : Fields) → nth_signature rows question.index ≡ Some x → fields_of rows x ≡ Ok fields
    → All (λ (reference : Reference). IsNoFile (target_in question.place reference)) fields.references

-- the folder tells these files, or none is referred to
abbrev pub TellsAll : List RowOf → QuestionOf → Option Held → Held → Type 0
TellsAll rows question told files = (told ≡ Some files) ⊎ HasNoFile rows question

-- all names are asked for, or a first part of them before a failure or want of memory
abbrev pub AsksAll : {A : Type 0} → Result A ValidateRefusal → List (List ℕ) → List (List ℕ) → List (List ℕ) → Type 0
AsksAll (Err FetchFailed) names old new = GrewTowards names old new
AsksAll (Err Memory) names old new = GrewTowards names old new
AsksAll other names old new = new ≡ old ++ names

-- the count of faults moves with a failure alone
abbrev pub FaultCounts : {A : Type 0} → Result A ValidateRefusal → ℕ → ℕ → Type 0
FaultCounts (Err FetchFailed) before now = (before ≤ now) × Rose before now
FaultCounts other before now = now ≡ before

-- at most as many views as References may stand in a SignedInfo
abbrev pub HasFewViews : Report → Type 0
HasFewViews (report.Valid views) = length views.octets ≤ 256
HasFewViews other = Unit {0}

-- no failure of the folder or of a sink and no want of memory
abbrev pub IsOwnCause : RefRefusal → Type 0
IsOwnCause reason.FetchFailed = ⊥
IsOwnCause reason.SinkRefused = ⊥
IsOwnCause reason.Memory = ⊥
IsOwnCause cause = Unit {0}

-- where a Reference has no view, the document and the files tell why
abbrev pub HasOwnCause : {A : Type 0} → Result A ValidateRefusal → Type 0
HasOwnCause (Err (validation.Reference number cause)) = IsOwnCause cause
HasOwnCause other = Unit {0}
