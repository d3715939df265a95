-- How the answers of the signer stand to their outcomes, and what they do to the folder.
use Rattle.std.specs.Prelude.{◌≡◌, ◌⊎◌, ◌≤◌, ℕ, List, ◌++◌, Option, Some, Result, Ok, Err}
use Rattle.sig_base.specs.Counts.{Rose}
use Rattle.sig_base.specs.Outcomes as outcomes
use Rattle.sig_outside.specs.Told.{Held}
use Rattle.xml_doc.specs.Rows.{RowOf}
use Rattle.xml_read.specs.ReadOutcome.{read_outcome}
use Rattle.dsig_fields.specs.Keys.{QuestionOf}
use Rattle.transforms.specs.Answers.{GrewTowards}
use Rattle.core_validate.specs.Answers.{HasNoFile, IsOwnCause}
use Rattle.signer.specs.declared.refusal.SignRefusal.{SignRefusal}
use Rattle.signer.specs.declared.refusal.SignRefusal.TheVariants as refusal
use Rattle.signer.specs.declared.template.TemplateRefusal.{TemplateRefusal}
use Rattle.signer.specs.declared.template.TemplateRefusal.TheVariants as template

-- ---- filling in
-- a refusal is that of the outcome, unless the folder failed, or memory wasn't given
abbrev pub Refuses : {A : Type 0} → SignRefusal → Result A SignRefusal → Type 0
Refuses refusal.FetchFailed outcome = Unit {0}
Refuses refusal.Memory outcome = Unit {0}
Refuses cause outcome = outcome ≡ Err cause

abbrev pub Gives : {T A : Type 0} → (T → A) → Result T SignRefusal → Result A SignRefusal → Type 0
Gives view result outcome = outcomes.Gives Refuses view result outcome

-- the folder tells these files, or no Reference of the template refers to one
abbrev pub TellsTemplate : List ℕ → QuestionOf → Option Held → Held → Type 0
TellsTemplate octets question told files =
    (told ≡ Some files) ⊎ ((rows : List RowOf) → read_outcome octets ≡ Ok rows → HasNoFile rows question)

-- all names are asked for, or a first part of them before a failure or want of memory
abbrev pub AsksAll : {A : Type 0} → Result A SignRefusal → List (List ℕ) → List (List ℕ) → List (List ℕ) → Type 0
AsksAll (Err refusal.FetchFailed) names old new = GrewTowards names old new
AsksAll (Err refusal.Memory) names old new = GrewTowards names old new
AsksAll other names old new = new ≡ old ++ names

-- the count of faults moves with a failure alone
abbrev pub FaultCounts : {A : Type 0} → Result A SignRefusal → ℕ → ℕ → Type 0
FaultCounts (Err refusal.FetchFailed) before now = (before ≤ now) × Rose before now
FaultCounts other before now = now ≡ before

-- where a Reference has no view, the document and the files tell why
abbrev pub HasOwnCause : {A : Type 0} → Result A SignRefusal → Type 0
HasOwnCause (Err (refusal.Reference number cause)) = IsOwnCause cause
HasOwnCause other = Unit {0}

-- ---- templates
abbrev pub TemplateRefuses : {A : Type 0} → TemplateRefusal → Result A TemplateRefusal → Type 0
TemplateRefuses template.Memory outcome = Unit {0}
TemplateRefuses cause outcome = outcome ≡ Err cause

abbrev pub Inserts : {T A : Type 0} → (T → A) → Result T TemplateRefusal → Result A TemplateRefusal → Type 0
Inserts view result outcome = outcomes.Gives TemplateRefuses view result outcome
