-- How refusals of the layers below are told, and what the steps of signing may be refused for.
use Rattle.std.specs.Prelude.{◌≡◌, ℕ, Result, Ok, Err}
use Rattle.dsig_fields.specs.declared.refusal.FieldRefusal.{FieldRefusal}
use Rattle.dsig_fields.specs.declared.refusal.FieldRefusal.TheVariants as field
use Rattle.xml_read.specs.declared.read.ReadRefusal.{ReadRefusal}
use Rattle.xml_read.specs.declared.read.ReadRefusal.TheVariants as read
use Rattle.transforms.specs.declared.refusal.RefRefusal.{RefRefusal}
use Rattle.transforms.specs.declared.refusal.RefRefusal.TheVariants as reason
use Rattle.core_validate.specs.Answers.{IsOwnCause}
use Rattle.signer.specs.declared.refusal.SignRefusal.{SignRefusal}
use Rattle.signer.specs.declared.refusal.SignRefusal.TheVariants as refusal
use Rattle.signer.specs.declared.template.TemplateRefusal.{TemplateRefusal}
use Rattle.signer.specs.declared.template.TemplateRefusal.TheVariants as template

-- want of memory is the same here and there
abbrev pub field_cause : FieldRefusal → SignRefusal
field_cause field.Memory = refusal.Memory
field_cause cause = refusal.Fields cause

abbrev pub read_cause : ReadRefusal → SignRefusal
read_cause read.Memory = refusal.Memory
read_cause cause = refusal.Read cause

abbrev pub filled_cause : ReadRefusal → SignRefusal
filled_cause read.Memory = refusal.Memory
filled_cause cause = refusal.Filled cause

-- and so is a failure of the folder; the sinks here refuse for want of memory alone
abbrev pub reference_cause : (number : ℕ) → RefRefusal → SignRefusal
reference_cause number reason.FetchFailed = refusal.FetchFailed
reference_cause number reason.SinkRefused = refusal.Memory
reference_cause number reason.Memory = refusal.Memory
reference_cause number cause = refusal.Reference number cause

abbrev pub template_cause : ReadRefusal → TemplateRefusal
template_cause read.Memory = template.Memory
template_cause cause = template.Read cause

-- a refusal of a step that asks no folder is that of its outcome, unless memory wasn't given
abbrev pub Stops : {A : Type 0} → SignRefusal → Result A SignRefusal → Type 0
Stops refusal.FetchFailed outcome = ⊥
Stops (refusal.Reference number cause) outcome = ⊥
Stops refusal.Memory outcome = Unit {0}
Stops cause outcome = outcome ≡ Err cause

-- nothing but the folder or memory is to blame
abbrev pub IsOutside : {A : Type 0} → Result A SignRefusal → Type 0
IsOutside (Ok done) = Unit {0}
IsOutside (Err refusal.FetchFailed) = Unit {0}
IsOutside (Err refusal.Memory) = Unit {0}
IsOutside (Err other) = ⊥

-- a Reference that has no view, or the same
abbrev pub IsOwnStop : {A : Type 0} → Result A SignRefusal → Type 0
IsOwnStop (Ok done) = Unit {0}
IsOwnStop (Err (refusal.Reference number cause)) = IsOwnCause cause
IsOwnStop (Err refusal.FetchFailed) = Unit {0}
IsOwnStop (Err refusal.Memory) = Unit {0}
IsOwnStop (Err other) = ⊥
