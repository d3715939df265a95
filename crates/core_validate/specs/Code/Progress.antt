use Rattle.std.specs.Prelude.{ℕ, Result, Ok, Err}
use Rattle.dsig_fields.specs.declared.fields.Reference.{Reference}
use Rattle.transforms.specs.declared.outcome.Report.{Report}
use Rattle.transforms.specs.declared.outcome.Report.TheVariants as report
use Rattle.transforms.specs.declared.outcome.ValidateRefusal.{ValidateRefusal}
use Rattle.transforms.specs.declared.outcome.ValidateRefusal.TheVariants as refusal
use Rattle.transforms.specs.declared.refusal.RefRefusal.{RefRefusal}
use Rattle.transforms.specs.declared.refusal.RefRefusal.TheVariants.{FetchFailed, SinkRefused, Memory}
use Rattle.core_validate.specs.Answers.{IsOwnCause}

-- why a Reference that has no view stops a validation: a failure of the folder and want of memory are the same here and there, and
-- the sinks here refuse for want of memory alone
abbrev pub reference_cause : (number : ℕ) → RefRefusal → ValidateRefusal
reference_cause number FetchFailed = refusal.FetchFailed
reference_cause number SinkRefused = refusal.Memory
reference_cause number Memory = refusal.Memory
reference_cause number cause = refusal.Reference number cause

-- what validation of References comes to: no report of a signature that fails, no refusal from before the References, and no cause that
-- is of the folder, of a sink or of memory
abbrev pub HasOwnStage : Result Report ValidateRefusal → Type 0
HasOwnStage (Ok (report.Valid views)) = Unit {0}
HasOwnStage (Ok (report.DigestsDiffer numbers)) = Unit {0}
HasOwnStage (Ok other) = ⊥
HasOwnStage (Err (refusal.Reference number cause)) = IsOwnCause cause
HasOwnStage (Err refusal.FetchFailed) = Unit {0}
HasOwnStage (Err refusal.Memory) = Unit {0}
HasOwnStage (Err other) = ⊥
