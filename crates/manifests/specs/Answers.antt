-- How the answer of a check of Manifests stands to its lines, and what it does to the folder.
use Rattle.std.specs.Prelude.{◌≡◌, ◌⊎◌, ◌≤◌, ℕ, List, [], ◌++◌, Option, Some, Result, Ok, Err}
use Rattle.sig_base.specs.Counts.{Rose}
use Rattle.sig_outside.specs.Told.{Held}
use Rattle.dsig_fields.specs.declared.refusal.FieldRefusal.TheVariants as field
use Rattle.transforms.specs.Answers.{GrewTowards}
use Rattle.transforms.specs.declared.refusal.RefRefusal.TheVariants as reason
use Rattle.manifests.specs.declared.lines.ManifestKind.{ManifestKind}
use Rattle.manifests.specs.declared.lines.ManifestKind.TheVariants as kind
use Rattle.manifests.specs.declared.lines.ManifestLine.{ManifestLine}
use Rattle.manifests.specs.declared.lines.ManifestStop.{ManifestStop}
use Rattle.manifests.specs.declared.lines.ManifestStop.TheVariants.{FetchFailed}

-- all names are asked for, or a first part of them before a failure or want of memory
abbrev pub AsksAll : {A : Type 0} → Result A ManifestStop → List (List ℕ) → List (List ℕ) → List (List ℕ) → Type 0
AsksAll (Ok lines) names old new = new ≡ old ++ names
AsksAll (Err stop) names old new = GrewTowards names old new

-- the count of faults moves with a failure alone
abbrev pub FaultCounts : {A : Type 0} → Result A ManifestStop → ℕ → ℕ → Type 0
FaultCounts (Err FetchFailed) before now = (before ≤ now) × Rose before now
FaultCounts other before now = now ≡ before

-- no failure of the folder or of a sink and no want of memory
abbrev pub IsOwnKind : ManifestKind → Type 0
IsOwnKind (kind.Refused reason.FetchFailed) = ⊥
IsOwnKind (kind.Refused reason.SinkRefused) = ⊥
IsOwnKind (kind.Refused reason.Memory) = ⊥
IsOwnKind (kind.Fields field.Memory) = ⊥
IsOwnKind other = Unit {0}

-- what a line tells, the document and the files tell
abbrev pub HasOwnKind : ManifestLine → Type 0
HasOwnKind line = IsOwnKind line.kind

-- the folder tells these files, or none is asked for
abbrev pub TellsNames : List (List ℕ) → Option Held → Held → Type 0
TellsNames names told files = (told ≡ Some files) ⊎ (names ≡ [])
