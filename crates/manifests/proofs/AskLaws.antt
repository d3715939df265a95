-- The count of a folder's faults behind some entries.
use Rattle.std.proofs.Common.{◌≡◌, ◌∙◌, ℕ, Err, sym}
use Rattle.manifests.specs.Answers.{FaultCounts}
use Rattle.manifests.specs.declared.lines.ManifestStop.{ManifestStop}
use Rattle.manifests.specs.declared.lines.ManifestStop.TheVariants.{FetchFailed, Memory}

-- the count of faults behind a count that did not move
pub counted_on : (stop : ManifestStop) (first before now : ℕ) → before ≡ first → FaultCounts {A = Unit {0}} (Err stop) before now → FaultCounts {A = Unit {0}} (Err stop) first now
counted_on FetchFailed first before now e h = rw (sym e) h
counted_on Memory first before now e h = h ∙ e
