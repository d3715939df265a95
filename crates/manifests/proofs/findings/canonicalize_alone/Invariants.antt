use Rattle.std.proofs.Common.{◌≡◌, ◌-◌, length, drop}
use Rattle.std.specs.List.{list_all}
use Rattle.manifests.specs.Findings as spec
use Rattle.manifests.proofs.findings.canonicalize_alone.Given as goal

abbrev pub invariant-loop-step : goal.invariant-loop-step
invariant-loop-step l = list_all spec.is_canonicalization (drop l.k l.steps) ≡ list_all spec.is_canonicalization l.steps

abbrev pub decreases-loop-step : goal.decreases-loop-step
decreases-loop-step l = length l.steps - l.k
