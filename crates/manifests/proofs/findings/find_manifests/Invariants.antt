use Rattle.std.proofs.Common.{◌≡◌, ◌≤◌, ◌-◌, length}
use Rattle.std.specs.List.{All}
use Rattle.manifests.specs.Code.Findings as code
use Rattle.manifests.specs.Findings as spec
use Rattle.manifests.proofs.FindLaws.{left_findings}
use Rattle.manifests.proofs.findings.find_manifests.Given as goal

abbrev pub invariant-loop-reference : goal.invariant-loop-reference
invariant-loop-reference l = record {
  within : l.number ≤ length l.references;
  room : l.search.count ≤ 1024;
  fit : All (code.FindingFits l.doc) l.search.findings;
  left : left_findings l.doc l.place l.references l.search l.number ≡ spec.findings l.doc l.place 1 0 l.references;
}

abbrev pub decreases-loop-reference : goal.decreases-loop-reference
decreases-loop-reference l = length l.references - l.number
