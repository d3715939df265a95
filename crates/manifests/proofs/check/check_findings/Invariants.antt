use Rattle.std.proofs.Common.{◌≡◌, ◌-◌, ◌++◌, length, drop}
use Rattle.std.specs.List.{All}
use Rattle.std.specs.Option.{ForSome}
use Rattle.sig_outside.specs.Told.{Held}
use Rattle.manifests.specs.Answers.{HasOwnKind, TellsNames}
use Rattle.manifests.specs.Manifests as spec
use Rattle.transforms.proofs.AskLaws.{AsksRest}
use Rattle.manifests.proofs.check.check_findings.Given as goal

-- the same of what was found
abbrev pub invariant-loop-finding : goal.invariant-loop-finding
invariant-loop-finding g l = record {
  own : All HasOwnKind l.lines;
  left : (files : Held) → TellsNames (spec.names_of_findings l.place l.findings) (g.F.Folder.held l.fn.folder) files
      → l.lines ++ spec.lines_of_findings l.doc l.place files (drop l.k l.findings) ≡ spec.lines_of_findings l.doc l.place files l.findings;
  held : g.F.Folder.held l.folder ≡ g.F.Folder.held l.fn.folder;
  asked : ForSome (g.F.Folder.held l.fn.folder) (λ files. AsksRest (g.F.Folder.asked l.fn.folder) (g.F.Folder.asked l.folder)
      (spec.names_of_findings l.place l.findings) (spec.names_of_findings l.place (drop l.k l.findings)));
  faults : g.F.Folder.faults l.folder ≡ g.F.Folder.faults l.fn.folder;
}

abbrev pub decreases-loop-finding : goal.decreases-loop-finding
decreases-loop-finding g l = length l.findings - l.k
