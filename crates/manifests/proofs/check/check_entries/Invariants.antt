use Rattle.std.proofs.Common.{◌≡◌, ◌≤◌, ◌-◌, ◌++◌, length, drop}
use Rattle.std.specs.List.{All}
use Rattle.std.specs.Option.{ForSome}
use Rattle.sig_outside.specs.Told.{Held}
use Rattle.transforms.specs.Values.{origin_of}
use Rattle.manifests.specs.Answers.{HasOwnKind, TellsNames}
use Rattle.manifests.specs.Manifests as spec
use Rattle.transforms.proofs.AskLaws.{AsksRest}
use Rattle.manifests.proofs.LineLaws.{left_lines}
use Rattle.manifests.proofs.check.check_entries.Given as goal

-- the lines that are left stand behind those that are there, and the names that are left behind those that are asked for
abbrev pub invariant-loop-entry : goal.invariant-loop-entry
invariant-loop-entry g l = record {
  within : l.number ≤ length l.entries;
  own : All HasOwnKind l.lines;
  left : (files : Held) → TellsNames (spec.names_of_entries l.place l.entries) (g.F.Folder.held l.fn.folder) files
      → l.lines ++ left_lines (origin_of l.doc l.signature) l.place files l.reference l.entries l.number
      ≡ l.fn.lines ++ spec.entry_lines (origin_of l.doc l.signature) l.place files l.reference 1 l.entries;
  held : g.F.Folder.held l.folder ≡ g.F.Folder.held l.fn.folder;
  asked : ForSome (g.F.Folder.held l.fn.folder) (λ files. AsksRest (g.F.Folder.asked l.fn.folder) (g.F.Folder.asked l.folder)
      (spec.names_of_entries l.place l.entries) (spec.names_of_entries l.place (drop l.number l.entries)));
  faults : g.F.Folder.faults l.folder ≡ g.F.Folder.faults l.fn.folder;
}

abbrev pub decreases-loop-entry : goal.decreases-loop-entry
decreases-loop-entry g l = length l.entries - l.number
