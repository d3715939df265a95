use Rattle.std.proofs.Common.{◌≡◌, ◌≤◌, ◌+◌, ◌-◌, length, drop, take}
use Rattle.std.specs.List.{All}
use Rattle.std.specs.Option.{ForSome}
use Rattle.sig_outside.specs.Told.{Held}
use Rattle.transforms.specs.Asked.{names_behind}
use Rattle.transforms.specs.Outcome.{references_report}
use Rattle.core_validate.specs.Code.Answers.{TellsEach}
use Rattle.core_validate.specs.Progress.{sources_of}
use Rattle.core_validate.specs.Reached.{IsHad}
use Rattle.transforms.proofs.AskLaws.{AsksRest}
use Rattle.core_validate.proofs.ProgressLaws.{IsWithin, behind}
use Rattle.core_validate.proofs.progress.validate_references.Given as goal

-- the References that are left, behind what is known of the others, make the report of all, and ask for the names that are left
abbrev pub invariant-loop-reference : goal.invariant-loop-reference
invariant-loop-reference g l = record {
  within : l.number ≤ length l.references;
  limits : IsWithin l.keep l.number l.progress;
  had : All (IsHad l.doc l.signature l.place) (take l.number l.references);
  left : (files : Held) → TellsEach l.place l.references (g.F.Folder.held l.fn.folder) files
      → behind (sources_of l.doc l.signature l.place files) l.progress (l.number + 1) (drop l.number l.references) ≡ references_report (sources_of l.doc l.signature l.place files) l.keep l.references;
  held : g.F.Folder.held l.folder ≡ g.F.Folder.held l.fn.folder;
  asked : ForSome (g.F.Folder.held l.fn.folder) (λ files. AsksRest (g.F.Folder.asked l.fn.folder) (g.F.Folder.asked l.folder)
      (names_behind (sources_of l.doc l.signature l.place files) 0 l.references) (names_behind (sources_of l.doc l.signature l.place files) l.progress.total (drop l.number l.references)));
  faults : g.F.Folder.faults l.folder ≡ g.F.Folder.faults l.fn.folder;
}

abbrev pub decreases-loop-reference : goal.decreases-loop-reference
decreases-loop-reference g l = length l.references - l.number
