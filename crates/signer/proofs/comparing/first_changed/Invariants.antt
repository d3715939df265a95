use Rattle.std.proofs.Common.{◌≡◌, ◌≤◌, ◌+◌, ◌-◌, length, drop}
use Rattle.std.specs.Option.{ForSome}
use Rattle.sig_outside.specs.Told.{Held}
use Rattle.transforms.proofs.AskLaws.{AsksRest}
use Rattle.core_validate.specs.Progress.{sources_of}
use Rattle.signer.specs.Asked.{names_compared}
use Rattle.signer.specs.Code.Views.{TellsEach}
use Rattle.signer.specs.Outcome.{first_changed}
use Rattle.signer.proofs.comparing.first_changed.Given as goal

-- the References that are left decide, and ask for the names that are left
abbrev pub invariant-loop-reference : goal.invariant-loop-reference
invariant-loop-reference g l = record {
  within : l.number ≤ length l.references;
  left : (files : Held) → TellsEach l.place l.references (g.F.Folder.held l.fn.folder) files → first_changed (sources_of l.doc l.signature l.place files) (l.number + 1) (drop l.number l.references) (drop l.number l.views)
      ≡ first_changed (sources_of l.doc l.signature l.place files) 1 l.references l.views;
  held : g.F.Folder.held l.folder ≡ g.F.Folder.held l.fn.folder;
  asked : ForSome (g.F.Folder.held l.fn.folder) (λ files. AsksRest (g.F.Folder.asked l.fn.folder) (g.F.Folder.asked l.folder)
      (names_compared (sources_of l.doc l.signature l.place files) l.references l.views) (names_compared (sources_of l.doc l.signature l.place files) (drop l.number l.references) (drop l.number l.views)));
  faults : g.F.Folder.faults l.folder ≡ g.F.Folder.faults l.fn.folder;
}

abbrev pub decreases-loop-reference : goal.decreases-loop-reference
decreases-loop-reference g l = length l.references - l.number
