use Rattle.std.proofs.Common.{◌≡◌, ◌≤◌, ◌+◌, ◌-◌, length, drop}
use Rattle.std.specs.Option.{ForSome}
use Rattle.sig_outside.specs.Told.{Held}
use Rattle.transforms.specs.Asked.{names_behind}
use Rattle.transforms.proofs.AskLaws.{AsksRest}
use Rattle.core_validate.specs.Progress.{sources_of}
use Rattle.signer.specs.Code.Views.{TellsEach}
use Rattle.signer.specs.Outcome.{views_from}
use Rattle.signer.proofs.ViewLaws.{behind}
use Rattle.signer.proofs.views.views_of.Given as goal

-- the References that are left, behind the views of the others, give the views of all, and ask for the names that are left
abbrev pub invariant-loop-reference : goal.invariant-loop-reference
invariant-loop-reference g l = record {
  within : l.number ≤ length l.references;
  limit : l.gathered.total ≤ 536870912;
  left : (files : Held) → TellsEach l.place l.references (g.F.Folder.held l.fn.folder) files
      → behind (sources_of l.doc l.signature l.place files) l.gathered (l.number + 1) (drop l.number l.references) ≡ views_from (sources_of l.doc l.signature l.place files) 0 1 l.references;
  held : g.F.Folder.held l.folder ≡ g.F.Folder.held l.fn.folder;
  asked : ForSome (g.F.Folder.held l.fn.folder) (λ files. AsksRest (g.F.Folder.asked l.fn.folder) (g.F.Folder.asked l.folder)
      (names_behind (sources_of l.doc l.signature l.place files) 0 l.references) (names_behind (sources_of l.doc l.signature l.place files) l.gathered.total (drop l.number l.references)));
  faults : g.F.Folder.faults l.folder ≡ g.F.Folder.faults l.fn.folder;
}

abbrev pub decreases-loop-reference : goal.decreases-loop-reference
decreases-loop-reference g l = length l.references - l.number
