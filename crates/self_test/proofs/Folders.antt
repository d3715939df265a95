-- An empty folder in memory tells that it holds nothing.
use Rattle.std.proofs.Common.{◌≡◌, ap, [], Some}
use Rattle.sig_outside.specs.MemStates.{FolderState}
use Rattle.sig_outside.specs.Told.{file_in, no_files}

pub tells_nothing : (folder : FolderState) → folder ≡ record { files = []; asked = []; failing = []; calls = 0; faults = 0 }
    → Some (file_in folder.files) ≡ Some no_files
tells_nothing folder is = ap (λ (f : FolderState). Some (file_in f.files)) is
