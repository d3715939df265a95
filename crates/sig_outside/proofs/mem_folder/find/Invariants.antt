use Rattle.std.proofs.Common.{◌≡◌, map, drop}
use Rattle.sig_outside.specs.Told.{file_in}
use Rattle.sig_outside.specs.Pairs.{pair_of}
use Rattle.sig_outside.proofs.mem_folder.find.Given as goal

abbrev pub invariant-loop-file : goal.invariant-loop-file
invariant-loop-file l = file_in (map pair_of (drop l.file-index l.files)) l.name ≡ file_in (map pair_of l.files) l.name
