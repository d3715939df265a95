use Rattle.std.proofs.Common.{◌≤◌, length}
use Rattle.sig_outside.proofs.Known.{IsReadSoFar}
use Rattle.sig_outside.proofs.dir_folder.read_within.Given as goal

abbrev pub invariant-loop-turn : goal.invariant-loop-turn
invariant-loop-turn g l = IsReadSoFar (g.F.Read.remaining l.initial.file) (g.F.Read.remaining l.file) l.octets.items × (length l.octets.items ≤ l.limit)
