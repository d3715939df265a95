use Rattle.std.proofs.Common.{length}
use Rattle.sig_outside.proofs.Known.{IsTakenSoFar}
use Rattle.sig_outside.proofs.stream_sink.write_whole.Given as goal

abbrev pub decreases-loop-rest : goal.decreases-loop-rest
decreases-loop-rest g l = length l.rest

abbrev pub invariant-loop-rest : goal.invariant-loop-rest
invariant-loop-rest g l = IsTakenSoFar (g.W.Write.contents l.initial.stream) (g.W.Write.contents l.stream) l.piece l.rest
