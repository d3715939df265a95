use Rattle.std.proofs.Common.{ℕ, List, take}
use Rattle.std.specs.List.{flat_map}
use Rattle.std.specs.Borrow.{Bor}
use Rattle.sig_base.specs.Puts.{Appended}
use Rattle.sig_base.proofs.sink.put_pieces.Given as goal

abbrev pub invariant-loop-piece : goal.invariant-loop-piece
invariant-loop-piece g l = Appended g.S.OctetSink.stands_for g.S.OctetSink.refusals g.S.OctetSink.makes l.initial.sink l.sink (flat_map (λ (p : Bor (List ℕ)). p.now) (take l.piece-index l.pieces))
