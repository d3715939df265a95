use Rattle.std.proofs.Common.{ℕ, List}
use Rattle.std.specs.Borrow.{Bor}
use Rattle.sig_base.proofs.PutsLemmas.{stopped_at_piece, flat_map-front}
use Rattle.sig_base.proofs.sink.put_pieces.Goals as goal

pub returns-in-Refused : goal.returns-in-Refused
returns-in-Refused g c =
    stopped_at_piece _ _ _ _ c.loop-piece.invariant c.in-Refused.ensures.by (flat_map-front (λ (p : Bor (List ℕ)). p.now) c.loop-piece.piece-index c.args.pieces.now)
