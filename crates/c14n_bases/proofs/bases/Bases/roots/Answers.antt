use Rattle.std.proofs.Common.{ℕ, length, ap, arith}
use Rattle.c14n_bases.specs.Join.{cut}
use Rattle.c14n_bases.specs.Joined.{base_at}
use Rattle.c14n_bases.proofs.ValueLemmas.{roots-front}
use Rattle.c14n_bases.proofs.bases.Bases.roots.Goals as goal

pub slice_bounds-result-end : goal.slice_bounds-result-end
slice_bounds-result-end c =
    let is = c.shape.ensures.roots in
    let front = roots-front (cut (base_at c.args.self.now.bases c.args.k)) c.whole.result.now c.shape.result.roots c.whole.ensures is in
    let within = front.1 in let n = ap (length {A = ℕ}) front.0 in omega arith

pub returns : goal.returns
returns c = (roots-front (cut (base_at c.args.self.now.bases c.args.k)) c.whole.result.now c.shape.result.roots c.whole.ensures c.shape.ensures.roots).0
