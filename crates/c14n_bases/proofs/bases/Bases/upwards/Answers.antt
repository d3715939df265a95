use Rattle.c14n_bases.specs.Join.{cut}
use Rattle.c14n_bases.specs.Joined.{base_at}
use Rattle.c14n_bases.proofs.ValueLemmas.{upwards-climb, upwards-all, upwards-within}
use Rattle.c14n_bases.proofs.bases.Bases.upwards.Goals as goal

pub returns : goal.returns
returns c =
    let is = c.shape.ensures.upwards in
    let b = cut (base_at c.args.self.now.bases c.args.k) in let n = c.shape.result.upwards in
    record { climbs = upwards-climb b n is; all = upwards-all b n is; within = upwards-within b n is }
