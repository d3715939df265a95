use Rattle.c14n_bases.proofs.StandLemmas.{held}
use Rattle.c14n_bases.proofs.bases.Bases.shape.Goals as goal

pub returns : goal.returns
returns c = (held c.self.inside c.args.self.now c.args.k c.index-place.result.now c.self.view_is c.self.invariant c.requires c.index-place.ensures).known.shape
