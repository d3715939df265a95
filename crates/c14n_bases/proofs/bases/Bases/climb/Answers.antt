use Rattle.std.proofs.Common.{ℕ, List}
use Rattle.c14n_bases.specs.Join.{cut}
use Rattle.c14n_bases.specs.Joined.{base_at}
use Rattle.c14n_bases.specs.Code.Climbs.{Climbs}
use Rattle.c14n_bases.proofs.bases.Bases.climb.Goals as goal

pub climb_from-requires-clause-known : goal.climb_from-requires-clause-known
climb_from-requires-clause-known c = (cut (base_at c.args.self.now.bases c.args.k), record { shape = c.shape.ensures; text = c.whole.ensures; starts = c.starts.ensures })

pub returns-clause-joins : goal.returns-clause-joins
returns-clause-joins c = λ (path rest : List ℕ) (climbs : Climbs path c.args.ups rest).
    c.climb_from.ensures.joins (cut (base_at c.args.self.now.bases c.args.k)) (record { shape = c.shape.ensures; text = c.whole.ensures; starts = c.starts.ensures }) path rest climbs
