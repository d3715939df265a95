use Rattle.std.proofs.Common.{◌*◌, ◌++◌, ℕ, List, drop, ap, sym, ◌∙◌}
use Rattle.c14n_bases.specs.Join.{cut}
use Rattle.c14n_bases.specs.Joined.{base_at}
use Rattle.c14n_bases.specs.Code.Climbs.{climbs}
use Rattle.c14n_bases.proofs.UpwardsLemmas.{climbs-whole}
use Rattle.c14n_bases.proofs.front.whole_front.Goals as goal

pub counted-requires : goal.counted-requires
counted-requires c =
    let b = cut (base_at c.args.bases.now.bases c.args.k) in let n = c.upwards.result in
    let k = sym c.in-Relative.is ∙ c.kind.ensures in
    let whole = c.whole_octets-octets.ensures in
    whole ∙ climbs-whole n b.scheme b.authority b.path b.query k (c.upwards.ensures.climbs (sym k)) c.args.has_query
    ∙ ap (λ (l : List ℕ). climbs n ++ drop (3 * n) l) (sym whole)
