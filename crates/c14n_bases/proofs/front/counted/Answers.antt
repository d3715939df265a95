use Rattle.std.proofs.Common.{◌*◌, ◌++◌, ℕ, List, ap, sym, ◌∙◌, arith}
use Rattle.c14n_bases.specs.Code.Climbs.{climbs}
use Rattle.c14n_bases.proofs.SegmentLemmas.{rest_whole}
use Rattle.c14n_bases.proofs.UpwardsLemmas.{climbs-within}
use Rattle.c14n_bases.proofs.front.counted.Goals as goal

pub overflow_mul-behind : goal.overflow_mul-behind
overflow_mul-behind c = let e = climbs-within c.args.upwards c.args.octets.now c.requires in omega arith

pub returns : goal.returns
returns c = ap (λ (l : List ℕ). climbs c.args.upwards ++ l) (rest_whole (3 * c.args.upwards) c.args.octets.now) ∙ sym c.requires

pub slice_bounds-result-count : goal.slice_bounds-result-count
slice_bounds-result-count c = let e = climbs-within c.args.upwards c.args.octets.now c.requires in omega arith

pub slice_bounds-result-start : goal.slice_bounds-result-start
slice_bounds-result-start c = let e = climbs-within c.args.upwards c.args.octets.now c.requires in omega arith
