use Rattle.std.proofs.Common.{◌<◌, ◌+◌, length, arith}
use Rattle.c14n_bases.proofs.SegmentLemmas.{segments_one, segments_first, first_plain, whole_plain, rest_whole}
use Rattle.c14n_bases.proofs.clean.cut_segment.Goals as goal

pub returns-then-at-path-clause-segments : goal.returns-then-at-path-clause-segments
returns-then-at-path-clause-segments c =
    segments_one c.args.path.now (let e = c.first_of-at.ensures.place in let t = c.if-at-path.true in omega arith)

pub returns-else-at-path-clause-segments : goal.returns-else-at-path-clause-segments
returns-else-at-path-clause-segments c =
    let path = c.args.path.now in let at = c.first_of-at.result in
    let within : at < length path = let l = c.first_of-at.ensures.within in let n = c.if-at-path.false in omega arith in
    rw (rest_whole (at + 1) path) (segments_first path at c.first_of-at.ensures.place within)

pub returns-then-at-path-clause-plain : goal.returns-then-at-path-clause-plain
returns-then-at-path-clause-plain c =
    whole_plain c.args.path.now (let e = c.first_of-at.ensures.place in let t = c.if-at-path.true in omega arith)

pub returns-else-at-path-clause-plain : goal.returns-else-at-path-clause-plain
returns-else-at-path-clause-plain c = first_plain c.args.path.now c.first_of-at.result c.first_of-at.ensures.place
