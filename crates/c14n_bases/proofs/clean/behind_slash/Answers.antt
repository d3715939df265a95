use Rattle.std.proofs.Common.{◌<◌, ◌+◌, length, arith, length-drop}
use Rattle.c14n_bases.proofs.SegmentLemmas.{last_one, last_first, rest_whole}
use Rattle.c14n_bases.proofs.clean.behind_slash.Goals as goal

pub returns-then-at-path : goal.returns-then-at-path
returns-then-at-path c =
    last_one c.args.path.now (let e = c.first_of-at.ensures.place in let t = c.if-at-path.true in omega arith)

pub returns-else-at-path : goal.returns-else-at-path
returns-else-at-path c =
    let path = c.args.path.now in let at = c.first_of-at.result in
    let within : at < length path = let l = c.first_of-at.ensures.within in let n = c.if-at-path.false in omega arith in
    let e = length-drop (at + 1) path in
    rw (rest_whole (at + 1) path) (last_first path at c.first_of-at.ensures.place within, omega arith)
