use Rattle.std.proofs.Common.{◌≡◌, ◌+◌, length, ap, sym, ◌∙◌, arith}
use Rattle.c14n_bases.specs.Join.{has_scheme}
use Rattle.c14n_bases.specs.Code.Climbs.{climbs}
use Rattle.c14n_bases.proofs.JoinedLemmas.{behind-same}
use Rattle.c14n_bases.proofs.ClimbLemmas.{length-climbs}
use Rattle.c14n_bases.proofs.joined.settled.Goals as goal

pub start_near-requires-clause-known : goal.start_near-requires-clause-known
start_near-requires-clause-known c =
    let start = c.args.start in let old = c.args.buffer.now in let later = c.put_upwards-begin.new.buffer in
    let put = c.put_upwards-begin.ensures in let long = length-climbs start.upwards in let begin = put.begin in
    let at : c.put_upwards-begin.result + length (climbs start.upwards) ≡ start.from = omega arith in
    let same = behind-same c.put_upwards-begin.result start.from (climbs start.upwards) old later at put.value in
    let auto = c.put_upwards-begin.auto.buffer in let within = c.requires.within in
    record { within = omega arith; room = c.requires.room; seen = c.requires.seen ∙ ap has_scheme (sym same) }
