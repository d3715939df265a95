use Rattle.std.proofs.Common.{arith}
use Rattle.sig_base.proofs.LineLaws.{first-whole, first-cut}
use Rattle.sig_base.proofs.lines.first_line.Goals as goal

pub returns-then-end-text-clause-lines : goal.returns-then-end-text-clause-lines
returns-then-end-text-clause-lines c =
    first-whole c.args.text.now c.place_of-end.result c.place_of-end.ensures.place c.if-end-text.true c.requires

pub returns-clause-lines : goal.returns-clause-lines
returns-clause-lines c =
    rw c.strip_carriage_return.ensures
    (first-cut c.args.text.now c.place_of-end.result c.place_of-end.ensures.place (omega (arith, c.place_of-end.ensures.within)))
