use Rattle.xpath_eval.proofs.Gatherings.{longer_gathers}
use Rattle.xpath_eval.proofs.gathering.gathered_with.Goals as goal

pub returns-in-Some-clause-rows : goal.returns-in-Some-clause-rows
returns-in-Some-clause-rows c =
    longer_gathers c.args.doc.now c.args.gathering c.in-Listed.rows c.args.more.now c.in-Listed.end c.in-Some.behind c.in-Listed.is c.longer.result c.longer.ensures
    c.requires.rows c.in-Some.ensures.ascends c.in-Some.ensures.behind c.requires.more
