use Rattle.std.proofs.Common.{rules}
use Rattle.xpath_value.proofs.Occurrences.{stands_first}
use Rattle.xpath_value.proofs.Occurrences.{occurs, occurs_not}
use Rattle.xpath_value.proofs.text.contains.Goals as goal

pub returns-in-Some : goal.returns-in-Some
returns-in-Some c =
    let k = c.in-Some.ensures.cases in
    occurs c.args.text.now c.args.mark.now c.in-Some._before.now c.in-Some._after.now c.utf8.text c.utf8.mark (search rules)
    (stands_first c.args.text.now c.args.mark.now c.in-Some._before.now c.in-Some._after.now k.0 k.1 k.2 k.3 k.4 k.6)

pub returns-in-None : goal.returns-in-None
returns-in-None c = occurs_not c.args.text.now c.args.mark.now c.utf8.text c.utf8.mark c.in-None.ensures.cases
