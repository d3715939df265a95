use Rattle.std.proofs.Common.{◌∙◌, rules}
use Rattle.xpath_value.proofs.Characters.{ok_same}
use Rattle.xpath_value.proofs.Occurrences.{stands_first, after_is, after_none}
use Rattle.xpath_value.proofs.text.substring_after.Goals as goal

pub returns-in-Some : goal.returns-in-Some
returns-in-Some c =
    let k = c.in-Some.ensures.cases in
    ok_same c.from_str.result _ _
    (after_is c.args.text.now c.args.mark.now c.in-Some.field-0-0.now c.in-Some.after.now c.utf8.text c.utf8.mark (search rules)
    (stands_first c.args.text.now c.args.mark.now c.in-Some.field-0-0.now c.in-Some.after.now k.0 k.1 k.2 k.3 k.4 k.6))
    c.from_str.ensures

pub returns-in-None : goal.returns-in-None
returns-in-None c = c.new.ensures ∙ after_none c.args.text.now c.args.mark.now c.utf8.text c.utf8.mark c.in-None.ensures.cases
