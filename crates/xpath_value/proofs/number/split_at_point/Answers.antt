use Rattle.xpath_value.proofs.Points.{has_point, whole_before, fraction_behind, whole_is_all, fraction_is_none}
use Rattle.xpath_value.proofs.number.split_at_point.Goals as goal

pub returns-in-Some-clause-whole : goal.returns-in-Some-clause-whole
returns-in-Some-clause-whole c =
    let s = c.in-Some.ensures.cases in whole_before c.args.text.now c.in-Some.whole.now c.in-Some.fraction.now c.utf8.text (has_point _ _ _ s.0 s.1 s.2 s.3 s.4)

pub returns-in-Some-clause-fraction : goal.returns-in-Some-clause-fraction
returns-in-Some-clause-fraction c =
    let s = c.in-Some.ensures.cases in fraction_behind c.args.text.now c.in-Some.whole.now c.in-Some.fraction.now c.utf8.text (has_point _ _ _ s.0 s.1 s.2 s.3 s.4)

pub returns-in-None-clause-whole : goal.returns-in-None-clause-whole
returns-in-None-clause-whole c = whole_is_all _ c.utf8.text c.in-None.ensures.cases

pub returns-in-None-clause-fraction : goal.returns-in-None-clause-fraction
returns-in-None-clause-fraction c = fraction_is_none _ c.utf8.text c.in-None.ensures.cases
