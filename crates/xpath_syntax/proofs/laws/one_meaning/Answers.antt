use Rattle.xpath_syntax.proofs.Outcomes.{means_outcome, outcome_meant}
use Rattle.xpath_syntax.proofs.laws.one_meaning.Goals as goal

pub returns : goal.returns
returns c = record { one = means_outcome; some = outcome_meant }
