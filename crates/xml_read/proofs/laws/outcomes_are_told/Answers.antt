use Rattle.xml_read.proofs.SpelledLaws.{outcome_told, is_outcome}
use Rattle.xml_read.proofs.laws.outcomes_are_told.Goals as goal

pub returns : goal.returns
returns c = λ octets outcome. (outcome_told octets outcome, is_outcome octets outcome)
