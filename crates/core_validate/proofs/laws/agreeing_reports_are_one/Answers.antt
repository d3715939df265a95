use Rattle.core_validate.proofs.Verdicts.{agreeing_one}
use Rattle.core_validate.proofs.laws.agreeing_reports_are_one.Goals as goal

pub returns : goal.returns
returns c = agreeing_one
