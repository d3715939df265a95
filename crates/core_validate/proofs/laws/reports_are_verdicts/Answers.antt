use Rattle.core_validate.proofs.Verdicts.{reports_verdicts}
use Rattle.core_validate.proofs.laws.reports_are_verdicts.Goals as goal

pub returns : goal.returns
returns c = reports_verdicts
