use Rattle.core_validate.proofs.ValidLaws.{outcome_exactly}
use Rattle.core_validate.proofs.laws.outcome_exactly.Goals as goal

pub returns : goal.returns
returns c = outcome_exactly
