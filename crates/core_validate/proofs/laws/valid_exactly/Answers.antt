use Rattle.core_validate.proofs.ValidLaws.{valid_exactly}
use Rattle.core_validate.proofs.laws.valid_exactly.Goals as goal

pub returns : goal.returns
returns c = valid_exactly
