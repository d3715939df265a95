use Rattle.core_validate.proofs.ValidLaws.{hands_on_compared}
use Rattle.core_validate.proofs.laws.hands_on_compared.Goals as goal

pub returns : goal.returns
returns c = hands_on_compared
