use Rattle.signer.proofs.Made.{are_spelled}
use Rattle.signer.proofs.laws.what_is_filled_in_is_spelled.Goals as goal

pub returns : goal.returns
returns c = are_spelled
