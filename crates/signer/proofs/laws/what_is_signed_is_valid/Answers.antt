use Rattle.signer.proofs.Made.{signed_is_valid}
use Rattle.signer.proofs.laws.what_is_signed_is_valid.Goals as goal

pub returns : goal.returns
returns c = signed_is_valid
