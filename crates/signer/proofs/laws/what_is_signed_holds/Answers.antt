use Rattle.signer.proofs.Made.{holds}
use Rattle.signer.proofs.laws.what_is_signed_holds.Goals as goal

pub returns : goal.returns
returns c = holds
