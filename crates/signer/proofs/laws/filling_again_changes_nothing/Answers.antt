use Rattle.signer.proofs.Again.{filled_is_kept}
use Rattle.signer.proofs.laws.filling_again_changes_nothing.Goals as goal

pub returns : goal.returns
returns c = filled_is_kept
