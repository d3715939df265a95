use Rattle.row_fills.proofs.Refilled.{other_refilled}
use Rattle.row_fills.proofs.laws.the_last_text_changes_alone.Goals as goal

pub returns : goal.returns
returns c = other_refilled
