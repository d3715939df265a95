use Rattle.row_fills.proofs.InOrder.{in_order}
use Rattle.row_fills.proofs.laws.fillings_lie_in_order.Goals as goal

pub returns : goal.returns
returns c = λ octets rows fs spells can. in_order octets rows spells fs can
