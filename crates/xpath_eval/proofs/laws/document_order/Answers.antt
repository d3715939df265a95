use Rattle.xpath_eval.proofs.NodeOrder.{ordered_expression}
use Rattle.xpath_eval.proofs.laws.document_order.Goals as goal

pub returns : goal.returns
returns c = λ e x ys node here h. ordered_expression e x (record { node = node; here = here }) ys h
