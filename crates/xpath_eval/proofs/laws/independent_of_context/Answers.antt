use Rattle.xpath_eval.proofs.Independence.{steady_expression}
use Rattle.xpath_eval.proofs.laws.independent_of_context.Goals as goal

pub returns : goal.returns
returns c = λ e x y place size unread. steady_expression e unread x y place size
