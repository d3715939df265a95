use Rattle.xpath_syntax.proofs.Complete.{one_expression}
use Rattle.xpath_syntax.proofs.laws.one_expression.Goals as goal

pub returns : goal.returns
returns c = one_expression
