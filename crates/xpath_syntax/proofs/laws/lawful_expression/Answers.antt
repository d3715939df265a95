use Rattle.xpath_syntax.proofs.Lawfulness.{expression_lawful}
use Rattle.xpath_syntax.proofs.laws.lawful_expression.Goals as goal

pub returns : goal.returns
returns c = expression_lawful
