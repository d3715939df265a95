use Rattle.xpath_syntax.proofs.Counted.{arguments_counted}
use Rattle.xpath_syntax.proofs.laws.counted_arguments.Goals as goal

pub returns : goal.returns
returns c = arguments_counted
