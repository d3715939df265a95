use Rattle.xpath_syntax.proofs.Arities.{lawful_unrefused}
use Rattle.xpath_syntax.proofs.laws.lawful_unrefused.Goals as goal

pub returns : goal.returns
returns c = lawful_unrefused
