use Rattle.xpath_syntax.proofs.Inversions.{inside}
use Rattle.xpath_syntax.proofs.laws.lawful_inside.Goals as goal

pub returns : goal.returns
returns c = inside
