use Rattle.signed_info.proofs.Elements.{elements_same}
use Rattle.signed_info.proofs.laws.elements_say_the_same.Goals as goal

pub returns : goal.returns
returns c = elements_same
