use Rattle.xml_doc.proofs.AxisLaws.{ancestors_are}
use Rattle.xml_doc.proofs.laws.ancestors_are_parents.Goals as goal

pub returns : goal.returns
returns c = ancestors_are
