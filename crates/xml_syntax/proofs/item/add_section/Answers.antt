use Rattle.xml_syntax.proofs.RunLaws.{adds_within}
use Rattle.xml_syntax.proofs.item.add_section.Goals as goal

pub returns : goal.returns
returns c = adds_within c.section.result c.args.into.now.front.now _ _ _ _ c.section.ensures
