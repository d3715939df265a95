use Rattle.xml_syntax.proofs.RunLaws.{plain_behind, adds_within}
use Rattle.xml_syntax.proofs.item.plain.Goals as goal

pub returns : goal.returns
returns c = plain_behind _ _ _ _ _ _ _ _ c.run-run.ensures c.in_ok-add_run.ensures (adds_within c.plain_rest.result _ _ _ _ _ c.plain_rest.ensures)
