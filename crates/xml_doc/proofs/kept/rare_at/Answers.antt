use Rattle.std.proofs.Common.{◌<◌, arith}
use Rattle.xml_doc.proofs.KeptLemmas.{rare_at-map}
use Rattle.xml_doc.proofs.kept.rare_at.Goals as goal

pub returns-else-place-eq0 : goal.returns-else-place-eq0
returns-else-place-eq0 c = let h : 0 < c.args.place = omega arith in rare_at-map c.args.rares.now c.args.place h
