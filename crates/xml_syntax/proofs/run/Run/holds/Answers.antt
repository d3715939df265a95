use Rattle.std.proofs.Common.{sym}
use Rattle.xml_syntax.proofs.RunLaws.{small_in_run}
use Rattle.xml_syntax.proofs.run.Run.holds.Goals as goal

pub returns-then-is_small : goal.returns-then-is_small
returns-then-is_small c = sym (small_in_run c.args.self c.args.octet (sym c.if-is_small.ensures))
