use Rattle.std.proofs.Common.{sym}
use Rattle.xml_syntax.specs.Seen.{seen_attributes}
use Rattle.xml_resolve.proofs.RisingLaws.{rising_apart}
use Rattle.xml_resolve.proofs.resolve.names_are_apart.Goals as goal

pub returns-then-names_rise : goal.returns-then-names_rise
returns-then-names_rise c = rising_apart (seen_attributes c.args.attributes.now) c.args.scope.now (sym c.if-names_rise.ensures)
