use Rattle.std.proofs.Common.{map}
use Rattle.xml_doc.specs.Code.Kept.{rare_of}
use Rattle.xml_doc.proofs.KeptLemmas.{texts_in_range}
use Rattle.xml_doc.proofs.row.RowList.range.Goals as goal

pub returns : goal.returns
returns c = rw (← c.self.view_is, c.deref.ensures.value) (texts_in_range (map rare_of c.self.inside.rares.items) c.self.inside.rows.items c.args.from c.args.until)
