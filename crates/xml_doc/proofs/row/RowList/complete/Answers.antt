use Rattle.std.proofs.Common.{map}
use Rattle.std.proofs.lemmas.List.{map-set}
use Rattle.xml_doc.specs.Code.Kept.{rare_of, row_in}
use Rattle.xml_doc.proofs.KeptLemmas.{row_at-kept}
use Rattle.xml_doc.proofs.row.RowList.complete.Goals as goal

pub returns : goal.returns
returns c =
    let rares = map rare_of c.self.inside.rares.items in
    rw (← c.self.view_is, c.index_mut-row.ensures.value, row_at-kept rares c.self.inside.rows.items c.args.k c.index_mut-row.result.now (rw c.self.view_is c.requires)) (map-set (row_in rares) c.self.inside.rows.items c.args.k _)
