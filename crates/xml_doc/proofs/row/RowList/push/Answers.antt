use Rattle.std.proofs.Common.{map, length, ◌∙◌, sym}
use Rattle.std.proofs.lemmas.List.{length-map}
use Rattle.xml_doc.specs.Rows.{row_of}
use Rattle.xml_doc.specs.Code.Kept.{rare_of}
use Rattle.xml_doc.proofs.KeptLemmas.{on_err, same_rows, one_row_more}
use Rattle.xml_doc.proofs.row.RowList.push.Goals as goal

pub returns-in_err-rare-clause-err : goal.returns-in_err-rare-clause-err
returns-in_err-rare-clause-err c =
    on_err c.from_residual.result
    (same_rows (map rare_of c.self.inside.rares.items) (map rare_of c.keep_rare.new.rares.items) (length c.self.inside.rares.items) (sym (length-map c.self.inside.rares.items rare_of)) c.keep_rare.ensures.extends c.self.inside.rows.items c.self.invariant
    ∙ c.self.view_is)

pub returns-in_err-push-clause-err : goal.returns-in_err-push-clause-err
returns-in_err-push-clause-err c =
    on_err c.from_residual-in_err-push.result
    (rw c.in_err-push.ensures.items (same_rows (map rare_of c.self.inside.rares.items) (map rare_of c.keep_rare.new.rares.items) (length c.self.inside.rares.items) (sym (length-map c.self.inside.rares.items rare_of)) c.keep_rare.ensures.extends c.self.inside.rows.items c.self.invariant)
    ∙ c.self.view_is)

pub returns-clause-ok : goal.returns-clause-ok
returns-clause-ok c =
    rw (c.in_ok-push.ensures.items, ← c.self.view_is)
    (one_row_more (map rare_of c.self.inside.rares.items) (map rare_of c.keep_rare.new.rares.items) (length c.self.inside.rares.items) (sym (length-map c.self.inside.rares.items rare_of)) c.keep_rare.ensures.extends c.self.inside.rows.items c.self.invariant c.of.result (row_of c.args.member) c.of.ensures.fields (rw c.of.ensures.place c.in_ok-rare.ensures.kept))
