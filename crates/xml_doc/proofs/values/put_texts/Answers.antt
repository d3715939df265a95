use Rattle.std.proofs.Common.{sym}
use Rattle.sig_base.proofs.PutsLemmas.{stopped_at_member, Appended-then, Appended-as, flat_map-take_one_more}
use Rattle.xml_doc.proofs.KeptLemmas.{no_common}
use Rattle.xml_doc.specs.Code.Kept.{kept_text}
use Rattle.xml_doc.proofs.values.put_texts.Goals as goal

pub returns-in-Refused : goal.returns-in-Refused
returns-in-Refused g c =
    stopped_at_member _ _ _ kept_text c.args.rows.now c.loop-row.row-index no_common c.loop-row-test.true c.loop-row.invariant c.in-Refused.ensures.by

pub loop-row-preserved : goal.loop-row-preserved
loop-row-preserved g c =
    Appended-as _ _ _ (sym (flat_map-take_one_more kept_text c.args.rows.now c.loop-row.row-index no_common c.loop-row-test.true))
    (Appended-then _ _ _ c.loop-row.invariant c.in_default.ensures.by)
