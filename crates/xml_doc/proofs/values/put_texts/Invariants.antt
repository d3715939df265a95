use Rattle.std.proofs.Common.{take}
use Rattle.std.specs.List.{flat_map}
use Rattle.sig_base.specs.Puts.{Appended}
use Rattle.xml_doc.specs.Code.Kept.{kept_text}
use Rattle.xml_doc.proofs.values.put_texts.Given as goal

-- the rows so far are written
abbrev pub invariant-loop-row : goal.invariant-loop-row
invariant-loop-row g l = Appended g.S.OctetSink.stands_for g.S.OctetSink.refusals g.S.OctetSink.makes l.fn.sink l.sink (flat_map kept_text (take l.row-index l.rows))
