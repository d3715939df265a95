use Rattle.std.proofs.Common.{take}
use Rattle.std.specs.List.{flat_map}
use Rattle.sig_base.specs.Puts.{Appended}
use Rattle.c14n_text.specs.Bases.{row_attribute}
use Rattle.c14n_rows.specs.Code.Joined.{base_of}
use Rattle.c14n_rows.proofs.attributes.put_rows.Given as goal

abbrev pub invariant-loop-a : goal.invariant-loop-a
invariant-loop-a g l = Appended g.S.OctetSink.stands_for g.S.OctetSink.refusals g.S.OctetSink.makes l.initial.sink l.sink (flat_map (row_attribute l.doc (base_of l.base)) (take l.a-index l.rows))
