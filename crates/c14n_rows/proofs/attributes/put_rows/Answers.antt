use Rattle.std.proofs.Common.{arith}
use Rattle.sig_base.proofs.PutsLemmas.{stopped_at_member}
use Rattle.c14n_text.specs.Bases.{row_attribute}
use Rattle.c14n_rows.specs.Code.Joined.{base_of}
use Rattle.c14n_rows.proofs.attributes.put_rows.Goals as goal

pub returns-in-Refused : goal.returns-in-Refused
returns-in-Refused g c =
    stopped_at_member _ _ _ (row_attribute c.args.doc.now (base_of c.args.base)) c.args.rows.now c.loop-a.a-index _ (omega arith) c.loop-a.invariant c.in-Refused.ensures.by
