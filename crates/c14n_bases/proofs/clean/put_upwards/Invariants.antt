use Rattle.std.proofs.Common.{false, replicate}
use Rattle.std.specs.Prelude.{codes}
use Rattle.sig_base.specs.Puts.{Appended}
use Rattle.c14n_bases.specs.Code.Surplus.{led}
use Rattle.c14n_bases.proofs.clean.put_upwards.Given as goal

abbrev pub invariant-loop-up : goal.invariant-loop-up
invariant-loop-up g l = Appended g.S.OctetSink.stands_for g.S.OctetSink.refusals g.S.OctetSink.makes l.initial.sink l.sink (led false (replicate l.up (codes "..")))
