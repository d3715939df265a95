use Rattle.std.proofs.Common.{false, replicate}
use Rattle.std.specs.Prelude.{codes}
use Rattle.sig_base.proofs.PutsLemmas.{stopped}
use Rattle.c14n_bases.specs.Code.Surplus.{led}
use Rattle.c14n_bases.proofs.LedLemmas.{led-front}
use Rattle.c14n_bases.proofs.clean.put_upwards.Goals as goal

pub returns-in-Refused : goal.returns-in-Refused
returns-in-Refused g c = stopped _ _ _ (led false (replicate c.args.count (codes ".."))) c.loop-up.invariant c.in-Refused.ensures.by (led-front c.loop-up.up c.args.count (codes "..") c.loop-up-test.true)
