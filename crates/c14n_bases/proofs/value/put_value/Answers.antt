use Rattle.std.proofs.Common.{refl}
use Rattle.sig_base.proofs.PutsLemmas.{Appended-then, IsFront-append, IsFront-all, stopped, handed_on}
use Rattle.c14n_bases.proofs.value.put_value.Goals as goal

pub returns-in-Refused-put_cleaned : goal.returns-in-Refused-put_cleaned
returns-in-Refused-put_cleaned g c = stopped _ _ _ _ c.in_default.ensures.by c.in-Refused-put_cleaned.ensures.by (IsFront-append _ _ _ (IsFront-all _))

pub returns : goal.returns
returns g c = handed_on _ _ _ _ c.put_query.result (Appended-then _ _ _ c.in_default.ensures.by c.in_default-put_cleaned.ensures.by) c.put_query.ensures refl
