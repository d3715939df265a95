use Rattle.std.proofs.Common.{refl}
use Rattle.sig_base.proofs.MethodLemmas.{differ}
use Rattle.dsig_fields.proofs.methods.mac_refusal.Goals as goal

pub returns-in_default : goal.returns-in_default
returns-in_default c = rw (differ _ _ c.in_default.not-text, differ _ _ c.in_default.not-text-2, differ _ _ c.in_default.not-text-3, differ _ _ c.in_default.not-text-4, differ _ _ c.in_default.not-text-5, differ _ _ c.in_default.not-text-6, differ _ _ c.in_default.not-text-7, differ _ _ c.in_default.not-text-8) refl
