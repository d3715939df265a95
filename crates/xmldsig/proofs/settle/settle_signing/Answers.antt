use Rattle.std.proofs.Common.{refl}
use Rattle.job_words.specs.declared.job.Job.TheVariants as named
use Rattle.xmldsig.specs.Sign.{signing_outcome}
use Rattle.xmldsig.proofs.Endings.{found_settled}
use Rattle.xmldsig.proofs.settle.settle_signing.Goals as goal

pub returns : goal.returns
returns g c =
    found_settled g.K.ViewKeeper.pairs g.K.ViewKeeper.faults (named.Sign c.args.asked) _ (signing_outcome c.args.asked)
    c.make_signed.result c.deliver_octets.result _ _ _ refl (λ files. refl)
    c.deliver_octets.ensures c.make_signed.ensures.outcome c.make_signed.ensures.asked c.make_signed.ensures.cause
