use Rattle.std.proofs.Common.{refl}
use Rattle.job_words.specs.declared.job.Job.TheVariants as named
use Rattle.xmldsig.specs.SelfTest.{line_outcome}
use Rattle.xmldsig.proofs.Endings.{found_settled}
use Rattle.xmldsig.proofs.Steps.{asks_nothing, counts_calm}
use Rattle.xmldsig.proofs.settle.settle_self_test.Goals as goal

pub returns : goal.returns
returns g c =
    found_settled g.K.ViewKeeper.pairs g.K.ViewKeeper.faults (named.SelfTest c.args.paragraphs) _ (λ files. line_outcome c.args.paragraphs)
    c.make_line.result c.deliver_octets.result _ _ _ refl (λ files. refl)
    c.deliver_octets.ensures (λ files e. c.make_line.ensures.outcome) (λ files e. asks_nothing c.make_line.result _)
    (counts_calm c.make_line.result _ _ c.make_line.ensures.no_fault refl)
