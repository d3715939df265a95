use Rattle.std.proofs.Common.{refl}
use Rattle.job_words.specs.declared.job.Job.TheVariants as named
use Rattle.xmldsig.specs.Template.{template_outcome}
use Rattle.xmldsig.proofs.Endings.{found_settled}
use Rattle.xmldsig.proofs.settle.settle_template.Goals as goal

pub returns : goal.returns
returns g c =
    let options = c.args.options in
    let job = named.Template c.args.doc options.mac options.digest options.key_name in
    found_settled g.K.ViewKeeper.pairs g.K.ViewKeeper.faults job _
    (template_outcome c.args.doc options) c.make_template.result c.deliver_octets.result _ _ _
    refl (λ files. refl)
    c.deliver_octets.ensures c.make_template.ensures.outcome c.make_template.ensures.asked c.make_template.ensures.cause
