use Rattle.std.proofs.Common.{refl}
use Rattle.job_words.specs.declared.job.Job.TheVariants as named
use Rattle.xmldsig.specs.Form.{form_outcome}
use Rattle.xmldsig.proofs.Endings.{found_settled}
use Rattle.xmldsig.proofs.settle.settle_form.Goals as goal

pub returns : goal.returns
returns g c =
    let form = c.args.form in
    let job = named.Canon c.args.doc form.method form.id form.xpath form.prefixes in
    found_settled g.K.ViewKeeper.pairs g.K.ViewKeeper.faults job _
    (form_outcome c.args.doc form.method form.id form.xpath form.prefixes) c.find_form.result c.deliver_octets.result _ _ _
    refl (λ files. refl)
    c.deliver_octets.ensures c.find_form.ensures.outcome c.find_form.ensures.asked c.find_form.ensures.cause
