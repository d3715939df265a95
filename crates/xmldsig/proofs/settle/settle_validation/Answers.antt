use Rattle.std.proofs.Common.{refl}
use Rattle.job_words.specs.declared.job.Job.TheVariants as named
use Rattle.xmldsig.proofs.Endings.{fault_settled, memory_settled, refusal_settled, report_settled, reported_err, reported_ok}
use Rattle.xmldsig.proofs.settle.settle_validation.Goals as goal

pub returns-in-Ok : goal.returns-in-Ok
returns-in-Ok g c =
    let job = named.Validate c.args.asked c.args.views c.args.manifests in
    report_settled g.K.ViewKeeper.pairs g.K.ViewKeeper.faults
    job c.args.views _ c.deliver_report.result _ _ _ _ c.in-Ok.told
    refl refl c.deliver_report.ensures.ends c.deliver_report.ensures.keepers c.deliver_report.ensures.number c.deliver_report.ensures.counts c.deliver_report.ensures.cause
    c.in-Ok.ensures.cause
    (λ files e. reported_ok _ _ (rw c.is_some.ensures at (c.in-Ok.ensures.outcome files e)))
    (λ files e. rw c.is_some.ensures at (c.in-Ok.ensures.asked files e))

pub returns-in-Err-Refused : goal.returns-in-Err-Refused
returns-in-Err-Refused g c =
    let job = named.Validate c.args.asked c.args.views c.args.manifests in
    refusal_settled g.K.ViewKeeper.pairs g.K.ViewKeeper.faults
    job _ c.deliver_refusal.result _ _ _ c.in-Err-Refused.refusal
    c.deliver_refusal.ensures
    (rw c.in-Err-Refused.field-0-is at c.in-Err-Refused.ensures.cause)
    (λ files e. reported_err _ _ (rw (c.in-Err-Refused.field-0-is, c.is_some.ensures) at (c.in-Err-Refused.ensures.outcome files e)))
    (λ files e. rw (c.in-Err-Refused.field-0-is, c.is_some.ensures) at (c.in-Err-Refused.ensures.asked files e))

pub returns-in-Err-ReadFault : goal.returns-in-Err-ReadFault
returns-in-Err-ReadFault g c =
    let job = named.Validate c.args.asked c.args.views c.args.manifests in
    fault_settled g.K.ViewKeeper.pairs g.K.ViewKeeper.faults job _ _ _ _
    (rw c.in-Err-ReadFault.field-0-is at c.in-Err-ReadFault.ensures.cause)
    (λ files e. rw (c.in-Err-ReadFault.field-0-is, c.is_some.ensures) at (c.in-Err-ReadFault.ensures.asked files e))

pub returns : goal.returns
returns g c =
    let job = named.Validate c.args.asked c.args.views c.args.manifests in
    memory_settled g.K.ViewKeeper.pairs g.K.ViewKeeper.faults job _ _ _ _
    (rw c.in-Err-Memory.field-0-is at c.in-Err-Memory.ensures.cause)
    (λ files e. rw (c.in-Err-Memory.field-0-is, c.is_some.ensures) at (c.in-Err-Memory.ensures.asked files e))
