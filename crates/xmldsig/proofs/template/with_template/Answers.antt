use Rattle.signer.specs.Template.{template_outcome}
use Rattle.xmldsig.proofs.Stopped.{template_calm, template_stopped}
use Rattle.xmldsig.proofs.template.with_template.Goals as goal

pub returns-in-Err-clause-outcome : goal.returns-in-Err-clause-outcome
returns-in-Err-clause-outcome c =
    rw c.by_template.ensures (template_stopped (template_outcome c.args.bytes.now c.args.options.now) c.in-Err.cause c.in-Err.ensures)

pub returns-in-Err-clause-no_fault : goal.returns-in-Err-clause-no_fault
returns-in-Err-clause-no_fault c = rw c.by_template.ensures (template_calm _ c.in-Err.cause)
