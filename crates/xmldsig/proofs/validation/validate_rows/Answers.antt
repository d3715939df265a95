use Rattle.std.proofs.Common.{inl, ap}
use Rattle.dsig_fields.specs.Keys.{question_of}
use Rattle.transforms.specs.Outcome.{outcome}
use Rattle.sig_base.specs.Outcomes.{with_cause}
use Rattle.xmldsig.specs.declared.ending.Refusal.TheVariants as refusal
use Rattle.xmldsig.proofs.Stopped.{validate_asks, validate_counts, validate_stopped}
use Rattle.xmldsig.proofs.validation.validate_rows.Goals as goal

pub returns-in-Ok-clause-outcome : goal.returns-in-Ok-clause-outcome
returns-in-Ok-clause-outcome g c = λ files e. ap (with_cause refusal.Validate) (c.in-Ok.ensures.outcome files (inl e))

pub returns-in-Ok-clause-asked : goal.returns-in-Ok-clause-asked
returns-in-Ok-clause-asked g c = λ files e. c.in-Ok.ensures.asked files e

pub returns-in-Err-clause-outcome : goal.returns-in-Err-clause-outcome
returns-in-Err-clause-outcome g c = λ files e.
    rw c.by_signature.ensures
    (validate_stopped (outcome c.args.doc.now (question_of c.args.question.now) files) c.in-Err.cause (c.in-Err.ensures.outcome files (inl e)))

pub returns-in-Err-clause-asked : goal.returns-in-Err-clause-asked
returns-in-Err-clause-asked g c = λ files e. rw c.by_signature.ensures (validate_asks c.in-Err.cause _ _ _ (c.in-Err.ensures.asked files e))

pub returns-in-Err-clause-cause : goal.returns-in-Err-clause-cause
returns-in-Err-clause-cause g c = rw c.by_signature.ensures (validate_counts c.in-Err.cause _ _ c.in-Err.ensures.faults)
