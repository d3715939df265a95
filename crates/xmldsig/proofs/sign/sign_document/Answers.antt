use Rattle.std.proofs.Common.{inl, ap}
use Rattle.sig_base.specs.Outcomes.{with_cause}
use Rattle.dsig_fields.specs.Keys.{question_of}
use Rattle.signer.specs.Outcome.{outcome}
use Rattle.xmldsig.specs.Sign.{sign_cause}
use Rattle.xmldsig.proofs.Stopped.{sign_asks, sign_counts, sign_stopped}
use Rattle.xmldsig.proofs.sign.sign_document.Goals as goal

pub returns-in-Ok-clause-outcome : goal.returns-in-Ok-clause-outcome
returns-in-Ok-clause-outcome g c = λ files e. ap (with_cause sign_cause) (c.in-Ok.ensures.outcome files (inl e))

pub returns-in-Ok-clause-asked : goal.returns-in-Ok-clause-asked
returns-in-Ok-clause-asked g c = λ files e. c.in-Ok.ensures.asked files e

pub returns-in-Err-clause-outcome : goal.returns-in-Err-clause-outcome
returns-in-Err-clause-outcome g c = λ files e.
    rw c.by_signing.ensures
    (sign_stopped (outcome c.args.bytes.now (question_of c.args.question.now) files) c.in-Err.cause (c.in-Err.ensures.outcome files (inl e)))

pub returns-in-Err-clause-asked : goal.returns-in-Err-clause-asked
returns-in-Err-clause-asked g c = λ files e. rw c.by_signing.ensures (sign_asks c.in-Err.cause _ _ _ (c.in-Err.ensures.asked files e))

pub returns-in-Err-clause-cause : goal.returns-in-Err-clause-cause
returns-in-Err-clause-cause g c = rw c.by_signing.ensures (sign_counts c.in-Err.cause _ _ c.in-Err.ensures.faults)
