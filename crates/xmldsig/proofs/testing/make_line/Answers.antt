use Rattle.std.proofs.Common.{ap}
use Rattle.sig_base.specs.Outcomes.{with_cause}
use Rattle.self_test.specs.Outcome.{test_outcome}
use Rattle.xmldsig.specs.SelfTest.{test_cause}
use Rattle.xmldsig.proofs.Stopped.{test_calm, test_stopped}
use Rattle.xmldsig.proofs.testing.make_line.Goals as goal

pub returns-in-Ok-clause-outcome : goal.returns-in-Ok-clause-outcome
returns-in-Ok-clause-outcome c = ap (with_cause test_cause) c.in-Ok.ensures.outcome

pub returns-in-Err-clause-outcome : goal.returns-in-Err-clause-outcome
returns-in-Err-clause-outcome c =
    rw c.by_self_test.ensures (test_stopped (test_outcome c.args.paragraphs) c.in-Err.cause c.in-Err.ensures.outcome)

pub returns-in-Err-clause-no_fault : goal.returns-in-Err-clause-no_fault
returns-in-Err-clause-no_fault c = rw c.by_self_test.ensures (test_calm _ c.in-Err.cause)
