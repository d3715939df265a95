use Rattle.std.proofs.Common.{ap}
use Rattle.sig_base.specs.Outcomes.{with_cause}
use Rattle.xml_read.specs.ReadOutcome.{read_outcome}
use Rattle.self_test.specs.Outcome.{rows_validated}
use Rattle.self_test.specs.declared.refusal.TestRefusal.TheVariants as refusal
use Rattle.self_test.proofs.Refused.{gives_then, read_refused, refused_first}
use Rattle.self_test.proofs.testing.validated.Goals as goal

pub returns-in-Ok-clause-outcome : goal.returns-in-Ok-clause-outcome
returns-in-Ok-clause-outcome c =
    gives_then (λ report. report) c.rows_validated.result (with_cause refusal.Read (read_outcome c.args.made.now)) c.in-Ok.doc rows_validated
    (ap (with_cause refusal.Read) c.in-Ok.ensures) c.rows_validated.ensures.outcome

pub returns-clause-outcome : goal.returns-clause-outcome
returns-clause-outcome c =
    refused_first c.by_reader.result (with_cause refusal.Read (read_outcome c.args.made.now)) rows_validated
    (rw c.by_reader.ensures (read_refused (read_outcome c.args.made.now) c.in-Err.cause c.in-Err.ensures))
