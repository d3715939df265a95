use Rattle.std.proofs.Common.{ap, inl}
use Rattle.sig_base.specs.Outcomes.{with_cause}
use Rattle.sig_outside.specs.Told.{no_files}
use Rattle.dsig_fields.specs.Keys.{question_of}
use Rattle.transforms.specs.Outcome.{outcome}
use Rattle.self_test.specs.Question.{question}
use Rattle.self_test.specs.declared.refusal.TestRefusal.TheVariants as refusal
use Rattle.self_test.proofs.Folders.{tells_nothing}
use Rattle.self_test.proofs.Lines.{few_octets}
use Rattle.self_test.proofs.Refused.{validate_refused}
use Rattle.self_test.proofs.testing.rows_validated.Goals as goal

pub returns-in-Ok-clause-outcome : goal.returns-in-Ok-clause-outcome
returns-in-Ok-clause-outcome c =
    ap (with_cause refusal.Validate) (rw c.requires at (c.in-Ok.ensures.outcome no_files (inl (tells_nothing _ c.new-folder.ensures))))

pub returns-in-Ok-clause-few : goal.returns-in-Ok-clause-few
returns-in-Ok-clause-few c = few_octets c.args.doc.now (question_of c.args.question.now) c.in-Ok.report c.in-Ok.ensures.reached

pub returns-clause-outcome : goal.returns-clause-outcome
returns-clause-outcome c =
    rw c.by_validation.ensures
    (validate_refused (outcome c.args.doc.now question no_files) c.in-Err.cause
    (rw c.requires at (c.in-Err.ensures.outcome no_files (inl (tells_nothing _ c.new-folder.ensures)))))
