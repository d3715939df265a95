use Rattle.std.proofs.Common.{ap, inl}
use Rattle.sig_base.specs.Outcomes.{with_cause}
use Rattle.sig_outside.specs.Told.{no_files}
use Rattle.signer.specs.Outcome.{outcome}
use Rattle.self_test.specs.Question.{question}
use Rattle.self_test.specs.declared.refusal.TestRefusal.TheVariants as refusal
use Rattle.self_test.proofs.Folders.{tells_nothing}
use Rattle.self_test.proofs.Refused.{sign_refused}
use Rattle.self_test.proofs.testing.signed.Goals as goal

pub returns-in-Ok-clause-outcome : goal.returns-in-Ok-clause-outcome
returns-in-Ok-clause-outcome c =
    ap (with_cause refusal.Sign) (rw c.requires at (c.in-Ok.ensures.outcome no_files (inl (tells_nothing _ c.new-folder.ensures))))

pub returns-in-Ok-clause-valid : goal.returns-in-Ok-clause-valid
returns-in-Ok-clause-valid c = rw c.requires at (c.in-Ok.ensures.valid no_files (inl (tells_nothing _ c.new-folder.ensures)))

pub returns-clause-outcome : goal.returns-clause-outcome
returns-clause-outcome c =
    rw c.by_signing.ensures
    (sign_refused (outcome c.args.template.now question no_files) c.in-Err.cause
    (rw c.requires at (c.in-Err.ensures.outcome no_files (inl (tells_nothing _ c.new-folder.ensures)))))
