use Rattle.dsig_fields.proofs.VerdictLaws.{verdicts_one}
use Rattle.dsig_fields.proofs.laws.verdicts_are_one.Goals as goal

pub returns : goal.returns
returns c = verdicts_one
