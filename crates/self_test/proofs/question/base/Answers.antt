use Rattle.std.proofs.Common.{◌∙◌, sym}
use Rattle.self_test.proofs.Values.{base_is}
use Rattle.self_test.proofs.question.base.Goals as goal

pub returns-in-Ok : goal.returns-in-Ok
returns-in-Ok c = let e = sym c.in-Ok.ensures ∙ base_is in cc
