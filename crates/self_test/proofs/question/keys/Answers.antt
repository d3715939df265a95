use Rattle.std.proofs.Common.{◌∙◌, sym}
use Rattle.self_test.proofs.Values.{keys_are}
use Rattle.self_test.proofs.question.keys.Goals as goal

pub returns-in-Ok : goal.returns-in-Ok
returns-in-Ok c = let e = sym c.in-Ok.ensures ∙ keys_are in cc
