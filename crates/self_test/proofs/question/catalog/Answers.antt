use Rattle.std.proofs.Common.{◌∙◌, sym}
use Rattle.self_test.proofs.Values.{catalog_is}
use Rattle.self_test.proofs.question.catalog.Goals as goal

pub returns-in-Ok : goal.returns-in-Ok
returns-in-Ok c = let e = sym c.in-Ok.ensures ∙ catalog_is in cc
