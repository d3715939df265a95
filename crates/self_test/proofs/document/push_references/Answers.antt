use Rattle.std.proofs.Common.{◌∙◌, arith}
use Rattle.self_test.specs.Document.{reference}
use Rattle.self_test.proofs.Pieces.{pushed}
use Rattle.self_test.proofs.document.push_references.Goals as goal

pub loop-place-preserved : goal.loop-place-preserved
loop-place-preserved c = record {
  written = pushed reference c.loop-place.place _ _ _ _ c.loop-place.invariant.written c.in_ok-push_str.ensures.bytes
      (c.deref.ensures ∙ c.in_ok-reference.ensures);
  within = omega (arith, c.loop-place-test.true);
}
