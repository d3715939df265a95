use Rattle.std.proofs.Common.{◌∙◌}
use Rattle.std.specs.Prelude.{codes, decimal}
use Rattle.self_test.specs.Document.{reference_count}
use Rattle.self_test.proofs.Pieces.{regroup_nine}
use Rattle.self_test.proofs.testing.line.Goals as goal

pub returns : goal.returns
returns c =
    rw c.reference_count-references.ensures at c.in_ok-format.ensures.ok
    ∙ regroup_nine (codes "selftest ") (decimal c.args.paragraphs) (codes " references ") (decimal (reference_count c.args.paragraphs))
    (codes " octets ") (decimal c.args.octets) (codes " bytes ") (decimal c.args.bytes) (codes " valid\n")
