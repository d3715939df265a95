use Rattle.std.proofs.Common.{◌∙◌}
use Rattle.std.specs.Prelude.{codes, decimal}
use Rattle.self_test.proofs.Pieces.{regroup_five}
use Rattle.self_test.proofs.document.paragraph.Goals as goal

pub returns : goal.returns
returns c =
    let number = decimal c.args.number in
    c.in_ok-format.ensures.ok ∙ regroup_five (codes "<p Id=\"p") number (codes "\">Paragraph ") number (codes ".</p>")
