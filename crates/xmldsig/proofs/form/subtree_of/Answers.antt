use Rattle.transforms.proofs.StartLaws.{bearer_within}
use Rattle.std.proofs.Common.{sym}
use Rattle.xmldsig.proofs.form.subtree_of.Goals as goal

pub subtree-requires : goal.subtree-requires
subtree-requires c = bearer_within c.args.doc.now c.as_str.result.now c.in-One.element (sym c.in-One.ensures)
