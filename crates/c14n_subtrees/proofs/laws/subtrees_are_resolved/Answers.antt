use Rattle.c14n_subtrees.proofs.Resolves.{tree_resolves}
use Rattle.c14n_subtrees.proofs.laws.subtrees_are_resolved.Goals as goal

pub returns : goal.returns
returns c = tree_resolves
