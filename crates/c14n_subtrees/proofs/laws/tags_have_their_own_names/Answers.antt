use Rattle.c14n_subtrees.proofs.OwnNames.{own_names}
use Rattle.c14n_subtrees.proofs.laws.tags_have_their_own_names.Goals as goal

pub returns : goal.returns
returns c = own_names
