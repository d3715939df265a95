use Rattle.c14n_subtrees.proofs.RowsNamed.{document_named}
use Rattle.c14n_subtrees.proofs.laws.documents_are_named.Goals as goal

pub returns : goal.returns
returns c = document_named
