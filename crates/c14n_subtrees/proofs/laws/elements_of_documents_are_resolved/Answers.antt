use Rattle.c14n_subtrees.proofs.OfDocuments.{document_resolved}
use Rattle.c14n_subtrees.proofs.laws.elements_of_documents_are_resolved.Goals as goal

pub returns : goal.returns
returns c = document_resolved
