use Rattle.xml_read.proofs.SpelledLaws.{tree_sound, tree_complete}
use Rattle.xml_read.proofs.laws.trees_are_spelled.Goals as goal

pub returns : goal.returns
returns c = λ octets tree. (tree_sound octets tree, tree_complete octets tree)
