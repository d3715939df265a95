use Rattle.xml_read.proofs.SpelledLaws.{spells_of, spells_read}
use Rattle.xml_read.proofs.laws.documents_are_spelled.Goals as goal

pub returns : goal.returns
returns c = record { read = spells_of; outcome = spells_read }
