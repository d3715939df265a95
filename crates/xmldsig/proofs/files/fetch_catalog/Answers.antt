use Rattle.std.proofs.Common.{refl}
use Rattle.xmldsig.proofs.FilesAnswer.{no_catalog}
use Rattle.xmldsig.proofs.Steps.{asks_nothing, counts_calm}
use Rattle.xmldsig.proofs.files.fetch_catalog.Goals as goal

pub returns-in-None-clause-outcome : goal.returns-in-None-clause-outcome
returns-in-None-clause-outcome g c = λ files e. rw c.in-None.is (rw no_catalog at c.read_catalog.ensures.outcome)

pub returns-in-None-clause-asked : goal.returns-in-None-clause-asked
returns-in-None-clause-asked g c = λ files e. rw c.in-None.is (asks_nothing c.read_catalog.result _)

pub returns-in-None-clause-cause : goal.returns-in-None-clause-cause
returns-in-None-clause-cause g c = counts_calm c.read_catalog.result _ _ c.read_catalog.ensures.no_fault refl
