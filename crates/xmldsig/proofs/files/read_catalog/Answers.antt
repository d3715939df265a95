use Rattle.uri_refs.specs.Catalogs.{catalog_of}
use Rattle.xmldsig.proofs.Stopped.{catalog_calm, catalog_stopped}
use Rattle.xmldsig.proofs.files.read_catalog.Goals as goal

pub returns-in-Err-clause-outcome : goal.returns-in-Err-clause-outcome
returns-in-Err-clause-outcome c = rw c.by_catalog.ensures (catalog_stopped (catalog_of c.args.bytes.now) c.in-Err.fault c.in-Err.ensures)

pub returns-in-Err-clause-no_fault : goal.returns-in-Err-clause-no_fault
returns-in-Err-clause-no_fault c = rw c.by_catalog.ensures (catalog_calm _ c.in-Err.fault)
