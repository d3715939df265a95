use Rattle.digests_hmac.specs.Keys.{keys_of}
use Rattle.xmldsig.proofs.Stopped.{keys_calm, keys_stopped}
use Rattle.xmldsig.proofs.files.read_keys.Goals as goal

pub returns-in-Err-clause-outcome : goal.returns-in-Err-clause-outcome
returns-in-Err-clause-outcome c = rw c.by_keys.ensures (keys_stopped (keys_of c.args.bytes.now) c.in-Err.fault c.in-Err.ensures)

pub returns-in-Err-clause-no_fault : goal.returns-in-Err-clause-no_fault
returns-in-Err-clause-no_fault c = rw c.by_keys.ensures (keys_calm _ c.in-Err.fault)
