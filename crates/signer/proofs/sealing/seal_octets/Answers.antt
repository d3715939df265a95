use Rattle.signer.proofs.SealLaws.{seal_read, seal_stops}
use Rattle.signer.proofs.sealing.seal_octets.Goals as goal

pub returns-in-Ok : goal.returns-in-Ok
returns-in-Ok c = seal_read c.args.octets.now c.in-Ok.doc c.args.fields.now c.args.key.now c.in_ok-seal_document-in-Ok.field-0 c.in-Ok.ensures c.in_ok-seal_document-in-Ok.ensures

pub returns : goal.returns
returns c = rw c.filled_cause.ensures (seal_stops c.args.octets.now c.args.fields.now c.args.key.now c.in-Err.cause c.in-Err.ensures)
