use Rattle.std.proofs.Common.{◌+◌, sym}
use Rattle.transforms.specs.Code.Answers.{read_cause}
use Rattle.transforms.specs.Values.{OfOctets, origin_of}
use Rattle.transforms.proofs.ChainLaws.{as_document, left, unread}
use Rattle.transforms.proofs.Stops.{proceeds_as, refused_before}
use Rattle.transforms.proofs.chain.run_document.Goals as goal

pub returns : goal.returns
returns g c =
    let origin = origin_of c.args.doc.now c.args.signature in let steps = c.args.steps.now in let n = c.args.left.next in let octets = c.args.left.octets in
    let cause = c.in-Err.cause in
    let refuses = rw c.bytes.ensures at c.in-Err.ensures in
    rw c.read_cause.ensures
    (record { by = refused_before _ _ _ c.args.sink.now (left origin steps n (OfOctets octets)) (read_cause (n + 1) cause) (unread origin steps n octets cause c.requires.within c.requires.wants refuses) })

pub returns-in-Ok : goal.returns-in-Ok
returns-in-Ok g c =
    let origin = origin_of c.args.doc.now c.args.signature in let steps = c.args.steps.now in let n = c.args.left.next in let octets = c.args.left.octets in
    let is = rw c.bytes.ensures at c.in-Ok.ensures in
    let same = as_document origin steps n octets c.in-Ok.read c.requires.within c.requires.wants is in
    proceeds_as _ _ _ (sym same) c.run_read.ensures
