use Rattle.std.proofs.Common.{rules, ◌≡◌}
use Rattle.digests_hmac.specs.Hash.{hmac_of}
use Rattle.digests_hmac.proofs.Lengths.{length-hmac_of}
use Rattle.digests_hmac.proofs.mac.hmac.Goals as goal

pub returns-clause-size : goal.returns-clause-size
returns-clause-size c =
    let value : c.finish.result ≡ hmac_of c.args.method c.args.key.now c.args.message.now = search rules in
    rw value (length-hmac_of c.args.method c.args.key.now c.args.message.now)
