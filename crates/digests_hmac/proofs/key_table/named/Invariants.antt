use Rattle.std.proofs.Common.{◌≡◌, drop}
use Rattle.digests_hmac.specs.Keys as spec
use Rattle.digests_hmac.proofs.key_table.named.Given as goal

abbrev pub invariant-loop-key : goal.invariant-loop-key
invariant-loop-key l = spec.named l.name (drop l.key-index l.keys) ≡ spec.named l.name l.keys
