use Rattle.std.proofs.Common.{ℕ, sym}
use Rattle.std.specs.Prelude.{bit_xor}
use Rattle.std.proofs.lemmas.List.{take-map}
use Rattle.digests_hmac.specs.Hash as spec
use Rattle.digests_hmac.proofs.mac.xored_hasher.Goals as goal

pub returns-clause-holds : goal.returns-clause-holds
returns-clause-holds c =
    let held = c.update.ensures.holds _ c.new-hasher.ensures.holds in
    rw (sym (take-map (λ (octet : ℕ). bit_xor octet c.args.pad) (spec.block_size c.args.method) c.args.block.now))
    (rw (c.block_size.ensures.size, c.xored_block-changed.ensures) at held)
