use Rattle.std.proofs.Common.{arith}
use Rattle.digests_hmac.proofs.Blocks.{key_block-long, key_block-short}
use Rattle.digests_hmac.proofs.mac.key_block.Goals as goal

pub returns-then-block_size-key : goal.returns-then-block_size-key
returns-then-block_size-key c =
    let small = c.bytes.ensures.size.1 in
    let small_hash = rw c.digest-hashed.ensures.value at small in
    rw (c.zero_filled.ensures, c.bytes.ensures.value, c.digest-hashed.ensures.value)
    (key_block-long c.args.method c.args.key.now (omega (arith, c.block_size.ensures.size)) (omega (arith, c.block_size.ensures.size, small_hash)) (omega (arith, c.block_size.ensures.size)))

pub returns : goal.returns
returns c =
    rw c.zero_filled-2.ensures
    (key_block-short c.args.method c.args.key.now (omega (arith, c.block_size.ensures.size)) (omega (arith, c.block_size.ensures.size)))
