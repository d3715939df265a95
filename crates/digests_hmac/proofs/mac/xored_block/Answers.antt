use Rattle.std.proofs.Common.{rules, arith, ◌≡◌, length}
use Rattle.std.proofs.lemmas.Grind.{common_steps}
use Rattle.digests_hmac.proofs.Blocks.{xored-step, xored-end}
use Rattle.digests_hmac.proofs.mac.xored_block.Goals as goal

pub loop-i-preserved : goal.loop-i-preserved
loop-i-preserved c =
    let size : length c.args.block.now ≡ 128 = search rules in
    record {
      so_far = xored-step c.args.pad c.args.block.now c.loop-i.changed c.loop-i.i (omega arith) (omega arith) c.loop-i.invariant.so_far;
      size = grind (arith, common_steps);
    }

pub returns : goal.returns
returns c =
    let size : length c.args.block.now ≡ 128 = search rules in
    xored-end c.args.pad c.args.block.now c.loop-i.changed c.loop-i.i (omega arith) (omega arith) c.loop-i.invariant.so_far
