use Rattle.std.proofs.Common.{◌≡◌, take, length}
use Rattle.digests_hmac.specs.Hash.{xored}
use Rattle.digests_hmac.proofs.mac.xored_block.Given as goal

abbrev pub invariant-loop-i : goal.invariant-loop-i
invariant-loop-i l = record { so_far : take l.i l.changed ≡ xored l.pad (take l.i l.block); size : length l.changed ≡ 128 }
