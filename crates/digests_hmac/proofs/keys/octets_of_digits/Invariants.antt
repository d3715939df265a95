use Rattle.std.proofs.Common.{◌≡◌, ◌*◌, ◌++◌, drop}
use Rattle.digests_hmac.specs.KeyLines as spec
use Rattle.digests_hmac.proofs.keys.octets_of_digits.Given as goal

abbrev pub invariant-loop-i : goal.invariant-loop-i
invariant-loop-i l = l.octets.items ++ spec.octets_of_digits (drop (2 * l.i) l.digits) ≡ spec.octets_of_digits l.digits
