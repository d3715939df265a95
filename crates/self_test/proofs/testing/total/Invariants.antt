use Rattle.std.proofs.Common.{◌≡◌, ◌+◌, drop, sum}
use Rattle.self_test.proofs.testing.total.Given as goal

abbrev pub invariant-loop-length : goal.invariant-loop-length
invariant-loop-length l = l.total + sum (drop l.length-index l.length-items) ≡ sum l.length-items
