use Rattle.std.proofs.Common.{◌≡◌, ℕ, ◌&&◌, not, nat_lt, nat_le, length}
use Rattle.node_sets.specs.Members.{has}
use Rattle.node_sets.proofs.bits.Bits.remove_range.Given as goal

-- the numbers from `from` to before i are no members now
abbrev pub invariant-loop-i : goal.invariant-loop-i
invariant-loop-i l = record {
  size : length l.self ≡ length l.fn.self;
  members : (k : ℕ) → has l.self k ≡ (has l.fn.self k && not (nat_le l.from k && nat_lt k l.i));
}
