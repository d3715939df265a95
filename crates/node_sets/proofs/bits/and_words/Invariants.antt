use Rattle.std.proofs.Common.{◌≡◌, ℕ, ◌<◌, ◌≤◌, bit_and, get_or}
use Rattle.node_sets.proofs.bits.and_words.Given as goal

-- the words below k have the bits of both, and the others are as they were
abbrev pub invariant-loop-k : goal.invariant-loop-k
invariant-loop-k l = record {
  below : (q : ℕ) → q < l.k → get_or l.words q 0 ≡ bit_and (get_or l.fn.words q 0) (get_or l.others q 0);
  above : (q : ℕ) → l.k ≤ q → get_or l.words q 0 ≡ get_or l.fn.words q 0;
}
