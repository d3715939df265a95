-- The range that has all members of a set, as the set grows.
use Rattle.std.proofs.Common.{◌≡◌, ℕ, ◌+◌, ◌<◌, ◌≤◌, ◌==◌, ◌||◌, Bool, false, List, ◌∙◌, arith, max, min}
use Rattle.std.proofs.lemmas.Bool.{ne_eqb, or_from}
use Rattle.node_sets.specs.Members.{has, Spanned}

-- the members that were before, and those that pass a test, which hold of no number outside a range
pub spanned_more : (old new : List Bool) (test : ℕ → Bool) (from until lowest end : ℕ) → Spanned old from until → ((k : ℕ) → k < lowest → test k ≡ false) → ((k : ℕ) → end ≤ k → test k ≡ false) → ((k : ℕ) → has new k ≡ (test k || has old k)) → Spanned new (min from lowest) (max until end)
spanned_more old new test from until lowest end s low high is = record {
  below = λ (k : ℕ) h. is k ∙ or_from (test k) (has old k) (low k (omega arith)) (s.below k (omega arith));
  behind = λ (k : ℕ) h. is k ∙ or_from (test k) (has old k) (high k (omega arith)) (s.behind k (omega arith));
}

-- one number
pub one_below : (i k : ℕ) → k < i → (k == i) ≡ false
one_below i k h = ne_eqb k i (λ e. omega arith)

pub one_behind : (i k : ℕ) → i + 1 ≤ k → (k == i) ≡ false
one_behind i k h = ne_eqb k i (λ e. omega arith)
