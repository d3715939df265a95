-- Rows in document order.
use Rattle.std.specs.Prelude.{ℕ, suc, ◌<◌, ◌≤◌, List, [], ◌∷◌}

-- each number is at least that one, less than the next, and less than n
abbrev pub Ascends : ℕ → ℕ → List ℕ → Type 0
Ascends low n [] = Unit {0}
Ascends low n (y ∷ ys) = (low ≤ y) × (y < n) × Ascends (suc y) n ys
