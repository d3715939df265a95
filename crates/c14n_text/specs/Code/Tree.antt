use Rattle.std.specs.Prelude.{◌≡◌, ℕ, ◌+◌, ◌-◌, ◌<◌, ◌≤◌}

-- a tree whose nodes are the numbers below size, in document order: 0 is the root, each other node has a parent before
-- it, and `last` is the last node below a node or the node itself
pub record IsTree (size : ℕ) (parent last : ℕ → ℕ) : Type 0 where
  pub has_root : 0 < size
  pub whole : last 0 + 1 ≡ size
  pub above : (i : ℕ) → 0 < i → i < size → parent i < i
  pub reaches : (i : ℕ) → i < size → i ≤ last i
  pub in_size : (i : ℕ) → i < size → last i < size
  pub nested : (i : ℕ) → 0 < i → i < size → last i ≤ last (parent i)
  pub below : (x i : ℕ) → x < i → i < size → i ≤ last x → x ≤ parent i
