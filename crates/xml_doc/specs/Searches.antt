-- What the code that walks over rows says of the row numbers that pass a test.
use Rattle.std.specs.Prelude.{◌≡◌, ℕ, ◌<◌, ◌≤◌, ◌-◌, Bool, true, false, List}
use Rattle.std.specs.List.{filter, range_with_len}

-- the numbers from a to before b that pass, in rising order
abbrev pub passing : (ℕ → Bool) → ℕ → ℕ → List ℕ
passing p a b = filter p (range_with_len a (b - a))

-- none of the numbers from a to before b passes
abbrev pub NonePass : (ℕ → Bool) → ℕ → ℕ → Type 0
NonePass p a b = (z : ℕ) → a ≤ z → z < b → p z ≡ false

-- y is the first of the numbers from a to before b that pass
pub record IsFirst (p : ℕ → Bool) (a b y : ℕ) : Type 0 where
  pub from : a ≤ y
  pub until : y < b
  pub passes : p y ≡ true
  pub none_before : NonePass p a y

-- y is the last of the numbers from a to before b that pass
pub record IsLast (p : ℕ → Bool) (a b y : ℕ) : Type 0 where
  pub from : a ≤ y
  pub until : y < b
  pub passes : p y ≡ true
  pub none_behind : (z : ℕ) → y < z → z < b → p z ≡ false
