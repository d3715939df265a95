-- The first number of a range that passes a test.
use Rattle.std.proofs.Common.{◌≡◌, ℕ, suc, ◌<◌, ◌≤◌, ◌-◌, ◌+◌, Bool, true, false, refl, arith}
use Rattle.std.specs.Prelude.{Some, None}
use Rattle.std.specs.List.{find, range_with_len}

pub found_here : (p : ℕ → Bool) (y end : ℕ) → y < end → p y ≡ true → find p (range_with_len y (end - y)) ≡ Some y
found_here p y end h e = let more : end - y ≡ suc (end - (y + 1)) = omega arith in rw (more, e) refl

pub found_later : (p : ℕ → Bool) (y end : ℕ) → y < end → p y ≡ false → find p (range_with_len (y + 1) (end - (y + 1))) ≡ find p (range_with_len y (end - y))
found_later p y end h e = let more : end - y ≡ suc (end - (y + 1)) = omega arith in rw (more, e) refl

pub found_none : (p : ℕ → Bool) (y end : ℕ) → end ≤ y → find p (range_with_len y (end - y)) ≡ None
found_none p y end h = let none : end - y ≡ 0 = omega arith in rw none refl
