-- The n-th of the numbers that pass a test, as a search in rising order goes on.
use Rattle.std.proofs.Common.{◌≡◌, ℕ, suc, ◌<◌, ◌+◌, Bool, true, false, Some, refl}
use Rattle.std.specs.Prelude.{slice_get}
use Rattle.xml_doc.specs.Searches.{passing}
use Rattle.xml_doc.proofs.Numbers.{passing-first, passing_past}

module _ (p : ℕ → Bool) (y n : ℕ) (within : y < n) where
  pub wanted_found : p y ≡ true → slice_get (passing p y n) 0 ≡ Some y
  wanted_found t = rw (passing-first p y n within t) refl

  pub wanted_behind : (k : ℕ) → p y ≡ true → slice_get (passing p y n) (suc k) ≡ slice_get (passing p (y + 1) n) k
  wanted_behind k t = rw (passing-first p y n within t) refl

  pub wanted_past : (k : ℕ) → p y ≡ false → slice_get (passing p y n) k ≡ slice_get (passing p (y + 1) n) k
  wanted_past k t = rw (passing_past p y n within t) refl
