-- Texts that are not the same.
use Rattle.std.proofs.Common.{◌≡◌, ℕ, List, false}
use Rattle.std.specs.Str.{bytes_eq}
use Rattle.std.proofs.lemmas.Bool.{false_from_ne_true}
use Rattle.std.proofs.lemmas.Slice.Eq.{bytes_eq-Decides}

pub differ : (a b : List ℕ) → (a ≡ b → ⊥) → bytes_eq a b ≡ false
differ a b n = false_from_ne_true (bytes_eq a b) (λ e. n ((bytes_eq-Decides a b).0 e))
