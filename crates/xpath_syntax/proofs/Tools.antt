-- Comparisons, and terminals in brackets.
use Rattle.std.proofs.Common.{◌≡◌, ℕ, ◌≤◌, ◌<◌, nat_le, true, false, List, [], ◌∷◌, ◌++◌, append_assoc, arith}
use Rattle.xpath_words.specs.declared.terminal.Terminal.{Terminal}
use Rattle.xpath_words.specs.declared.terminal.Terminal.TheVariants as t

pub le_true : (a b : ℕ) → a ≤ b → nat_le a b ≡ true
le_true a b h = grind arith

pub le_false : (a b : ℕ) → b < a → nat_le a b ≡ false
le_false a b h = grind arith

-- terminals, others in brackets, and the rest
pub bracketed : (a c rest : List Terminal) → (a ++ (t.OpenBracket ∷ (c ++ (t.CloseBracket ∷ [])))) ++ rest ≡ a ++ (t.OpenBracket ∷ (c ++ (t.CloseBracket ∷ rest)))
bracketed a c rest = simp append_assoc
