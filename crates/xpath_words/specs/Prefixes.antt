-- The prefixes in scope of an expression, each with the namespace name for which it stands (XPath 1.0 §1).
use Rattle.std.specs.Prelude.{ℕ, List, Option, find, option_map, bytes_eq}
use denote.Ref.{Bor}

-- a prefix and a namespace name, as UTF-8 octets
abbrev pub Pair : Type 0
Pair = List ℕ × List ℕ

-- two texts behind references
abbrev pub pair_of : Bor (List ℕ) × Bor (List ℕ) → Pair
pair_of p = (p.0.now, p.1.now)

-- the namespace name in the first pair of the prefix
unfoldable pub namespace_of : List ℕ → List Pair → Option (List ℕ)
namespace_of prefix pairs = option_map (λ (p : Pair). p.1) (find (λ (p : Pair). bytes_eq p.0 prefix) pairs)
