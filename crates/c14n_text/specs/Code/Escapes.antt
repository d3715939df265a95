use Rattle.std.specs.Prelude.{ℕ, List, Option, option_map}
use Rattle.std.specs.Borrow.{Bor}

-- what a reference in an option points to
abbrev pub option_bytes : Option (Bor (List ℕ)) → Option (List ℕ)
option_bytes o = option_map (λ (b : Bor (List ℕ)). b.now) o
