-- What is seen of a sink that counts up to the limit of a canonical form.
use Rattle.std.specs.Prelude.{◌≡◌, ℕ, ◌<◌, ◌-◌, ◌^◌, List, length, min}
use Rattle.c14n_methods.specs.Limits.{octet_limit}

-- the count is the length of what was put, and there was a refusal only above the limit
abbrev pub Counts : ℕ × ℕ → List ℕ → Type 0
Counts s octets = (s.0 ≡ min (length octets) (2 ^ 64 - 1)) × (0 < s.1 → octet_limit < s.0)
