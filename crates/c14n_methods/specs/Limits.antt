-- The limit of a canonical form, where its user limits it.
use Rattle.std.specs.Prelude.{ℕ, Bool, List, length, nat_le, Option, Some, None, if◌then◌else◌}

-- the octets that one canonical form may have: this project's limit
abbrev pub octet_limit : ℕ
octet_limit = 33554432

abbrev pub is_within : List ℕ → Bool
is_within octets = nat_le (length octets) octet_limit

-- the octets, where they are within the limit
abbrev pub form_within : List ℕ → Option (List ℕ)
form_within octets = if is_within octets then Some octets else None
