-- The PrefixList of an InclusiveNamespaces element: Exclusive XML Canonicalization 1.0, section 3.
use Rattle.std.specs.Prelude.{ℕ, nat_lt, List, length, map, filter}
use Rattle.std.specs.Str.{chars}
use Rattle.std.specs.List.{slice_split}
use Rattle.sig_base.specs.Space.{is_space}

-- what stands between white space: the names of a list, as characters
unfoldable pub names_in : List ℕ → List (List ℕ)
names_in text = map chars (filter (λ name. nat_lt 0 (length name)) (slice_split is_space text))
