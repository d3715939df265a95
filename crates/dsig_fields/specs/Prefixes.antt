-- The PrefixList of an InclusiveNamespaces element: Exclusive XML Canonicalization 1.0, section 3.
use Rattle.std.specs.Prelude.{ℕ, List, [], Option, Some, None}
use Rattle.sig_base.specs.Prefixes.{names_in}

-- of no PrefixList none
abbrev pub names_in_list : Option (List ℕ) → List (List ℕ)
names_in_list None = []
names_in_list (Some text) = names_in text
