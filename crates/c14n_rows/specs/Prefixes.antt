-- The names of a PrefixList, put in order.
use Rattle.std.specs.Prelude.{◌≡◌, ℕ, Bool, List, map, encode_utf8_all}
use Rattle.std.specs.List.{list_any}
use Rattle.std.specs.Str.{bytes_eq}
use Rattle.std.specs.Cmp.Lexicographic.{slice_cmp}
use Rattle.std.specs.Ordering.{nat_cmp}
use Rattle.std.specs.BTreeSet.{BTreeSet, contains_by}
use Rattle.std.specs.Borrow.{Bor}

-- whether a set of texts has a name
abbrev pub has_name : List ℕ → BTreeSet (Bor (List ℕ)) → Bool
has_name name names = contains_by (λ k. slice_cmp nat_cmp name k.now) names

-- a set has the octets of each name of a PrefixList, and no others
pub record HasNames (prefixes : List (List ℕ)) (names : BTreeSet (Bor (List ℕ))) : Type 0 where
  pub each : (name : List ℕ) → has_name name names ≡ list_any (bytes_eq name) (map encode_utf8_all prefixes)
