-- What slices in options stand for.
use Rattle.std.specs.Prelude.{ℕ, ◌+◌, ◌++◌, List, [], length, Option, Some, None, option_map}
use Rattle.std.specs.Borrow.{Bor}
use Rattle.c14n_bases.specs.Join as join
use Rattle.c14n_bases.specs.Join.{segments, scheme_octets, authority_octets, query_octets, put_together, cleaned, is_open}
use Rattle.c14n_bases.specs.declared.cut.Parts.{Parts}
use Rattle.c14n_bases.specs.declared.value.Value.{Value}

abbrev pub octets_of : Option (Bor (List ℕ)) → Option (List ℕ)
octets_of o = option_map (λ (b : Bor (List ℕ)). b.now) o

-- the segments that are left of a path, and none behind its end
abbrev pub segments_left : Option (List ℕ) → List (List ℕ)
segments_left None = []
segments_left (Some path) = segments path

-- a bound of how many these are
abbrev pub most_left : Option (List ℕ) → ℕ
most_left None = 0
most_left (Some path) = length path + 1

-- the parts of a value, as octets
abbrev pub parts_of : Parts → join.Parts
parts_of p = record { scheme = octets_of p.scheme; authority = octets_of p.authority; path = p.path.now; query = octets_of p.query }

-- how many octets these are
abbrev pub parts_weight : join.Parts → ℕ
parts_weight p = length (scheme_octets p.scheme) + length (authority_octets p.authority) + length p.path + length (query_octets p.query)

-- the octets of a value whose path is not cleaned yet
abbrev pub value_octets : Value → List ℕ
value_octets v =
    put_together (octets_of v.scheme) (octets_of v.authority)
    (cleaned v.absolute (is_open v.second.now) (segments v.first.now ++ segments v.second.now)) (octets_of v.query)

-- how many these can be, but for four `/`
abbrev pub value_weight : Value → ℕ
value_weight v =
    length (scheme_octets (octets_of v.scheme)) + length (authority_octets (octets_of v.authority)) +
    (length v.first.now + length v.second.now)
    + length (query_octets (octets_of v.query))
