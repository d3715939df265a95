-- What is seen of the arrays in which a digest stands
use Rattle.std.specs.Prelude.{ℕ, List, ◌≤◌}
use Rattle.digests_hmac.specs.declared.value.Bits.{Bits}
use Rattle.digests_hmac.specs.declared.value.Bits.TheVariants.{Bits160, Bits224, Bits256, Bits384, Bits512}

-- the octets, whatever their number
abbrev pub octets_of : Bits → List ℕ
octets_of (Bits160 octets) = octets
octets_of (Bits224 octets) = octets
octets_of (Bits256 octets) = octets
octets_of (Bits384 octets) = octets
octets_of (Bits512 octets) = octets

-- the number of octets of a digest by any of the methods (FIPS 180-4 section 1, figure 1)
abbrev pub IsDigestSize : ℕ → Type 0
IsDigestSize n = (20 ≤ n) × (n ≤ 64)
