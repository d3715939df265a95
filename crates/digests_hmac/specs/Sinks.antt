-- What is seen of the sinks that end in a digest or an HMAC
use Rattle.std.specs.Prelude.{ℕ, List, ◌++◌, take}
use Rattle.digests_hmac.specs.Hash.{hash, block_size, inner_pad, xored, keyed_hash}
use Rattle.digests_hmac.specs.Hashers.{method_of, HoldsMessage}
use Rattle.digests_hmac.specs.declared.hasher.DigestSink.{DigestSink}
use Rattle.digests_hmac.specs.declared.mac.MacSink.{MacSink}

-- the sink has taken these octets
abbrev pub HasDigested : DigestSink → List ℕ → Type 0
HasDigested sink octets = HoldsMessage sink.hasher octets

-- the digest of these octets by the sink's method (FIPS 180-4 section 6)
abbrev pub digest_by : DigestSink → List ℕ → List ℕ
digest_by sink octets = hash (method_of sink.hasher) octets

-- the key of the sink as a block (RFC 2104 section 2)
abbrev pub block_of : MacSink → List ℕ
block_of sink = take (block_size (method_of sink.inner)) sink.block

-- the sink has taken these octets: its inner hash has taken the key's block, XORed, and them (RFC 2104 section 2)
abbrev pub HasAuthenticated : MacSink → List ℕ → Type 0
HasAuthenticated sink octets = HoldsMessage sink.inner (xored inner_pad (block_of sink) ++ octets)

-- the HMAC of these octets by the sink's method and key (RFC 2104 section 2)
abbrev pub mac_by : MacSink → List ℕ → List ℕ
mac_by sink octets = keyed_hash (method_of sink.inner) (block_of sink) octets
