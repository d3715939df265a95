-- Signature validation and reference validation as tests of octets: XML Signature 1.1, section 3.2.
use Rattle.std.specs.Prelude.{ℕ, ◌*◌, ◌&&◌, nat_le, List, Bool, bytes_eq, Option, Some, None}
use Rattle.sig_base.specs.declared.method.DigestMethod.{DigestMethod}
use Rattle.sig_base.specs.declared.method.MacMethod.{MacMethod}
use Rattle.digests_hmac.specs.Hash.{hash, hash_of, digest_size, hmac_of, kept}

-- the bits of an HMAC that the signature value has: those that HMACOutputLength gives, else all (section 4.4.2)
abbrev pub value_bits : MacMethod → Option ℕ → ℕ
value_bits mac None = 8 * digest_size (hash_of mac)
value_bits mac (Some bits) = bits

-- so many bits are enough: 80, and half of the output (section 4.4.2)
abbrev pub is_long_enough : MacMethod → ℕ → Bool
is_long_enough mac bits = nat_le 80 bits && nat_le (8 * digest_size (hash_of mac)) (2 * bits)

-- the value is the first bits of the HMAC over the octets, neither more nor less of them (section 3.2.2, RFC 2104 section 5)
abbrev pub is_mac_value : MacMethod → (bits : ℕ) → (key octets value : List ℕ) → Bool
is_mac_value mac bits key octets value = bytes_eq value (kept (hmac_of mac key octets) bits)

-- signature validation: enough bits, and they are those of the HMAC
abbrev pub signature_holds : MacMethod → Option ℕ → (key octets value : List ℕ) → Bool
signature_holds mac bits key octets value =
    is_long_enough mac (value_bits mac bits) && is_mac_value mac (value_bits mac bits) key octets value

-- reference validation of one Reference: the digest of its view is the value (section 3.2.1)
abbrev pub digest_holds : DigestMethod → (view value : List ℕ) → Bool
digest_holds method view value = bytes_eq (hash method view) value
