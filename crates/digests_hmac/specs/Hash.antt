-- Digests (FIPS 180-4) and HMAC (RFC 2104) as functions on lists of octets
use Rattle.std.specs.Prelude.{ℕ, ◌-◌, nat_lt, if◌then◌else◌, List, ◌++◌, ◌/◌, length, take, replicate, map, bit_xor}
use Rattle.sha1.specs.Sha1.{sha1}
use Rattle.sha2.specs.Sha256.{sha224, sha256}
use Rattle.sha2.specs.Sha512.{sha384, sha512}
use Rattle.sig_base.specs.declared.DigestMethod.{DigestMethod}
use Rattle.sig_base.specs.declared.DigestMethod.TheVariants.{Sha1, Sha224, Sha256, Sha384, Sha512}
use Rattle.sig_base.specs.declared.MacMethod.{MacMethod}
use Rattle.sig_base.specs.declared.MacMethod.TheVariants.{HmacSha1, HmacSha224, HmacSha256, HmacSha384, HmacSha512}

-- the digest of a message (FIPS 180-4 section 6)
abbrev pub hash : DigestMethod → List ℕ → List ℕ
hash Sha1 message = sha1 message
hash Sha224 message = sha224 message
hash Sha256 message = sha256 message
hash Sha384 message = sha384 message
hash Sha512 message = sha512 message

-- the octets of a block of the message (FIPS 180-4 section 1, figure 1)
abbrev pub block_size : DigestMethod → ℕ
block_size Sha1 = 64
block_size Sha224 = 64
block_size Sha256 = 64
block_size Sha384 = 128
block_size Sha512 = 128

-- the octets of a digest (FIPS 180-4 section 1, figure 1)
abbrev pub digest_size : DigestMethod → ℕ
digest_size Sha1 = 20
digest_size Sha224 = 28
digest_size Sha256 = 32
digest_size Sha384 = 48
digest_size Sha512 = 64

-- the digest method that an HMAC is built on (XML Signature 1.1 section 6.3.1)
abbrev pub hash_of : MacMethod → DigestMethod
hash_of HmacSha1 = Sha1
hash_of HmacSha224 = Sha224
hash_of HmacSha256 = Sha256
hash_of HmacSha384 = Sha384
hash_of HmacSha512 = Sha512

-- the octets with zeros behind them up to a size (RFC 2104 section 2, step 1)
abbrev pub zero_filled : ℕ → List ℕ → List ℕ
zero_filled size octets = octets ++ replicate (size - length octets) 0

-- the key as one block: a key longer than a block is hashed first (RFC 2104 section 2)
abbrev pub key_block : DigestMethod → List ℕ → List ℕ
key_block method key =
    zero_filled (block_size method) (if nat_lt (block_size method) (length key) then hash method key else key)

-- the block, each octet of it XORed with the pad (RFC 2104 section 2, steps 2 and 5)
abbrev pub xored : ℕ → List ℕ → List ℕ
xored pad block = map (λ octet. bit_xor octet pad) block

-- ipad (RFC 2104 section 2)
abbrev pub inner_pad : ℕ
inner_pad = 0x36

-- opad (RFC 2104 section 2)
abbrev pub outer_pad : ℕ
outer_pad = 0x5c

-- H((block XOR opad) followed by H((block XOR ipad) followed by the message)) (RFC 2104 section 2)
abbrev pub keyed_hash : DigestMethod → List ℕ → List ℕ → List ℕ
keyed_hash method block message =
    hash method (xored outer_pad block ++ hash method (xored inner_pad block ++ message))

-- the HMAC of a message under a key (RFC 2104 section 2)
unfoldable pub hmac_of : MacMethod → List ℕ → List ℕ → List ℕ
hmac_of method key message = keyed_hash (hash_of method) (key_block (hash_of method) key) message

-- the first bits of a digest or an HMAC, a multiple of 8 of them (RFC 2104 section 5)
abbrev pub kept : List ℕ → ℕ → List ℕ
kept full bits = take (bits / 8) full
