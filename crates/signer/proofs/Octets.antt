-- Digests and HMACs are lists of octets.
use Rattle.std.proofs.Common.{ℕ, zero, suc, ◌<◌, ◌/◌, ◌%◌, ◌^◌, List, [], ◌∷◌, ◌++◌, take, arith}
use Rattle.std.specs.Int.{byte_at, bytes_high_first, to_be_bytes, w32, w64}
use Rattle.base64.specs.GeneralPurpose.{IsBytes}
use Rattle.sha1.specs.Sha1 as sha1
use Rattle.sha2.specs.Sha256 as sha256
use Rattle.sha2.specs.Sha512 as sha512
use Rattle.sig_base.specs.declared.method.DigestMethod.{DigestMethod}
use Rattle.sig_base.specs.declared.method.DigestMethod.TheVariants.{Sha1, Sha224, Sha256, Sha384, Sha512}
use Rattle.sig_base.specs.declared.method.MacMethod.{MacMethod}
use Rattle.digests_hmac.specs.Hash.{hash, hash_of, hmac_of, kept}

-- each of them is below 256
AreOctets : List ℕ → Type 0
AreOctets [] = Unit {0}
AreOctets (x ∷ xs) = (x < 256) × AreOctets xs

append_octets : (xs ys : List ℕ) → AreOctets xs → AreOctets ys → AreOctets (xs ++ ys)
unfolding AreOctets
append_octets [] ys h k = k
append_octets (x ∷ xs) ys h k = (h.0, append_octets xs ys h.1 k)

take_octets : (n : ℕ) (xs : List ℕ) → AreOctets xs → AreOctets (take n xs)
unfolding AreOctets
take_octets zero xs h = tt
take_octets (suc n) [] h = tt
take_octets (suc n) (x ∷ xs) h = (h.0, take_octets n xs h.1)

remainder_small : (n : ℕ) → n % 256 < 256
remainder_small n = omega arith

byte_small : (k n : ℕ) → byte_at k n < 256
byte_small zero n = remainder_small n
byte_small (suc k) n = remainder_small (n / 256 ^ suc k)

high_octets : (k n : ℕ) → AreOctets (bytes_high_first k n)
unfolding AreOctets
high_octets zero n = tt
high_octets (suc k) n = (byte_small k n, high_octets k n)

sha1_octets : (h : List ℕ) (n : ℕ) → AreOctets (sha1.digest_bytes h n)
unfolding AreOctets sha1.digest_bytes
sha1_octets h zero = tt
sha1_octets h (suc n) = append_octets (sha1.digest_bytes h n) (to_be_bytes w32 _) (sha1_octets h n) (high_octets 4 _)

sha256_octets : (h : List ℕ) (n : ℕ) → AreOctets (sha256.digest_bytes h n)
unfolding AreOctets sha256.digest_bytes
sha256_octets h zero = tt
sha256_octets h (suc n) = append_octets (sha256.digest_bytes h n) (to_be_bytes w32 _) (sha256_octets h n) (high_octets 4 _)

sha512_octets : (h : List ℕ) (n : ℕ) → AreOctets (sha512.digest_bytes h n)
unfolding AreOctets sha512.digest_bytes
sha512_octets h zero = tt
sha512_octets h (suc n) = append_octets (sha512.digest_bytes h n) (to_be_bytes w64 _) (sha512_octets h n) (high_octets 8 _)

hash_octets : (method : DigestMethod) (m : List ℕ) → AreOctets (hash method m)
unfolding sha1.sha1 sha256.sha224 sha256.sha256 sha512.sha384 sha512.sha512
hash_octets Sha1 m = sha1_octets _ 5
hash_octets Sha224 m = take_octets 28 _ (sha256_octets _ 8)
hash_octets Sha256 m = sha256_octets _ 8
hash_octets Sha384 m = take_octets 48 _ (sha512_octets _ 8)
hash_octets Sha512 m = sha512_octets _ 8

mac_octets : (method : MacMethod) (key m : List ℕ) → AreOctets (hmac_of method key m)
unfolding hmac_of
mac_octets method key m = hash_octets (hash_of method) _

are_bytes : (xs : List ℕ) → AreOctets xs → IsBytes xs
unfolding AreOctets
are_bytes [] h i = omega arith
are_bytes (x ∷ xs) h zero = h.0
are_bytes (x ∷ xs) h (suc i) = are_bytes xs h.1 i

pub hash_bytes : (method : DigestMethod) (m : List ℕ) → IsBytes (hash method m)
hash_bytes method m = are_bytes (hash method m) (hash_octets method m)

pub kept_bytes : (method : MacMethod) (key m : List ℕ) (bits : ℕ) → IsBytes (kept (hmac_of method key m) bits)
kept_bytes method key m bits = are_bytes (kept (hmac_of method key m) bits) (take_octets (bits / 8) (hmac_of method key m) (mac_octets method key m))
