use Rattle.std.proofs.Common.{◌≡◌, ◌*◌, ℕ, zero, suc, List, length, arith, length-append}
use Rattle.std.specs.Int.{w32, to_be_bytes}
use Rattle.sha1.specs.Sha1.{sha1, digest_bytes}
use Rattle.std.specs.Prelude.{slice_index}
use Rattle.sha2.proofs.Facts256.{length-sha224, length-sha256}
use Rattle.sha2.proofs.Facts512.{length-sha384, length-sha512}
use Rattle.sig_base.specs.declared.DigestMethod.{DigestMethod}
use Rattle.sig_base.specs.declared.DigestMethod.TheVariants.{Sha1, Sha224, Sha256, Sha384, Sha512}
use Rattle.sig_base.specs.declared.MacMethod.{MacMethod}
use Rattle.digests_hmac.specs.Hash.{hash, hash_of, hmac_of, digest_size}

length-digest_bytes : (h : List ℕ) (n : ℕ) → length (digest_bytes h n) ≡ 4 * n
unfolding digest_bytes
length-digest_bytes h zero = omega arith
length-digest_bytes h (suc n) = omega (arith, length-append (digest_bytes h n) (to_be_bytes w32 (slice_index h n)), length-digest_bytes h n)

length-sha1 : (m : List ℕ) → length (sha1 m) ≡ 20
unfolding sha1
length-sha1 m = length-digest_bytes _ 5

-- the octets of a digest
pub length-hash : (method : DigestMethod) (message : List ℕ) → length (hash method message) ≡ digest_size method
length-hash Sha1 message = length-sha1 message
length-hash Sha224 message = length-sha224 message
length-hash Sha256 message = length-sha256 message
length-hash Sha384 message = length-sha384 message
length-hash Sha512 message = length-sha512 message

-- the octets of an HMAC
pub length-hmac_of : (method : MacMethod) (key message : List ℕ) → length (hmac_of method key message) ≡ digest_size (hash_of method)
unfolding hmac_of
length-hmac_of method key message = length-hash (hash_of method) _

-- both, for `using`
pub ruleset digest_lengths = (length-hash, length-hmac_of)
