-- What is seen of a hasher of any method: its method, and the messages that it may have taken
use Rattle.std.specs.Prelude.{ℕ, List}
use Rattle.sha1.specs.Sha1.{Holds}
use Rattle.sha2.specs.Hashers.{Holds224, Holds256, Holds384, Holds512}
use Rattle.sig_base.specs.declared.DigestMethod.{DigestMethod}
use Rattle.sig_base.specs.declared.DigestMethod.TheVariants.{Sha1, Sha224, Sha256, Sha384, Sha512}
use Rattle.digests_hmac.specs.declared.hasher.Hasher.{Hasher}
use Rattle.digests_hmac.specs.declared.hasher.Hasher.TheVariants.{OfSha1, OfSha224, OfSha256, OfSha384, OfSha512}

-- the method of a hasher
abbrev pub method_of : Hasher → DigestMethod
method_of (OfSha1 state) = Sha1
method_of (OfSha224 state) = Sha224
method_of (OfSha256 state) = Sha256
method_of (OfSha384 state) = Sha384
method_of (OfSha512 state) = Sha512

-- the hasher has taken this message (FIPS 180-4 section 6: all blocks but the last are worked into its state)
abbrev pub HoldsMessage : Hasher → List ℕ → Type 0
HoldsMessage (OfSha1 state) message = Holds state message
HoldsMessage (OfSha224 state) message = Holds224 state message
HoldsMessage (OfSha256 state) message = Holds256 state message
HoldsMessage (OfSha384 state) message = Holds384 state message
HoldsMessage (OfSha512 state) message = Holds512 state message
