-- What a sink that counts and authenticates has taken.
use Rattle.std.specs.Prelude.{◌≡◌, ◌-◌, ◌^◌, ℕ, List, length, min}
use Rattle.digests_hmac.specs.Sinks.{HasAuthenticated}
use Rattle.core_validate.specs.declared.signature.CountMacSink.{CountMacSink}

-- the octets are counted and authenticated
pub record HasTaken (sink : CountMacSink) (octets : List ℕ) : Type 0 where
  pub count : sink.count ≡ min (length octets) (2 ^ 64 - 1)
  pub mac : HasAuthenticated sink.mac octets
