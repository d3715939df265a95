-- The view of a Reference as a validation needs it: its length, its digest and, where it is kept, its octets.
use Rattle.std.specs.Prelude.{◌≡◌, ◌≤◌, ◌-◌, ◌^◌, ℕ, Bool, List, length, min, Some, None, if◌then◌else◌}
use Rattle.sig_base.specs.declared.method.DigestMethod.{DigestMethod}
use Rattle.digests_hmac.specs.Hash.{hash}
use Rattle.digests_hmac.specs.Sinks.{HasDigested}
use Rattle.transforms.specs.Steps.{octet_limit}
use Rattle.core_validate.specs.declared.view.CountSink.{CountSink}
use Rattle.core_validate.specs.declared.view.Measured.{Measured}

-- the octets are counted and digested
pub record HasCounted (sink : CountSink) (octets : List ℕ) : Type 0 where
  pub count : sink.count ≡ min (length octets) (2 ^ 64 - 1)
  pub digest : HasDigested sink.digest octets

abbrev pub measure_of : (keep : Bool) → DigestMethod → (view : List ℕ) → Measured
measure_of keep method view = record { length = length view; value = hash method view; octets = if keep then Some view else None }

-- it is that of some octets within the limit
pub record IsMeasure (keep : Bool) (method : DigestMethod) (measured : Measured) : Type 0 where
  pub view : List ℕ
  pub within : length view ≤ octet_limit
  pub is : measured ≡ measure_of keep method view
