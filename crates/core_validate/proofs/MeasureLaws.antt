-- What is measured of a view.
use Rattle.std.proofs.Common.{◌≡◌, ℕ, Bool, true, false, List, length, Option, Some, None, refl}
use Rattle.sig_base.specs.declared.method.DigestMethod.{DigestMethod}
use Rattle.digests_hmac.specs.Hash.{hash}
use Rattle.core_validate.specs.Measures.{measure_of}
use Rattle.core_validate.specs.declared.view.Measured.{Measured}

abbrev pub measured : ℕ → List ℕ → Option (List ℕ) → Measured
measured n value octets = record { length = n; value = value; octets = octets }

pub kept_is : (method : DigestMethod) (n : ℕ) (value octets view : List ℕ) → n ≡ length view → value ≡ hash method view → octets ≡ view → measured n value (Some octets) ≡ measure_of true method view
kept_is method n value octets view e f g = rw (e, f, g) refl

pub dropped_is : (method : DigestMethod) (n : ℕ) (value view : List ℕ) → n ≡ length view → value ≡ hash method view → measured n value None ≡ measure_of false method view
dropped_is method n value view e f = rw (e, f) refl
