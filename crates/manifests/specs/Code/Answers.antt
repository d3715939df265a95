use Rattle.std.specs.Prelude.{◌≡◌, ℕ, List, Result, Ok, Err}
use Rattle.digests_hmac.specs.Hash.{hash}
use Rattle.digests_hmac.specs.Sinks.{HasDigested, digest_by}
use Rattle.digests_hmac.specs.declared.hasher.DigestSink.{DigestSink}
use Rattle.dsig_fields.specs.declared.fields.Reference.{Reference}
use Rattle.transforms.specs.declared.refusal.RefRefusal.{RefRefusal}
use Rattle.transforms.specs.declared.refusal.RefRefusal.TheVariants as reason
use Rattle.manifests.specs.Manifests.{kind_of}
use Rattle.manifests.specs.declared.lines.ManifestKind.{ManifestKind}
use Rattle.manifests.specs.declared.lines.ManifestKind.TheVariants.{Refused}
use Rattle.manifests.specs.declared.lines.ManifestStop.{ManifestStop}
use Rattle.manifests.specs.declared.lines.ManifestStop.TheVariants as stop

-- what an entry comes to that has no view: a failure of the folder and want of memory stop the run, and the sink here refuses for
-- want of memory alone
abbrev pub kind_of_cause : RefRefusal → Result ManifestKind ManifestStop
kind_of_cause reason.FetchFailed = Err stop.FetchFailed
kind_of_cause reason.SinkRefused = Err stop.Memory
kind_of_cause reason.Memory = Err stop.Memory
kind_of_cause cause = Ok (Refused cause)

-- what an entry comes to whose view is in the sink
abbrev pub KindByDigest : DigestSink → Reference → ManifestKind → Type 0
KindByDigest sink entry kind =
    (view : List ℕ) → HasDigested sink view → digest_by sink view ≡ hash entry.digest view → kind ≡ kind_of entry (Ok view)
