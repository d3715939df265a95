use Rattle.std.proofs.Common.{◌≡◌, ◌<◌, length}
use Rattle.std.specs.List.{All}
use Rattle.std.specs.String.{string_bytes}
use Rattle.dsig_fields.specs.Simple as spec
use Rattle.dsig_fields.proofs.SimpleLaws.{with_front}
use Rattle.dsig_fields.proofs.simple.simple_text.Given as goal

abbrev pub invariant-loop-y : goal.invariant-loop-y
invariant-loop-y l =
    All (λ y. y < length l.doc) l.walk × (with_front (string_bytes l.text) (spec.joined l.doc l.walk) ≡ spec.simple_text l.doc l.x)

abbrev pub decreases-loop-y : goal.decreases-loop-y
decreases-loop-y l = length l.walk
