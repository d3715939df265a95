use Rattle.std.proofs.Common.{◌≡◌, length}
use Rattle.std.specs.List.{find}
use Rattle.dsig_fields.specs.Reading.{is_named}
use Rattle.dsig_fields.specs.declared.names.ElementName.TheVariants.{Signature}
use Rattle.manifests.specs.Elements as spec
use Rattle.manifests.proofs.elements.signature_above.Given as goal

abbrev pub invariant-loop-y : goal.invariant-loop-y
invariant-loop-y l = find (is_named l.doc Signature) l.walk ≡ spec.signature_above l.doc l.x

abbrev pub decreases-loop-y : goal.decreases-loop-y
decreases-loop-y l = length l.walk
