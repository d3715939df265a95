use Rattle.std.proofs.Common.{◌≡◌, ◌<◌, ◌-◌, length}
use Rattle.std.specs.Prelude.{slice_get}
use Rattle.xml_doc.specs.Searches.{passing}
use Rattle.dsig_fields.specs.Reading.{is_named}
use Rattle.dsig_fields.specs.Signatures as spec
use Rattle.dsig_fields.specs.declared.names.ElementName.TheVariants.{Signature}
use Rattle.dsig_fields.proofs.signatures.nth_signature.Given as goal

-- of the rows that are left the one that is still wanted
abbrev pub invariant-loop-y : goal.invariant-loop-y
invariant-loop-y l =
    (0 < l.wanted) × (slice_get (passing (is_named l.doc Signature) l.y (length l.doc)) (l.wanted - 1) ≡ spec.nth_signature l.doc l.n)
