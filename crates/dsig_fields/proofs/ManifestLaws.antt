-- What holds of the References that are read of a Manifest.
use Rattle.std.proofs.Common.{◌≡◌, ℕ, ◌≤◌, List, length, arith}
use Rattle.std.specs.Prelude.{IfOk, Ok}
use Rattle.std.specs.List.{All}
use Rattle.xml_doc.specs.Rows.{RowOf}
use Rattle.dsig_fields.specs.Fields.{reference}
use Rattle.dsig_fields.specs.Fits.{ReferenceFits}
use Rattle.dsig_fields.specs.Manifests.{manifest_of}
use Rattle.dsig_fields.specs.Reading.{children, one_or_more, at_end}
use Rattle.dsig_fields.specs.declared.fields.Reference.{Reference}
use Rattle.dsig_fields.specs.declared.names.ElementName.TheVariants as names
use Rattle.dsig_fields.specs.declared.refusal.FieldRefusal.TheVariants.{TooManyReferences}
use Rattle.dsig_fields.proofs.FitLaws.{one_or_more_fits, reference_fits}
use Rattle.dsig_fields.proofs.Steps.{then_fits, in_any_case}

abbrev ReferencesFit : List RowOf → List Reference → Type 0
ReferencesFit rows references = (length references ≤ 256) × All (ReferenceFits rows) references

manifest_fits : (rows : List RowOf) (x : ℕ) → IfOk (manifest_of rows x) (ReferencesFit rows)
unfolding manifest_of
manifest_fits rows x =
    let Q = ReferencesFit rows in
    then_fits (λ (p : List Reference × List ℕ). ReferencesFit rows p.0) Q (one_or_more (λ y. TooManyReferences) rows names.Reference (reference rows) 256 (children rows x)) _ (one_or_more_fits (ReferenceFits rows) (λ y. TooManyReferences) rows names.Reference (reference rows) (reference_fits rows) 256 (omega arith) (children rows x)) (λ references fit.
    in_any_case Q (at_end rows references.1) _ (λ nothing. fit))

pub read_fits : (rows : List RowOf) (x : ℕ) (read : List Reference) → manifest_of rows x ≡ Ok read → ReferencesFit rows read
read_fits rows x read is = rw is at (manifest_fits rows x)
