-- The signature value that a template gets once its digests are filled in.
use Rattle.std.specs.Prelude.{ℕ, nat_le, Bool, List, length, Result, Ok, Err, if◌then◌else◌}
use Rattle.sig_base.specs.Outcomes.{and_then, with_cause}
use Rattle.xml_doc.specs.Rows.{RowOf}
use Rattle.xml_read.specs.ReadOutcome.{read_outcome}
use Rattle.dsig_fields.specs.declared.fields.Fields.{Fields}
use Rattle.transforms.specs.Outcome.{canonical_signed_info}
use Rattle.transforms.specs.Steps.{octet_limit}
use Rattle.signer.specs.Signed.{value_under}
use Rattle.signer.specs.declared.refusal.SignRefusal.{SignRefusal}
use Rattle.signer.specs.declared.refusal.SignRefusal.TheVariants as refusal
use Rattle.signer.specs.declared.sealing.Seal.{Seal}

-- the signature value under a key, and whether the canonical SignedInfo is within its limit
abbrev pub seal_by : List RowOf → Fields → (key : List ℕ) → Seal
seal_by rows fields key = record {
  value = value_under rows fields key;
  fits = nat_le (length (canonical_signed_info rows fields)) octet_limit;
}

-- the same of octets that have to be read
unfoldable pub seal_of : (octets : List ℕ) → Fields → (key : List ℕ) → Result Seal SignRefusal
seal_of octets fields key = and_then (with_cause refusal.Filled (read_outcome octets)) (λ rows. Ok (seal_by rows fields key))

abbrev pub if_fits : Bool → Result (Unit {0}) SignRefusal
if_fits fits = if fits then Ok tt else Err refusal.OctetsTooLong
