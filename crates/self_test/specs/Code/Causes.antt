-- Why the answers of the parts end a self-test. Want of memory is the same here and there; a folder in memory that is told to fail at
-- no call doesn't fail, though no contract says so.
use Rattle.std.specs.Prelude.{◌≤◌, sum}
use Rattle.xml_read.specs.declared.read.ReadRefusal.{ReadRefusal}
use Rattle.xml_read.specs.declared.read.ReadRefusal.TheVariants as read
use Rattle.transforms.specs.Outcome.{total_limit}
use Rattle.transforms.specs.declared.outcome.Report.{Report}
use Rattle.transforms.specs.declared.outcome.Report.TheVariants as report
use Rattle.transforms.specs.declared.outcome.ValidateRefusal.{ValidateRefusal}
use Rattle.transforms.specs.declared.outcome.ValidateRefusal.TheVariants as validation
use Rattle.signer.specs.declared.refusal.SignRefusal.{SignRefusal}
use Rattle.signer.specs.declared.refusal.SignRefusal.TheVariants as signing
use Rattle.self_test.specs.declared.refusal.TestRefusal.{TestRefusal}
use Rattle.self_test.specs.declared.refusal.TestRefusal.TheVariants as refusal

abbrev pub sign_cause : SignRefusal → TestRefusal
sign_cause signing.FetchFailed = refusal.Memory
sign_cause signing.Memory = refusal.Memory
sign_cause cause = refusal.Sign cause

abbrev pub read_cause : ReadRefusal → TestRefusal
read_cause read.Memory = refusal.Memory
read_cause cause = refusal.Read cause

abbrev pub validate_cause : ValidateRefusal → TestRefusal
validate_cause validation.FetchFailed = refusal.Memory
validate_cause validation.Memory = refusal.Memory
validate_cause cause = refusal.Validate cause

-- the octets of all views together are within the limit
abbrev pub HasFewOctets : Report → Type 0
HasFewOctets (report.Valid views) = sum views.lengths ≤ total_limit
HasFewOctets other = Unit {0}
