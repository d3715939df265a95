-- What the words of `selftest` come to: a line. No file is asked for.
use Rattle.std.specs.Prelude.{ℕ, List, Result}
use Rattle.sig_base.specs.Outcomes.{with_cause}
use Rattle.xml_read.specs.declared.read.ReadRefusal.TheVariants as read
use Rattle.self_test.specs.Outcome.{test_outcome}
use Rattle.self_test.specs.declared.refusal.TestRefusal.{TestRefusal}
use Rattle.self_test.specs.declared.refusal.TestRefusal.TheVariants as test
use Rattle.xmldsig.specs.Sign.{sign_cause}
use Rattle.xmldsig.specs.declared.ending.Refusal.{Refusal}
use Rattle.xmldsig.specs.declared.ending.Refusal.TheVariants as refusal

-- a refusal of the signing or of the validation. Want of memory is no refusal, and no outcome has it
abbrev pub test_cause : TestRefusal → Refusal
test_cause (test.Sign cause) = sign_cause cause
test_cause (test.Read cause) = refusal.Read cause
test_cause (test.Validate cause) = refusal.Validate cause
test_cause test.Memory = refusal.Read read.Memory

abbrev pub line_outcome : (paragraphs : ℕ) → Result (List ℕ) Refusal
line_outcome paragraphs = with_cause test_cause (test_outcome paragraphs)
