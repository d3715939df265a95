-- Refusals of the parts of a self-test are its own, and so is that of a first part.
use Rattle.std.proofs.Common.{◌≡◌, ap, refl, List, ℕ, Result, Ok}
use Rattle.sig_base.specs.Outcomes.{and_then, with_cause}
use Rattle.transforms.specs.declared.outcome.Report.{Report}
use Rattle.transforms.specs.declared.outcome.ValidateRefusal.{ValidateRefusal}
use Rattle.transforms.specs.declared.outcome.ValidateRefusal.TheVariants as validation
use Rattle.xml_doc.specs.Rows.{RowOf}
use Rattle.xml_read.specs.ReadOutcome as reading
use Rattle.xml_read.specs.declared.read.ReadRefusal.{ReadRefusal}
use Rattle.xml_read.specs.declared.read.ReadRefusal.TheVariants as read
use Rattle.core_validate.specs.Answers as validating
use Rattle.signer.specs.Answers as signing
use Rattle.signer.specs.declared.refusal.SignRefusal.{SignRefusal}
use Rattle.signer.specs.declared.refusal.SignRefusal.TheVariants as sign
use Rattle.self_test.specs.Code.Causes.{read_cause, sign_cause, validate_cause}
use Rattle.self_test.specs.Outcome.{Gives, Refuses}
use Rattle.self_test.specs.declared.refusal.TestRefusal.{TestRefusal}
use Rattle.self_test.specs.declared.refusal.TestRefusal.TheVariants as refusal

-- ---- refusals of parts

pub sign_refused : (outcome : Result (List ℕ) SignRefusal) (cause : SignRefusal) → signing.Refuses cause outcome
    → Refuses (sign_cause cause) (with_cause refusal.Sign outcome)
sign_refused outcome (sign.Read why) e = ap (with_cause refusal.Sign) e
sign_refused outcome sign.NoSignature e = ap (with_cause refusal.Sign) e
sign_refused outcome (sign.Fields field) e = ap (with_cause refusal.Sign) e
sign_refused outcome sign.NoKey e = ap (with_cause refusal.Sign) e
sign_refused outcome sign.UnknownKey e = ap (with_cause refusal.Sign) e
sign_refused outcome (sign.ShortTruncation bits) e = ap (with_cause refusal.Sign) e
sign_refused outcome (sign.NotText row) e = ap (with_cause refusal.Sign) e
sign_refused outcome (sign.Reference i target) e = ap (with_cause refusal.Sign) e
sign_refused outcome (sign.Filled why) e = ap (with_cause refusal.Sign) e
sign_refused outcome sign.OctetsTooLong e = ap (with_cause refusal.Sign) e
sign_refused outcome (sign.CoversItself i) e = ap (with_cause refusal.Sign) e
sign_refused outcome sign.FetchFailed e = tt
sign_refused outcome sign.Memory e = tt

pub read_refused : (outcome : Result (List RowOf) ReadRefusal) (cause : ReadRefusal) → reading.Refuses cause outcome
    → Refuses (read_cause cause) (with_cause refusal.Read outcome)
read_refused outcome read.TooLarge e = ap (with_cause refusal.Read) e
read_refused outcome read.Encoding e = ap (with_cause refusal.Read) e
read_refused outcome read.DocType e = ap (with_cause refusal.Read) e
read_refused outcome read.NotWellFormed e = ap (with_cause refusal.Read) e
read_refused outcome read.Namespaces e = ap (with_cause refusal.Read) e
read_refused outcome read.TooDeep e = ap (with_cause refusal.Read) e
read_refused outcome read.TooManyRows e = ap (with_cause refusal.Read) e
read_refused outcome read.Memory e = tt

pub validate_refused : (outcome : Result Report ValidateRefusal) (cause : ValidateRefusal) → validating.Refuses cause outcome
    → Refuses (validate_cause cause) (with_cause refusal.Validate outcome)
validate_refused outcome validation.NoSignature e = ap (with_cause refusal.Validate) e
validate_refused outcome (validation.Fields field) e = ap (with_cause refusal.Validate) e
validate_refused outcome validation.NoKey e = ap (with_cause refusal.Validate) e
validate_refused outcome validation.UnknownKey e = ap (with_cause refusal.Validate) e
validate_refused outcome validation.OctetsTooLong e = ap (with_cause refusal.Validate) e
validate_refused outcome (validation.Reference i target) e = ap (with_cause refusal.Validate) e
validate_refused outcome validation.FetchFailed e = tt
validate_refused outcome validation.Memory e = tt

-- ---- steps one behind the other

-- the first step was refused
pub refused_first : {A B : Type 0} (cause : TestRefusal) (first : Result A TestRefusal) (more : A → Result B TestRefusal)
    → Refuses cause first → Refuses cause (and_then first more)
refused_first (refusal.Sign why) first more e = rw e refl
refused_first (refusal.Read why) first more e = rw e refl
refused_first (refusal.Validate why) first more e = rw e refl
refused_first refusal.Memory first more e = tt

-- it went well, and the second answers
pub gives_then : {A B T : Type 0} (view : T → B) (r : Result T TestRefusal) (first : Result A TestRefusal) (x : A)
    (more : A → Result B TestRefusal)
    → first ≡ Ok x → Gives view r (more x) → Gives view r (and_then first more)
gives_then view r first x more went e = rw went e
