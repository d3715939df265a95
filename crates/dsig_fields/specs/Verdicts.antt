-- What core validation comes to, by the octets that were signed alone: XML Signature 1.1, section 3.2. No document, no row and no
-- folder stands in the verdict. A document counts by these octets, its SignatureValue and the views of its References, and the
-- table of keys by the key that was chosen.
use Rattle.std.specs.Prelude.{◌≡◌, ℕ, ◌+◌, not, List, [], ◌∷◌, Option, Ok, if◌then◌else◌}
use Rattle.sig_base.specs.declared.method.MacMethod.{MacMethod}
use Rattle.xml_doc.specs.Rows.{RowOf}
use Rattle.xml_read.specs.Spelled.{Spells}
use Rattle.dsig_fields.specs.Fields.{info_fields}
use Rattle.dsig_fields.specs.Holds.{digest_holds, is_long_enough, is_mac_value, value_bits}
use Rattle.dsig_fields.specs.declared.fields.Info.{Info}
use Rattle.dsig_fields.specs.declared.fields.Reference.{Reference}

-- the length that is too short, in bits; a signature value that differs; the numbers, from 1, of all References whose digest differs;
-- or all holds, and these are the views whose digests were compared
pub data Verdict : Type 0 where
  ShortTruncation : (bits : ℕ) → Verdict
  SignatureDiffers : Verdict
  DigestsDiffer : (numbers : List ℕ) → Verdict
  Valid : (views : List (List ℕ)) → Verdict

-- the numbers of the References whose digest differs, of which the first has this number, beside their views
unfoldable pub differing : (number : ℕ) → List Reference → List (List ℕ) → List ℕ
differing number [] views = []
differing number (reference ∷ more) [] = []
differing number (reference ∷ more) (view ∷ others) =
    if digest_holds reference.digest view reference.expected then differing (number + 1) more others
    else number ∷ differing (number + 1) more others

-- reference validation: section 3.2.1
abbrev pub verdict_on_digests : (views : List (List ℕ)) → (differ : List ℕ) → Verdict
verdict_on_digests views [] = Valid views
verdict_on_digests views (number ∷ more) = DigestsDiffer (number ∷ more)

-- signature validation, and behind it what reference validation comes to: sections 3.2.2 and 3.2.1
abbrev pub verdict_behind : MacMethod → Option ℕ → (octets value key : List ℕ) → Verdict → Verdict
verdict_behind mac bits octets value key references =
    if not (is_long_enough mac (value_bits mac bits)) then ShortTruncation (value_bits mac bits)
    else (if not (is_mac_value mac (value_bits mac bits) key octets value) then SignatureDiffers
    else references)

-- the verdict, where SignedInfo says this
abbrev pub verdict_by : Info → (octets value key : List ℕ) → (views : List (List ℕ)) → Verdict
verdict_by info octets value key views =
    verdict_behind info.mac info.bits octets value key (verdict_on_digests views (differing 1 info.references views))

-- the verdict on these octets: what SignedInfo says is read from the octets themselves
pub record IsVerdict (octets value key : List ℕ) (views : List (List ℕ)) (verdict : Verdict) : Type 0 where
  pub rows : List RowOf
  pub spelled : Spells octets rows
  pub info : Info
  pub read : info_fields rows 1 ≡ Ok info
  pub is : verdict ≡ verdict_by info octets value key views

-- there is one verdict at most
abbrev pub VerdictsAreOne : Type 0
VerdictsAreOne =
    (octets value key : List ℕ) (views : List (List ℕ)) (one other : Verdict)
    → IsVerdict octets value key views one → IsVerdict octets value key views other → one ≡ other
