-- When a validation is valid: XML Signature 1.1, section 3.2.
use Rattle.std.specs.Prelude.{◌≡◌, ◌↔◌, ◌&&◌, ◌≤◌, ℕ, List, [], ◌∷◌, length, map, Bool, true, false, Some, Result, Ok}
use Rattle.std.specs.List.{All}
use Rattle.sig_base.specs.declared.lists.Views.{Views}
use Rattle.sig_outside.specs.Told.{Held}
use Rattle.xml_doc.specs.Rows.{RowOf}
use Rattle.digests_hmac.specs.KeyEntries.{KeyEntry}
use Rattle.dsig_fields.specs.Fields.{fields_of}
use Rattle.dsig_fields.specs.Holds.{digest_holds, signature_holds}
use Rattle.dsig_fields.specs.Keys.{QuestionOf, key_of}
use Rattle.dsig_fields.specs.Signatures.{nth_signature}
use Rattle.dsig_fields.specs.declared.fields.Fields.{Fields}
use Rattle.dsig_fields.specs.declared.fields.Reference.{Reference}
use Rattle.transforms.specs.Outcome.{Sources, canonical_signed_info, kept_if, outcome, verdict, views_of}
use Rattle.transforms.specs.Steps.{octet_limit}
use Rattle.transforms.specs.Values.{origin_of}
use Rattle.transforms.specs.Views.{view_of}
use Rattle.transforms.specs.declared.outcome.Report.{Report}
use Rattle.transforms.specs.declared.outcome.Report.TheVariants as report
use Rattle.transforms.specs.declared.refusal.RefRefusal.{RefRefusal}
use Rattle.core_validate.specs.Progress.{sources_of}

-- each digest is that of the view beside it
unfoldable pub references_hold : List Reference → List (List ℕ) → Bool
references_hold [] views = true
references_hold (reference ∷ more) [] = false
references_hold (reference ∷ more) (view ∷ others) = digest_holds reference.digest view reference.expected && references_hold more others

-- where all views are had, a validation is valid exactly where signature validation and reference validation both hold; and then
-- what it hands on are the views whose digests were compared, in the order of their References
abbrev pub ValidExactly : Type 0
ValidExactly =
    (sources : Sources) (keep : Bool) (fields : Fields) (key : List ℕ) (views : List (List ℕ))
    → length (canonical_signed_info sources.rows fields) ≤ octet_limit
    → views_of sources fields.references ≡ Ok views
    → (verdict sources keep fields key ≡ Ok (report.Valid (record { lengths = map length views; octets = kept_if keep views })))
    ↔ ((signature_holds fields.mac fields.bits key (canonical_signed_info sources.rows fields) fields.value
    && references_hold fields.references views) ≡ true)

-- ---- the whole outcome
-- the view of a Reference
abbrev pub view_in : Sources → Reference → Result (List ℕ) RefRefusal
view_in sources reference = view_of (origin_of sources.rows (Some sources.signature)) sources.place sources.files reference

-- reference validation of one Reference: the digest of its view is the DigestValue (section 3.2.1)
pub record ReferenceHolds (sources : Sources) (reference : Reference) : Type 0 where
  pub view : List ℕ
  pub is : view_in sources reference ≡ Ok view
  pub digest : digest_holds reference.digest view reference.expected ≡ true

-- signature validation and reference validation both hold of the Signature that is asked about, under the key that is chosen
pub record CoreHolds (rows : List RowOf) (question : QuestionOf) (files : Held) : Type 0 where
  pub signature : ℕ
  pub found : nth_signature rows question.index ≡ Some signature
  pub fields : Fields
  pub read : fields_of rows signature ≡ Ok fields
  pub key : KeyEntry
  pub chosen : key_of fields.key_name question ≡ Ok key
  pub authentic : signature_holds fields.mac fields.bits key.octets (canonical_signed_info rows fields) fields.value ≡ true
  pub references : All (ReferenceHolds (sources_of rows signature question.place files)) fields.references

abbrev pub IsValid : Report → Type 0
IsValid (report.Valid views) = Unit {0}
IsValid report.SignatureDiffers = ⊥
IsValid (report.ShortTruncation bits) = ⊥
IsValid (report.DigestsDiffer numbers) = ⊥

-- an outcome that is no refusal is valid exactly where both hold
abbrev pub OutcomeExactly : Type 0
OutcomeExactly =
    (rows : List RowOf) (question : QuestionOf) (files : Held) (reported : Report)
    → outcome rows question files ≡ Ok reported → IsValid reported ↔ CoreHolds rows question files

-- what is handed on are the views of the References, in order: the octets whose digests were compared
pub record AreCompared (rows : List RowOf) (question : QuestionOf) (files : Held) (views : Views) : Type 0 where
  pub holds : CoreHolds rows question files
  pub octets : List (List ℕ)
  pub are : map (view_in (sources_of rows holds.signature question.place files)) holds.fields.references ≡ map Ok octets
  pub lengths : views.lengths ≡ map length octets
  pub kept : views.octets ≡ kept_if question.keep_views octets

abbrev pub HandsOnCompared : Type 0
HandsOnCompared =
    (rows : List RowOf) (question : QuestionOf) (files : Held) (views : Views)
    → outcome rows question files ≡ Ok (report.Valid views) → AreCompared rows question files views
