-- What an answer tells over every folder, also over one that doesn't tell its files.
use Rattle.std.specs.Prelude.{◌≡◌, ℕ, ◌≤◌, Bool, true, List, [], length, map, sum, Option, Some, Result, Ok, Err, IfOk, if◌then◌else◌}
use Rattle.std.specs.List.{All}
use Rattle.sig_base.specs.declared.lists.Views.{Views}
use Rattle.sig_outside.specs.Told.{Held, no_files}
use Rattle.xml_doc.specs.Rows.{RowOf}
use Rattle.uri_refs.specs.declared.target.Place.{Place}
use Rattle.uri_refs.specs.declared.target.Target.{Target}
use Rattle.uri_refs.specs.declared.target.Target.TheVariants as target
use Rattle.digests_hmac.specs.KeyEntries.{KeyEntry}
use Rattle.dsig_fields.specs.Fields.{fields_of}
use Rattle.dsig_fields.specs.Holds.{signature_holds}
use Rattle.dsig_fields.specs.Keys.{QuestionOf, key_of}
use Rattle.dsig_fields.specs.Signatures.{nth_signature}
use Rattle.dsig_fields.specs.declared.fields.Fields.{Fields}
use Rattle.dsig_fields.specs.declared.fields.Reference.{Reference}
use Rattle.transforms.specs.Outcome.{canonical_signed_info, outcome, total_limit}
use Rattle.transforms.specs.Steps.{octet_limit}
use Rattle.transforms.specs.Values.{origin_of}
use Rattle.transforms.specs.Views.{target_in, view_of}
use Rattle.transforms.specs.declared.outcome.Report.{Report}
use Rattle.transforms.specs.declared.outcome.Report.TheVariants as report
use Rattle.transforms.specs.declared.outcome.ValidateRefusal.{ValidateRefusal}
use Rattle.transforms.specs.declared.outcome.ValidateRefusal.TheVariants as refusal
use Rattle.transforms.specs.declared.refusal.RefRefusal.{RefRefusal}

-- signature validation holds (XML Signature 1.1, section 3.2.2) for the Signature that is asked about: nothing refuses before it
pub record IsAuthentic (rows : List RowOf) (question : QuestionOf) (signature : ℕ) (fields : Fields) : Type 0 where
  pub found : nth_signature rows question.index ≡ Some signature
  pub read : fields_of rows signature ≡ Ok fields
  pub key : KeyEntry
  pub chosen : key_of fields.key_name question ≡ Ok key
  pub within : length (canonical_signed_info rows fields) ≤ octet_limit
  pub holds : signature_holds fields.mac fields.bits key.octets (canonical_signed_info rows fields) fields.value ≡ true

-- a URI that refers to something and, where that is no file, a view
abbrev pub HasView : Result Target RefRefusal → Result (List ℕ) RefRefusal → Type 0
HasView (Err cause) outcome = ⊥
HasView (Ok (target.Named name)) outcome = Unit {0}
HasView (Ok (target.Whole comments)) outcome = (view : List ℕ) × (outcome ≡ Ok view)
HasView (Ok (target.Element id comments)) outcome = (view : List ℕ) × (outcome ≡ Ok view)

-- the Reference isn't refused, whatever the folder holds, or it refers to a file
abbrev pub IsHad : List RowOf → (signature : ℕ) → Place → Reference → Type 0
IsHad rows signature place reference =
    HasView (target_in place reference) (view_of (origin_of rows (Some signature)) place no_files reference)

-- no Reference is refused but one to a file, and there is a view of each, within the limits; these are kept, or none is
pub record AreViews (rows : List RowOf) (signature : ℕ) (place : Place) (keep : Bool) (references : List Reference)
    (views : Views) : Type 0 where
  pub had : All (IsHad rows signature place) references
  pub many : length views.lengths ≡ length references
  pub each : All (λ (n : ℕ). n ≤ octet_limit) views.lengths
  pub together : sum views.lengths ≤ total_limit
  pub octets : map length views.octets ≡ (if keep then views.lengths else [])

abbrev pub Reports : List RowOf → (signature : ℕ) → Place → (keep : Bool) → List Reference → Report → Type 0
Reports rows signature place keep references (report.Valid views) = AreViews rows signature place keep references views
Reports rows signature place keep references other = Unit {0}

-- the References are reached, since the signature holds
pub record ReachesReferences (rows : List RowOf) (question : QuestionOf) (result : Result Report ValidateRefusal) : Type 0 where
  pub signature : ℕ
  pub fields : Fields
  pub authentic : IsAuthentic rows question signature fields
  pub report : IfOk result (Reports rows signature question.place question.keep_views fields.references)

-- what tells of References, or of the folder, comes only where the signature holds; and all that comes before them, but want of
-- memory, is the outcome, whatever files there are
abbrev pub Reached : List RowOf → QuestionOf → Result Report ValidateRefusal → Type 0
Reached rows question (Ok (report.Valid views)) = ReachesReferences rows question (Ok (report.Valid views))
Reached rows question (Ok (report.DigestsDiffer numbers)) = ReachesReferences rows question (Ok (report.DigestsDiffer numbers))
Reached rows question (Err (refusal.Reference number cause)) = ReachesReferences rows question (Err (refusal.Reference number cause))
Reached rows question (Err refusal.FetchFailed) = ReachesReferences rows question (Err refusal.FetchFailed)
Reached rows question (Err refusal.Memory) = Unit {0}
Reached rows question result = (files : Held) → outcome rows question files ≡ result
