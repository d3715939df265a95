-- What an answer tells over every folder.
use Rattle.std.proofs.Common.{◌≡◌, ◌∙◌, ◌⊎◌, inl, inr, ℕ, ◌≤◌, ◌+◌, Bool, true, false, List, [], ◌∷◌, length, map, sum, Option, Some, None, Result, Ok, Err, refl, ap, sym, subst, arith}
use Rattle.std.specs.Prelude.{IfOk, OnOk, slice_get, if◌then◌else◌}
use Rattle.std.specs.List.{All}
use Rattle.std.proofs.lemmas.List.{length-map}
use Rattle.sig_base.specs.Outcomes.{and_then}
use Rattle.sig_base.specs.declared.method.DigestMethod.{DigestMethod}
use Rattle.sig_outside.specs.Told.{Held, no_files}
use Rattle.xml_doc.specs.Rows.{RowOf}
use Rattle.uri_refs.specs.declared.target.Place.{Place}
use Rattle.uri_refs.specs.declared.target.Target.{Target}
use Rattle.uri_refs.specs.declared.target.Target.TheVariants as target
use Rattle.dsig_fields.specs.Keys.{QuestionOf}
use Rattle.dsig_fields.specs.declared.fields.Fields.{Fields}
use Rattle.dsig_fields.specs.declared.fields.Reference.{Reference}
use Rattle.transforms.specs.Answers.{Tells}
use Rattle.transforms.specs.Outcome.{outcome}
use Rattle.transforms.specs.Values.{Origin, origin_of}
use Rattle.transforms.specs.Views.{target_in, view_of}
use Rattle.transforms.specs.declared.outcome.Report.{Report}
use Rattle.transforms.specs.declared.outcome.Report.TheVariants as report
use Rattle.transforms.specs.declared.outcome.ValidateRefusal.{ValidateRefusal}
use Rattle.transforms.specs.declared.outcome.ValidateRefusal.TheVariants as refusal
use Rattle.transforms.specs.declared.refusal.RefRefusal.{RefRefusal}
use Rattle.core_validate.specs.Answers.{HasFewViews, HasOwnCause, IsNoFile, Stops, TellsAll}
use Rattle.core_validate.specs.Code.Answers.{TellsEach}
use Rattle.core_validate.specs.Code.Measures.{Measure, Measures}
use Rattle.core_validate.specs.Progress.{report_with}
use Rattle.core_validate.specs.Code.Progress.{HasOwnStage}
use Rattle.core_validate.specs.Reached.{AreViews, HasView, IsAuthentic, IsHad, Reached, ReachesReferences, Reports}
use Rattle.core_validate.specs.Code.Signature.{IsFailure, signature_check}
use Rattle.core_validate.specs.declared.progress.Progress.{Progress}
use Rattle.core_validate.specs.declared.validation.SignatureCheck.{SignatureCheck}
use Rattle.core_validate.specs.declared.validation.SignatureCheck.TheVariants as check
use Rattle.core_validate.specs.declared.view.Measured.{Measured}
use Rattle.transforms.proofs.ViewLaws.{no_target}
use Rattle.core_validate.proofs.Lists.{all_at}
use Rattle.core_validate.proofs.OutcomeLaws.{authentic, no_reference, outcome_at}
use Rattle.core_validate.proofs.ProgressLaws.{IsWithin}

-- ---- what the folder tells
tells_told : (t : Result Target RefRefusal) (told : Option Held) (files : Held) → told ≡ Some files → Tells t told files
tells_told (Ok (target.Named name)) told files e = e
tells_told (Ok (target.Whole comments)) told files e = tt
tells_told (Ok (target.Element id comments)) told files e = tt
tells_told (Err cause) told files e = tt

tells_none : (t : Result Target RefRefusal) (told : Option Held) (files : Held) → IsNoFile t → Tells t told files
tells_none (Ok (target.Named name)) told files n = absurd n
tells_none (Ok (target.Whole comments)) told files n = tt
tells_none (Ok (target.Element id comments)) told files n = tt
tells_none (Err cause) told files n = tt

-- of each Reference
pub tells_at : (place : Place) (references : List Reference) (told now : Option Held) (files : Held) (k : ℕ) (reference : Reference)
    → now ≡ told → TellsEach place references told files → Some reference ≡ slice_get references k → Tells (target_in place reference) now files
tells_at place references told now files k reference e (inl h) at = tells_told (target_in place reference) now files (e ∙ h)
tells_at place references told now files k reference e (inr h) at =
    tells_none (target_in place reference) now files (all_at (λ (r : Reference). IsNoFile (target_in place r)) references k reference h at)

pub tells_each : (rows : List RowOf) (question : QuestionOf) (told : Option Held) (files : Held) (x : ℕ) (fields : Fields)
    → IsAuthentic rows question x fields → TellsAll rows question told files → TellsEach question.place fields.references told files
tells_each rows question told files x fields a (inl h) = inl h
tells_each rows question told files x fields a (inr h) = inr (h x fields a.found a.read)

-- ---- a Reference that is measured has a view, or refers to a file
module _ (keep : Bool) (method : DigestMethod) (measured : Measured) (told : Option Held) where
  has_view : (t : Result Target RefRefusal) (outcome : Result (List ℕ) RefRefusal)
      → ((cause : RefRefusal) → t ≡ Err cause → outcome ≡ Err cause)
      → (Tells t told no_files → Measure keep method measured outcome) → HasView t outcome
  has_view (Err cause) outcome stops m = let one = (m tt).outcome_is in let other = stops cause refl in absurd cc
  has_view (Ok (target.Named name)) outcome stops m = tt
  has_view (Ok (target.Whole comments)) outcome stops m = ((m tt).view, (m tt).outcome_is)
  has_view (Ok (target.Element id comments)) outcome stops m = ((m tt).view, (m tt).outcome_is)

pub is_had : (rows : List RowOf) (signature : ℕ) (place : Place) (reference : Reference) (keep : Bool) (measured : Measured) (told : Option Held)
    → ((files : Held) → Tells (target_in place reference) told files → Measures keep reference.digest (Ok measured) (view_of (origin_of rows (Some signature)) place files reference))
    → IsHad rows signature place reference
is_had rows signature place reference keep measured told m =
    has_view keep reference.digest measured told (target_in place reference) (view_of (origin_of rows (Some signature)) place no_files reference)
    (no_target (origin_of rows (Some signature)) place no_files reference) (m no_files)

-- ---- the report behind the last Reference
module _ (rows : List RowOf) (signature : ℕ) (place : Place) (keep : Bool) (references : List Reference) where
  pub reported : (count : ℕ) (p : Progress) → IsWithin keep count p → count ≡ length references → All (IsHad rows signature place) references
      → Reports rows signature place keep references (report_with p.views.lengths p.views.octets p.differing)
  reported count p h e had = go p.differing
    where
      go : (differ : List ℕ) → Reports rows signature place keep references (report_with p.views.lengths p.views.octets differ)
      go [] = record { had = had; many = h.many ∙ e; each = h.each; together = rw (sym h.sums) h.within; octets = h.octets }
      go (number ∷ more) = tt

-- at most as many views are kept as there are
kept_few : (keep : Bool) (lengths : List ℕ) (octets : List (List ℕ)) → map length octets ≡ (if keep then lengths else []) → length octets ≤ length lengths
kept_few true lengths octets e = let same : length octets ≡ length lengths = sym (length-map octets length) ∙ ap (λ (t : List ℕ). length t) e in omega (arith, same)
kept_few false lengths octets e = let same : length octets ≡ 0 = sym (length-map octets length) ∙ ap (λ (t : List ℕ). length t) e in omega (arith, same)

pub few_views : (keep : Bool) (count : ℕ) (p : Progress) → IsWithin keep count p → count ≤ 256 → HasFewViews (report_with p.views.lengths p.views.octets p.differing)
few_views keep count p h few = go p.differing
  where
    go : (differ : List ℕ) → HasFewViews (report_with p.views.lengths p.views.octets differ)
    go [] = omega (arith, kept_few keep p.views.lengths p.views.octets h.octets, h.many, few)
    go (number ∷ more) = tt

pub staged : (lengths : List ℕ) (octets : List (List ℕ)) (differ : List ℕ) → HasOwnStage (Ok (report_with lengths octets differ))
staged lengths octets [] = tt
staged lengths octets (number ∷ more) = tt

-- ---- validations
pub few_failure : (failure : Report) → IsFailure failure → HasFewViews failure
few_failure (report.Valid views) f = absurd f
few_failure report.SignatureDiffers f = tt
few_failure (report.ShortTruncation bits) f = tt
few_failure (report.DigestsDiffer numbers) f = tt

module _ (rows : List RowOf) (question : QuestionOf) where
  -- a signature that fails
  pub failure_reached : (failure : Report) → IsFailure failure → signature_check rows question ≡ Ok (check.Fails failure) → Reached rows question (Ok failure)
  failure_reached (report.Valid views) f e = absurd f
  failure_reached report.SignatureDiffers f e = λ files. outcome_at rows question files (Ok (check.Fails report.SignatureDiffers)) e
  failure_reached (report.ShortTruncation bits) f e = λ files. outcome_at rows question files (Ok (check.Fails (report.ShortTruncation bits))) e
  failure_reached (report.DigestsDiffer numbers) f e = absurd f

  -- a refusal before the References
  pub refusal_reached : (cause : ValidateRefusal) → Stops cause (signature_check rows question) → Reached rows question (Err cause)
  refusal_reached refusal.NoSignature e = λ files. outcome_at rows question files (Err refusal.NoSignature) e
  refusal_reached (refusal.Fields field) e = λ files. outcome_at rows question files (Err (refusal.Fields field)) e
  refusal_reached refusal.NoKey e = λ files. outcome_at rows question files (Err refusal.NoKey) e
  refusal_reached refusal.UnknownKey e = λ files. outcome_at rows question files (Err refusal.UnknownKey) e
  refusal_reached refusal.OctetsTooLong e = λ files. outcome_at rows question files (Err refusal.OctetsTooLong) e
  refusal_reached (refusal.Reference number why) e = absurd (no_reference rows question number why e)
  refusal_reached refusal.FetchFailed e = absurd e
  refusal_reached refusal.Memory e = tt

  pub own_stop : (cause : ValidateRefusal) → Stops cause (signature_check rows question) → HasOwnCause {A = Unit {0}} (Err cause)
  own_stop refusal.NoSignature e = tt
  own_stop (refusal.Fields field) e = tt
  own_stop refusal.NoKey e = tt
  own_stop refusal.UnknownKey e = tt
  own_stop refusal.OctetsTooLong e = tt
  own_stop (refusal.Reference number why) e = absurd (no_reference rows question number why e)
  own_stop refusal.FetchFailed e = tt
  own_stop refusal.Memory e = tt

  pub own_failure : (failure : Report) → HasOwnCause {A = Report} (Ok failure)
  own_failure failure = tt

  -- a signature that holds: whatever validation of its References comes to
  pub references_reached : (x : ℕ) (fields : Fields) (result : Result Report ValidateRefusal) → signature_check rows question ≡ Ok (check.Holds x fields)
      → HasOwnStage result → IfOk result (Reports rows x question.place question.keep_views fields.references) → Reached rows question result
  references_reached x fields result e stage reports = go result stage reports
    where
      here : (r : Result Report ValidateRefusal) → IfOk r (Reports rows x question.place question.keep_views fields.references) → ReachesReferences rows question r
      here r h = record { signature = x; fields = fields; authentic = authentic rows question x fields e; report = h }

      go : (r : Result Report ValidateRefusal) → HasOwnStage r → IfOk r (Reports rows x question.place question.keep_views fields.references) → Reached rows question r
      go (Ok (report.Valid views)) s h = here (Ok (report.Valid views)) h
      go (Ok report.SignatureDiffers) s h = absurd s
      go (Ok (report.ShortTruncation bits)) s h = absurd s
      go (Ok (report.DigestsDiffer numbers)) s h = here (Ok (report.DigestsDiffer numbers)) h
      go (Err refusal.NoSignature) s h = absurd s
      go (Err (refusal.Fields field)) s h = absurd s
      go (Err refusal.NoKey) s h = absurd s
      go (Err refusal.UnknownKey) s h = absurd s
      go (Err refusal.OctetsTooLong) s h = absurd s
      go (Err (refusal.Reference number why)) s h = here (Err (refusal.Reference number why)) h
      go (Err refusal.FetchFailed) s h = here (Err refusal.FetchFailed) h
      go (Err refusal.Memory) s h = tt
