-- Reports are verdicts on the octets that were signed.
use Rattle.std.proofs.Common.{◌≡◌, ℕ, ◌+◌, Bool, true, false, not, ◌&&◌, List, [], ◌∷◌, length, Option, Some, None, refl, sym, ap, ap₂, subst, ◌∙◌}
use Rattle.std.specs.Prelude.{Result, Ok, Err, IfOk, nat_le, if◌then◌else◌}
use Rattle.sig_base.specs.Outcomes.{and_then, with_cause}
use Rattle.sig_outside.specs.Told.{Held}
use Rattle.xml_doc.specs.Rows.{RowOf}
use Rattle.xml_read.specs.Spelled.{Spells}
use Rattle.dsig_fields.specs.Fields.{fields_of}
use Rattle.dsig_fields.specs.Holds.{is_long_enough, is_mac_value, value_bits, signature_holds}
use Rattle.dsig_fields.specs.Keys.{QuestionOf, key_of}
use Rattle.dsig_fields.specs.Signatures.{nth_signature}
use Rattle.dsig_fields.specs.Verdicts.{IsVerdict, Verdict, differing, verdict_by, verdict_on_digests}
use Rattle.dsig_fields.specs.Verdicts as verdicts
use Rattle.dsig_fields.specs.declared.fields.Fields.{Fields}
use Rattle.dsig_fields.proofs.VerdictLaws.{verdict_same, verdicts_one}
use Rattle.transforms.specs.Outcome.{Sources, choice_refusal, or_no_signature, outcome, references_report, report_by, under_key, verdict, views_of}
use Rattle.transforms.specs.Steps.{octet_limit}
use Rattle.transforms.specs.declared.outcome.Report.{Report}
use Rattle.transforms.specs.declared.outcome.Report.TheVariants as report
use Rattle.transforms.specs.declared.outcome.ValidateRefusal.{ValidateRefusal}
use Rattle.transforms.specs.declared.outcome.ValidateRefusal.TheVariants as refusal
use Rattle.signed_info.specs.Signed.{info_of, signed_octets}
use Rattle.signed_info.proofs.Fixed.{octets_fix}
use Rattle.core_validate.specs.Answers.{Gives}
use Rattle.core_validate.specs.Verdict.{AgreeingReportsAreOne, AreViewsSeen, IsValidated, ReportsAreVerdicts, report_of}

-- ---- a report tells its verdict
digests_told : (keep : Bool) (views : List (List ℕ)) (differ : List ℕ) → report_by keep views differ ≡ report_of keep (verdict_on_digests views differ)
digests_told keep views [] = refl
digests_told keep views (number ∷ more) = refl

-- ---- steps that were not refused
pub then_parts : {A B R : Type 0} (o : Result A R) (f : A → Result B R) (b : B) → and_then o f ≡ Ok b → (a : A) × (o ≡ Ok a) × (f a ≡ Ok b)
then_parts (Ok a) f b e = (a, refl, e)
then_parts (Err cause) f b e = absurd cc

ok_same : {X Y : Type 0} (x y : X) → ◌≡◌ {A = Result X Y} (Ok x) (Ok y) → x ≡ y
ok_same x y f = cc

pub cause_parts : {A B C : Type 0} (outer : B → C) (o : Result A B) (a : A) → with_cause outer o ≡ Ok a → o ≡ Ok a
cause_parts {A} {B} {C} outer (Ok b) a e = let same : b ≡ a = ok_same {X = A} {Y = C} b a e in ap (λ (z : A). Ok z) same
cause_parts outer (Err cause) a e = absurd cc

signature_parts : (o : Option ℕ) (x : ℕ) → or_no_signature o ≡ Ok x → o ≡ Some x
signature_parts (Some y) x e = ap (λ (z : ℕ). Some z) (ok_same {X = ℕ} {Y = ValidateRefusal} y x e)
signature_parts None x e = absurd cc

-- ---- a report
module _ (sources : Sources) (keep : Bool) (fields : Fields) (key : List ℕ) (told : Report) where
  abbrev octets : List ℕ
  octets = signed_octets sources.rows fields

  abbrev Reported : Type 0
  Reported = (views : List (List ℕ)) × AreViewsSeen (signature_holds fields.mac fields.bits key octets fields.value) (views_of sources fields.references) views
      × (told ≡ report_of keep (verdict_by (info_of fields) octets fields.value key views))

  reported : verdict sources keep fields key ≡ Ok told → Reported
  unfolding verdict references_report
  reported e = by (is_long_enough fields.mac bits) (nat_le (length octets) octet_limit) (is_mac_value fields.mac bits key octets fields.value) e
    where
      bits : ℕ
      bits = value_bits fields.mac fields.bits

      behind : List (List ℕ) → Report
      behind views = report_by keep views (differing 1 fields.references views)

      judged : List (List ℕ) → Verdict
      judged views = verdict_on_digests views (differing 1 fields.references views)

      by : (a b c : Bool)
          → (if not a then Ok (report.ShortTruncation bits) else (if not b then Err refusal.OctetsTooLong else (if not c then Ok report.SignatureDiffers
          else and_then (views_of sources fields.references) (λ views. Ok (behind views))))) ≡ Ok told
          → (views : List (List ℕ)) × AreViewsSeen (a && c) (views_of sources fields.references) views
          × (told ≡ report_of keep (if not a then verdicts.ShortTruncation bits else (if not c then verdicts.SignatureDiffers else judged views)))
      by false b c f = ([], refl, sym (ok_same {X = Report} {Y = ValidateRefusal} _ told f))
      by true false c f = absurd cc
      by true true false f = ([], refl, sym (ok_same {X = Report} {Y = ValidateRefusal} _ told f))
      by true true true f =
          let p = then_parts (views_of sources fields.references) (λ views. Ok (behind views)) told f in
          (p.0, p.1, sym (ok_same {X = Report} {Y = ValidateRefusal} _ told p.2) ∙ digests_told keep p.0 (differing 1 fields.references p.0))

pub reports_verdicts : ReportsAreVerdicts
unfolding outcome under_key
reports_verdicts document rows question files told s e =
    let first = then_parts (or_no_signature (nth_signature rows question.index)) _ told e in
    let x = first.0 in
    let sources : Sources = record { rows = rows; signature = x; place = question.place; files = files } in
    let second = then_parts (with_cause refusal.Fields (fields_of rows x)) (under_key sources question) told first.2 in
    let fields = second.0 in
    let fields_are = cause_parts refusal.Fields (fields_of rows x) fields second.1 in
    let third = then_parts (with_cause choice_refusal (key_of fields.key_name question)) (λ key. verdict sources question.keep_views fields key.octets) told second.2 in
    let seen = reported sources question.keep_views fields third.0.octets told third.2 in
    let fixed = octets_fix document rows x fields s fields_are in
    let g = fixed.fixed fixed.others fixed.spelled in
    record {
      signature = x;
      fields = fields;
      key = third.0;
      views = seen.0;
      signature_is = signature_parts (nth_signature rows question.index) x first.1;
      fields_are = fields_are;
      key_is = cause_parts choice_refusal (key_of fields.key_name question) third.0 third.1;
      views_are = seen.1;
      verdict = verdict_by g.0 (signed_octets rows fields) fields.value third.0.octets seen.0;
      verdict_is = record { rows = fixed.others; spelled = fixed.spelled; info = g.0; read = g.1; is = refl };
      told_is = seen.2 ∙ ap (report_of question.keep_views) (verdict_same (info_of fields) g.0 (signed_octets rows fields) fields.value third.0.octets seen.0 g.2);
    }

-- an answer that is the outcome
pub given_validated : (document : List ℕ) (rows : List RowOf) (question : QuestionOf) (files : Held) (result : Result Report ValidateRefusal)
    → Spells document rows → Gives (λ r. r) result (outcome rows question files) → IfOk result (IsValidated rows question files)
given_validated document rows question files (Ok told) s e = reports_verdicts document rows question files told s e
given_validated document rows question files (Err cause) s e = tt

-- ---- one report
pub agreeing_one : AgreeingReportsAreOne
agreeing_one rows others question asked files held one other a b octets value key views keep =
    let moved : IsVerdict (signed_octets others b.fields) b.fields.value b.key.octets b.views a.verdict =
    subst (λ (o : List ℕ). IsVerdict o b.fields.value b.key.octets b.views a.verdict) octets
    (subst (λ (v : List ℕ). IsVerdict (signed_octets rows a.fields) v b.key.octets b.views a.verdict) value
    (subst (λ (k : List ℕ). IsVerdict (signed_octets rows a.fields) a.fields.value k b.views a.verdict) key
    (subst (λ (w : List (List ℕ)). IsVerdict (signed_octets rows a.fields) a.fields.value a.key.octets w a.verdict) views a.verdict_is))) in
    let same = verdicts_one (signed_octets others b.fields) b.fields.value b.key.octets b.views a.verdict b.verdict moved b.verdict_is in
    a.told_is ∙ ap₂ report_of keep same ∙ sym b.told_is
