-- What is signed is valid.
use Rattle.std.proofs.Common.{◌≡◌, ℕ, suc, ◌+◌, ◌&&◌, Bool, true, false, not, if◌then◌else◌, Option, Some, None, Result, Ok, Err, List, [], ◌∷◌, length, map, refl, sym, ap, subst, ◌∙◌, arith}
use Rattle.std.specs.Prelude.{nat_le}
use Rattle.std.proofs.lemmas.Bool.{and_parts, false≢true}
use Rattle.std.proofs.lemmas.Slice.Eq.{bytes_eq-Decides}
use Rattle.sig_base.specs.Outcomes.{and_then, with_cause}
use Rattle.sig_outside.specs.Told.{Held}
use Rattle.digests_hmac.specs.KeyEntries.{KeyEntry}
use Rattle.dsig_base64.specs.Loose.{base64_of}
use Rattle.xml_doc.specs.Rows.{RowOf}
use Rattle.xml_read.specs.ReadOutcome.{read_outcome}
use Rattle.xml_read.specs.Spelled.{Spells}
use Rattle.xml_read.proofs.SpelledLaws.{spells_of}
use Rattle.row_spans.proofs.Read.{read_rows}
use Rattle.dsig_fields.specs.Fields.{fields_of}
use Rattle.dsig_fields.specs.Holds.{digest_holds, is_long_enough, is_mac_value, signature_holds, value_bits}
use Rattle.dsig_fields.specs.Keys.{QuestionOf, key_of}
use Rattle.dsig_fields.specs.Signatures.{nth_signature}
use Rattle.dsig_fields.specs.Verdicts.{differing}
use Rattle.dsig_fields.specs.declared.fields.Fields.{Fields}
use Rattle.dsig_fields.specs.declared.fields.Reference.{Reference}
use Rattle.dsig_fields.specs.declared.key.KeyChoice.{KeyChoice}
use Rattle.dsig_fields.specs.declared.refusal.FieldRefusal.{FieldRefusal}
use Rattle.transforms.specs.Outcome as validation
use Rattle.transforms.specs.Outcome.{Sources, canonical_signed_info, kept_if, last_step, next_view, references_report, report_by, total_limit, under_key, verdict, views_behind, views_of, within_total}
use Rattle.transforms.specs.Steps.{octet_limit}
use Rattle.transforms.specs.Values.{origin_of}
use Rattle.transforms.specs.Views.{view_of}
use Rattle.transforms.specs.declared.outcome.Report.{Report}
use Rattle.transforms.specs.declared.outcome.Report.TheVariants as report
use Rattle.transforms.specs.declared.outcome.ValidateRefusal.{ValidateRefusal}
use Rattle.transforms.specs.declared.outcome.ValidateRefusal.TheVariants as validate
use Rattle.transforms.specs.declared.refusal.RefRefusal.{RefRefusal}
use Rattle.transforms.specs.declared.refusal.RefRefusal.TheVariants as reason
use Rattle.core_validate.specs.Laws.{references_hold}
use Rattle.base64.specs.GeneralPurpose.{IsBytes}
use Rattle.row_fills.proofs.Together.{all_together}
use Rattle.signer.specs.Laws.{IsValid, SignedIsValid}
use Rattle.signer.specs.Outcome.{unless, or_no_signature, choice_refusal, not_text, views_from, is_view, first_changed, references_of, within_rows, covers_itself, info_within, outcome_of_views, outcome_under_key, outcome_of_fields, outcome_of_rows, outcome}
use Rattle.signer.specs.Signed.{AreSpelled, Holds, digest_fillings, signed, unsigned, value_under}
use Rattle.signer.specs.declared.refusal.SignRefusal.{SignRefusal}
use Rattle.signer.specs.declared.refusal.SignRefusal.TheVariants as refusal
use Rattle.signer.proofs.Octets.{kept_bytes}
use Rattle.signer.proofs.Premises.{ready}
use Rattle.signer.proofs.Valid.{found_named, holds_signed}

-- ---- the first law: the elements that are filled in can be
pub holds : (octets : List ℕ) (rows one two : List RowOf) (index x : ℕ) (fields : Fields) (views : List (List ℕ)) (key : List ℕ)
    → Spells octets rows → nth_signature rows index ≡ Some x → fields_of rows x ≡ Ok fields → not_text rows fields ≡ None
    → length views ≡ length fields.references → is_long_enough fields.mac (value_bits fields.mac fields.bits) ≡ true
    → Spells (unsigned octets rows fields views) one → Spells (signed octets rows fields views (value_under one fields key)) two
    → Holds one two index x fields views key
holds octets rows one two index x fields views key spells found is none long enough s s' =
    let shape = (read_rows octets rows spells).shape in
    let r = ready rows x fields views shape (found_named rows index x found) is none in
    holds_signed octets rows one two index x fields views key spells found is r.before r.lies long enough r.empty
    (r.value (value_under one fields key) (kept_bytes fields.mac key (canonical_signed_info one fields) (value_bits fields.mac fields.bits))) s s'

-- both documents are spelled
pub are_spelled : (octets : List ℕ) (rows : List RowOf) (index x : ℕ) (fields : Fields) (views : List (List ℕ)) → Spells octets rows → nth_signature rows index ≡ Some x → fields_of rows x ≡ Ok fields → not_text rows fields ≡ None
    → AreSpelled octets rows fields views
are_spelled octets rows index x fields views spells found is none =
    let shape = (read_rows octets rows spells).shape in
    let r = ready rows x fields views shape (found_named rows index x found) is none in
    let fs = digest_fillings fields.references views in
    let row = fields.value_row in
    let from = fields.signed_info + 1 in
    let empty = all_together octets rows from fs row [] [] [] [] spells r.empty r.empty in
    let both = λ (value : List ℕ) (bytes : IsBytes value). all_together octets rows from fs row [] [] (base64_of value) value spells r.empty (r.value value bytes) in
    let bytes = λ (key : List ℕ). kept_bytes fields.mac key (canonical_signed_info empty.one.others fields) (value_bits fields.mac fields.bits) in
    record {
      one = empty.one.others;
      before = empty.one.spells;
      two = λ key. (both (value_under empty.one.others fields key) (bytes key)).other.others;
      after = λ key. (both (value_under empty.one.others fields key) (bytes key)).other.spells;
    }

-- ---- steps of which each gave something
given : {A B R : Type 0} (r : Result A R) (f : A → Result B R) (y : B) → and_then r f ≡ Ok y → (x : A) × (r ≡ Ok x) × (f x ≡ Ok y)
given (Ok x) f y e = (x, refl, e)
given (Err cause) f y e = absurd cc

given_past : {A B R S : Type 0} (outer : S → R) (r : Result A S) (f : A → Result B R) (y : B) → and_then (with_cause outer r) f ≡ Ok y → (x : A) × (r ≡ Ok x) × (f x ≡ Ok y)
given_past outer (Ok x) f y e = (x, refl, e)
given_past outer (Err cause) f y e = absurd cc

given_unless : {B : Type 0} (why : ℕ → SignRefusal) (o : Option ℕ) (f : Unit {0} → Result B SignRefusal) (y : B) → and_then (unless why o) f ≡ Ok y → (o ≡ None) × (f tt ≡ Ok y)
given_unless why None f y e = (refl, e)
given_unless why (Some k) f y e = absurd cc

given_test : {B : Type 0} (b : Bool) (why : SignRefusal) (f : Unit {0} → Result B SignRefusal) (y : B) → and_then (if b then Ok tt else Err why) f ≡ Ok y → (b ≡ true) × (f tt ≡ Ok y)
given_test true why f y e = (refl, e)
given_test false why f y e = absurd cc

given_signature : {B : Type 0} (o : Option ℕ) (f : ℕ → Result B SignRefusal) (y : B) → and_then (or_no_signature o) f ≡ Ok y → (x : ℕ) × (o ≡ Some x) × (f x ≡ Ok y)
given_signature (Some x) f y e = (x, refl, e)
given_signature None f y e = absurd cc

-- ---- the views of the template are those of a validation
next_by : {A : Type 0} (number : ℕ) (r : Result A RefRefusal) (x : A) → r ≡ Ok x → with_cause (validate.Reference number) r ≡ Ok x
next_by number r x e = ap (with_cause (validate.Reference number)) e

behind_by : (sources : Sources) (total number : ℕ) (r : Reference) (rs : List Reference) (view : List ℕ) (others : List (List ℕ)) → next_view sources total r ≡ Ok view
    → views_behind sources (total + length view) (number + 1) rs ≡ Ok others → views_behind sources total number (r ∷ rs) ≡ Ok (view ∷ others)
unfolding views_behind
behind_by sources total number r rs view others e f =
    ap (λ (n : Result (List ℕ) RefRefusal). and_then (with_cause (validate.Reference number) n) (λ v. and_then (views_behind sources (total + length v) (number + 1) rs) (λ vs. Ok (v ∷ vs)))) e
    ∙ ap (λ (n : Result (List (List ℕ)) ValidateRefusal). and_then n (λ vs. Ok (view ∷ vs))) f

-- the first view, and the others
pub record Parts (sources : Sources) (total number : ℕ) (r : Reference) (rs : List Reference) (views : List (List ℕ)) : Type 0 where
  pub view : List ℕ
  pub others : List (List ℕ)
  pub first : next_view sources total r ≡ Ok view
  pub rest : views_from sources (total + length view) (number + 1) rs ≡ Ok others
  pub are : views ≡ view ∷ others

pub parts : (sources : Sources) (total number : ℕ) (r : Reference) (rs : List Reference) (views : List (List ℕ)) → views_from sources total number (r ∷ rs) ≡ Ok views → Parts sources total number r rs views
unfolding views_from
parts sources total number r rs views e =
    let a = given_past (refusal.Reference number) (next_view sources total r) (λ v. and_then (views_from sources (total + length v) (number + 1) rs) (λ vs. Ok (v ∷ vs))) views e in
    let b = given (views_from sources (total + length a.0) (number + 1) rs) (λ vs. Ok (a.0 ∷ vs)) views a.2 in
    record { view = a.0; others = b.0; first = a.1; rest = b.1; are = list_is views (a.0 ∷ b.0) (sym b.2) }
  where
    list_is : (xs ys : List (List ℕ)) → ◌≡◌ {A = Result (List (List ℕ)) SignRefusal} (Ok xs) (Ok ys) → xs ≡ ys
    list_is xs ys k = cc

pub none_are : (sources : Sources) (total number : ℕ) (views : List (List ℕ)) → views_from sources total number [] ≡ Ok views → views ≡ []
unfolding views_from
none_are sources total number views e = let same : [] ≡ views = cc in sym same

had : (sources : Sources) (total number : ℕ) (rs : List Reference) (views : List (List ℕ)) → views_from sources total number rs ≡ Ok views → views_behind sources total number rs ≡ Ok views
unfolding views_behind
had sources total number [] views e = ap Ok (sym (none_are sources total number views e))
had sources total number (r ∷ rs) views e =
    let p = parts sources total number r rs views e in
    behind_by sources total number r rs p.view p.others p.first (had sources (total + length p.view) (number + 1) rs p.others p.rest) ∙ ap Ok (sym p.are)

pub counted : (sources : Sources) (total number : ℕ) (rs : List Reference) (views : List (List ℕ)) → views_from sources total number rs ≡ Ok views → length views ≡ length rs
counted sources total number [] views e = ap length (none_are sources total number views e)
counted sources total number (r ∷ rs) views e =
    let p = parts sources total number r rs views e in
    ap length p.are ∙ ap suc (counted sources (total + length p.view) (number + 1) rs p.others p.rest)

-- ---- and those of the signed document, where none has changed
pub is_had : (r : Result (List ℕ) RefRefusal) (view : List ℕ) → is_view r view ≡ true → r ≡ Ok view
is_had (Ok other) view e = ap Ok ((bytes_eq-Decides other view).0 e)
is_had (Err cause) view e = absurd (false≢true e)

-- a view within the limit on all views
within : (total number : ℕ) (view other : List ℕ) → within_total total number view ≡ Ok other → (nat_le (total + length view) total_limit ≡ true) × (view ≡ other)
within total number view other e = go (nat_le (total + length view) total_limit) refl e
  where
    go : (b : Bool) → nat_le (total + length view) total_limit ≡ b → (if b then Ok view else Err (reason.OctetsTooLong number)) ≡ Ok other → (nat_le (total + length view) total_limit ≡ true) × (view ≡ other)
    go true is f = (is, cc)
    go false is f = absurd cc

module _ (sources now : Sources) where
  pub next_same : (total : ℕ) (r s : Reference) (view : List ℕ) → next_view sources total r ≡ Ok view → view_of (origin_of now.rows (Some now.signature)) now.place now.files s ≡ Ok view → next_view now total s ≡ Ok view
  unfolding next_view
  next_same total r s view e f =
      let a = given (view_of (origin_of sources.rows (Some sources.signature)) sources.place sources.files r) (within_total total (last_step r)) view e in
      let w = within total (last_step r) a.0 view a.2 in
      ap (λ (n : Result (List ℕ) RefRefusal). and_then n (within_total total (last_step s))) f
      ∙ ap (λ b. if b then Ok view else Err (reason.OctetsTooLong (last_step s))) (ap (λ v. nat_le (total + length v) total_limit) (sym w.1) ∙ w.0)

  pub tested : (number : ℕ) (s : Reference) (ss : List Reference) (view : List ℕ) (others : List (List ℕ)) → first_changed now number (s ∷ ss) (view ∷ others) ≡ None
      → (is_view (view_of (origin_of now.rows (Some now.signature)) now.place now.files s) view ≡ true) × (first_changed now (number + 1) ss others ≡ None)
  unfolding first_changed
  tested number s ss view others f = go (is_view (view_of (origin_of now.rows (Some now.signature)) now.place now.files s) view) refl f
    where
      go : (b : Bool) → is_view (view_of (origin_of now.rows (Some now.signature)) now.place now.files s) view ≡ b
          → (if b then first_changed now (number + 1) ss others else Some number) ≡ None → (is_view (view_of (origin_of now.rows (Some now.signature)) now.place now.files s) view ≡ true) × (first_changed now (number + 1) ss others ≡ None)
      go true is k = (is, k)
      go false is k = absurd cc

  same_views : (total number : ℕ) (rs ss : List Reference) (views : List (List ℕ)) → views_from sources total number rs ≡ Ok views → length ss ≡ length rs → first_changed now number ss views ≡ None
      → views_behind now total number ss ≡ Ok views
  unfolding views_behind
  same_views total number [] [] views e count none = ap Ok (sym (none_are sources total number views e))
  same_views total number [] (s ∷ ss) views e count none = absurd (omega (arith, count))
  same_views total number (r ∷ rs) [] views e count none = absurd (omega (arith, count))
  same_views total number (r ∷ rs) (s ∷ ss) views e count none =
      let p = parts sources total number r rs views e in
      let all : first_changed now number (s ∷ ss) (p.view ∷ p.others) ≡ None = subst (λ vs. first_changed now number (s ∷ ss) vs ≡ None) p.are none in
      let t = tested number s ss p.view p.others all in
      behind_by now total number s ss p.view p.others (next_same total r s p.view p.first (is_had (view_of (origin_of now.rows (Some now.signature)) now.place now.files s) p.view t.0))
      (same_views (total + length p.view) (number + 1) rs ss p.others p.rest (omega (arith, count)) t.1)
      ∙ ap Ok (sym p.are)

-- ---- the verdict
none_differs : (number : ℕ) (rs : List Reference) (views : List (List ℕ)) → references_hold rs views ≡ true → differing number rs views ≡ []
unfolding references_hold differing
none_differs number [] views h = refl
none_differs number (r ∷ rs) [] h = refl
none_differs number (r ∷ rs) (view ∷ views) h =
    let p = and_parts (digest_holds r.digest view r.expected) (references_hold rs views) h in
    ap (λ b. if b then differing (number + 1) rs views else number ∷ differing (number + 1) rs views) p.0 ∙ none_differs (number + 1) rs views p.1

valid_report : Bool → List (List ℕ) → Report
valid_report keep views = report.Valid (record { lengths = map length views; octets = kept_if keep views })

verdict_is : (sources : Sources) (keep : Bool) (fields : Fields) (key : List ℕ) (views : List (List ℕ)) → nat_le (length (canonical_signed_info sources.rows fields)) octet_limit ≡ true
    → views_of sources fields.references ≡ Ok views
    → (signature_holds fields.mac fields.bits key (canonical_signed_info sources.rows fields) fields.value && references_hold fields.references views) ≡ true
    → verdict sources keep fields key ≡ Ok (valid_report keep views)
unfolding verdict references_report valid_report
verdict_is sources keep fields key views short are both =
    let bits = value_bits fields.mac fields.bits in
    let form = canonical_signed_info sources.rows fields in
    let h = and_parts (signature_holds fields.mac fields.bits key form fields.value) (references_hold fields.references views) both in
    let g = and_parts (is_long_enough fields.mac bits) (is_mac_value fields.mac bits key form fields.value) h.0 in
    let report_is = references_report sources keep fields.references in
    ap (λ b. if not b then Ok (report.ShortTruncation bits) else (if not (nat_le (length form) octet_limit) then Err validate.OctetsTooLong else (if not (is_mac_value fields.mac bits key form fields.value) then Ok report.SignatureDiffers else report_is))) g.0
    ∙ ap (λ b. if not b then Err validate.OctetsTooLong else (if not (is_mac_value fields.mac bits key form fields.value) then Ok report.SignatureDiffers else report_is)) short
    ∙ ap (λ b. if not b then Ok report.SignatureDiffers else report_is) g.1
    ∙ ap (λ (n : Result (List (List ℕ)) ValidateRefusal). and_then n (λ vs. Ok (report_by keep vs (differing 1 fields.references vs)))) are
    ∙ ap (λ d. Ok (report_by keep views d)) (none_differs 1 fields.references views h.1)

abbrev pub sources_at : List RowOf → ℕ → QuestionOf → Held → Sources
sources_at rows x question files = record { rows = rows; signature = x; place = question.place; files = files }

outcome_is : (rows : List RowOf) (question : QuestionOf) (files : Held) (x : ℕ) (fields : Fields) (key : KeyEntry) (reported : Report) → nth_signature rows question.index ≡ Some x → fields_of rows x ≡ Ok fields
    → key_of fields.key_name question ≡ Ok key → verdict (sources_at rows x question files) question.keep_views fields key.octets ≡ Ok reported
    → validation.outcome rows question files ≡ Ok reported
unfolding validation.outcome under_key
outcome_is rows question files x fields key reported found is chosen e =
    let next = λ (y : ℕ). and_then (with_cause validate.Fields (fields_of rows y)) (under_key (sources_at rows y question files) question) in
    let sources = sources_at rows x question files in
    ap (λ o. and_then (validation.or_no_signature o) next) found
    ∙ ap (λ (r : Result Fields FieldRefusal). and_then (with_cause validate.Fields r) (under_key sources question)) is
    ∙ ap (λ (r : Result KeyEntry KeyChoice). and_then (with_cause validation.choice_refusal r) (λ k. verdict sources question.keep_views fields k.octets)) chosen
    ∙ e

-- ---- the steps of signing
-- what is known where the template is filled in
pub record Filled (octets : List ℕ) (sources : Sources) (fields : Fields) (key : List ℕ) (views : List (List ℕ)) (made : List ℕ) : Type 0 where
  pub one : List RowOf
  pub two : List RowOf
  pub read_one : read_outcome (unsigned octets sources.rows fields views) ≡ Ok one
  pub read_two : read_outcome made ≡ Ok two
  pub made_is : made ≡ signed octets sources.rows fields views (value_under one fields key)
  pub short : nat_le (length (canonical_signed_info one fields)) octet_limit ≡ true
  pub same : first_changed (within_rows sources two) 1 (references_of (fields_of two sources.signature)) views ≡ None

filled : (octets : List ℕ) (sources : Sources) (fields : Fields) (key : List ℕ) (views : List (List ℕ)) (made : List ℕ) → outcome_of_views octets sources fields key views ≡ Ok made → Filled octets sources fields key views made
unfolding outcome_of_views
filled octets sources fields key views made e =
    let value = λ (one : List RowOf). signed octets sources.rows fields views (value_under one fields key) in
    let last = λ (one two : List RowOf). and_then (unless refusal.CoversItself (covers_itself sources two views)) (λ same. Ok (value one)) in
    let a = given_past refusal.Filled (read_outcome (unsigned octets sources.rows fields views)) (λ one. and_then (with_cause refusal.Filled (read_outcome (value one))) (λ two. and_then (info_within one fields) (λ within. last one two))) made e in
    let b = given_past refusal.Filled (read_outcome (value a.0)) (λ two. and_then (info_within a.0 fields) (λ within. last a.0 two)) made a.2 in
    let c = given_test (nat_le (length (canonical_signed_info a.0 fields)) octet_limit) refusal.OctetsTooLong (λ within. last a.0 b.0) made b.2 in
    let d = given_unless refusal.CoversItself (covers_itself sources b.0 views) (λ same. Ok (value a.0)) made c.1 in
    let is : value a.0 ≡ made = octets_are (value a.0) made d.1 in
    record { one = a.0; two = b.0; read_one = a.1; read_two = ap read_outcome (sym is) ∙ b.1; made_is = sym is; short = c.0; same = d.0 }
  where
    octets_are : (xs ys : List ℕ) → ◌≡◌ {A = Result (List ℕ) SignRefusal} (Ok xs) (Ok ys) → xs ≡ ys
    octets_are xs ys k = cc

-- and before
pub record UnderKey (octets : List ℕ) (sources : Sources) (fields : Fields) (key : List ℕ) (made : List ℕ) : Type 0 where
  pub long : is_long_enough fields.mac (value_bits fields.mac fields.bits) ≡ true
  pub texts : not_text sources.rows fields ≡ None
  pub views : List (List ℕ)
  pub views_are : views_from sources 0 1 fields.references ≡ Ok views
  pub then_filled : Filled octets sources fields key views made

under : (octets : List ℕ) (sources : Sources) (fields : Fields) (key made : List ℕ) → outcome_under_key octets sources fields key ≡ Ok made → UnderKey octets sources fields key made
unfolding outcome_under_key
under octets sources fields key made e =
    let views_next = and_then (views_from sources 0 1 fields.references) (outcome_of_views octets sources fields key) in
    let bits = value_bits fields.mac fields.bits in
    let a = given_test (is_long_enough fields.mac bits) (refusal.ShortTruncation bits) (λ enough. and_then (unless refusal.NotText (not_text sources.rows fields)) (λ texts. views_next)) made e in
    let b = given_unless refusal.NotText (not_text sources.rows fields) (λ texts. views_next) made a.1 in
    let c = given (views_from sources 0 1 fields.references) (outcome_of_views octets sources fields key) made b.1 in
    record { long = a.0; texts = b.0; views = c.0; views_are = c.1; then_filled = filled octets sources fields key c.0 made c.2 }

pub record OfFields (octets : List ℕ) (sources : Sources) (question : QuestionOf) (fields : Fields) (made : List ℕ) : Type 0 where
  pub key : KeyEntry
  pub chosen : key_of fields.key_name question ≡ Ok key
  pub then_under : UnderKey octets sources fields key.octets made

of_fields : (octets : List ℕ) (sources : Sources) (question : QuestionOf) (fields : Fields) (made : List ℕ) → outcome_of_fields octets sources question fields ≡ Ok made → OfFields octets sources question fields made
unfolding outcome_of_fields
of_fields octets sources question fields made e =
    let a = given_past choice_refusal (key_of fields.key_name question) (λ key. outcome_under_key octets sources fields key.octets) made e in
    record { key = a.0; chosen = a.1; then_under = under octets sources fields a.0.octets made a.2 }

pub record OfOctets (octets : List ℕ) (question : QuestionOf) (files : Held) (made : List ℕ) : Type 0 where
  pub rows : List RowOf
  pub read : read_outcome octets ≡ Ok rows
  pub x : ℕ
  pub found : nth_signature rows question.index ≡ Some x
  pub fields : Fields
  pub fields_are : fields_of rows x ≡ Ok fields
  pub then_fields : OfFields octets (sources_at rows x question files) question fields made

pub of_octets : (octets : List ℕ) (question : QuestionOf) (files : Held) (made : List ℕ) → outcome octets question files ≡ Ok made → OfOctets octets question files made
unfolding outcome outcome_of_rows
of_octets octets question files made e =
    let a = given_past refusal.Read (read_outcome octets) (λ rows. outcome_of_rows octets rows question files) made e in
    let b = given_signature (nth_signature a.0 question.index) (λ x. and_then (with_cause refusal.Fields (fields_of a.0 x)) (outcome_of_fields octets (sources_at a.0 x question files) question)) made a.2 in
    let c = given_past refusal.Fields (fields_of a.0 b.0) (outcome_of_fields octets (sources_at a.0 b.0 question files) question) made b.2 in
    record { rows = a.0; read = a.1; x = b.0; found = b.1; fields = c.0; fields_are = c.1; then_fields = of_fields octets (sources_at a.0 b.0 question files) question c.0 made c.2 }

-- ---- and so the signed document is valid
module _ (octets : List ℕ) (question : QuestionOf) (files : Held) (made : List ℕ) (s : OfOctets octets question files made) where
  key : KeyEntry
  key = s.then_fields.key

  u : UnderKey octets (sources_at s.rows s.x question files) s.fields s.then_fields.key.octets made
  u = s.then_fields.then_under

  f : Filled octets (sources_at s.rows s.x question files) s.fields s.then_fields.key.octets u.views made
  f = u.then_filled

  now : Sources
  now = sources_at f.two s.x question files

  both : Holds f.one f.two question.index s.x s.fields u.views s.then_fields.key.octets
  both =
      holds octets s.rows f.one f.two question.index s.x s.fields u.views s.then_fields.key.octets (spells_of octets s.rows s.read) s.found s.fields_are u.texts
      (counted (sources_at s.rows s.x question files) 0 1 s.fields.references u.views u.views_are) u.long (spells_of (unsigned octets s.rows s.fields u.views) f.one f.read_one)
      (subst (λ o. Spells o f.two) f.made_is (spells_of made f.two f.read_two))

  views_now : views_of (sources_at f.two s.x question files) both.read.references ≡ Ok u.views
  views_now =
      same_views (sources_at s.rows s.x question files) (sources_at f.two s.x question files) 0 1 s.fields.references both.read.references u.views u.views_are both.count
      (subst (λ r. first_changed (sources_at f.two s.x question files) 1 (references_of r) u.views ≡ None) both.fields_are f.same)

  is_valid : IsValid octets question files made
  unfolding valid_report
  is_valid = record {
    template = s.rows;
    is_template = s.read;
    signature = s.x;
    found = s.found;
    fields = s.fields;
    fields_are = s.fields_are;
    views = u.views;
    views_are = had (sources_at s.rows s.x question files) 0 1 s.fields.references u.views u.views_are;
    rows = f.two;
    read = f.read_two;
    valid =
        outcome_is f.two question files s.x both.read s.then_fields.key (valid_report question.keep_views u.views) both.found both.fields_are (ap (λ n. key_of n question) (sym both.key_name) ∙ s.then_fields.chosen)
        (verdict_is (sources_at f.two s.x question files) question.keep_views both.read s.then_fields.key.octets u.views (ap (λ o. nat_le (length o) octet_limit) both.info ∙ f.short) views_now both.holds);
  }

pub signed_is_valid : SignedIsValid
signed_is_valid octets made question files e = is_valid octets question files made (of_octets octets question files made e)
