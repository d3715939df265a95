-- A validation is valid exactly where signature validation and reference validation hold.
use Rattle.std.proofs.Common.{◌≡◌, ◌∙◌, ◌↔◌, ◌&&◌, ℕ, suc, ◌+◌, ◌≤◌, Bool, true, false, not, List, [], ◌∷◌, length, map, Option, Some, None, Result, Ok, Err, refl, ap, sym, subst, arith}
use Rattle.std.specs.Prelude.{nat_le, if◌then◌else◌}
use Rattle.std.specs.List.{All}
use Rattle.std.proofs.lemmas.Bool.{and_parts, false≢true, le-leb}
use Rattle.std.proofs.lemmas.List.Elements.{All-cons, All-head, All-nil, All-tail}
use Rattle.xml_doc.specs.Rows.{RowOf}
use Rattle.dsig_fields.specs.Holds.{digest_holds, is_long_enough, is_mac_value, signature_holds, value_bits}
use Rattle.dsig_fields.specs.declared.fields.Fields.{Fields}
use Rattle.dsig_fields.specs.declared.fields.Reference.{Reference}
use Rattle.dsig_fields.specs.declared.key.KeyChoice.{KeyChoice}
use Rattle.dsig_fields.specs.declared.refusal.FieldRefusal.{FieldRefusal}
use Rattle.sig_base.specs.Outcomes.{and_then, with_cause}
use Rattle.sig_base.specs.declared.lists.Views.{Views}
use Rattle.sig_outside.specs.Told.{Held}
use Rattle.digests_hmac.specs.KeyEntries.{KeyEntry}
use Rattle.dsig_fields.specs.Fields.{fields_of}
use Rattle.dsig_fields.specs.Keys.{QuestionOf, key_of}
use Rattle.dsig_fields.specs.Signatures.{nth_signature}
use Rattle.dsig_fields.specs.Verdicts.{differing}
use Rattle.transforms.specs.Outcome.{Sources, canonical_signed_info, kept_if, last_step, next_view, outcome, references_report, report_by, total_limit, verdict, views_behind, views_of, within_total}
use Rattle.transforms.specs.Steps.{octet_limit}
use Rattle.transforms.specs.declared.outcome.Report.{Report}
use Rattle.transforms.specs.declared.outcome.Report.TheVariants as report
use Rattle.transforms.specs.declared.outcome.ValidateRefusal.{ValidateRefusal}
use Rattle.transforms.specs.declared.outcome.ValidateRefusal.TheVariants as refusal
use Rattle.transforms.specs.declared.refusal.RefRefusal.{RefRefusal}
use Rattle.transforms.specs.declared.refusal.RefRefusal.TheVariants.{OctetsTooLong}
use Rattle.core_validate.specs.Laws.{AreCompared, CoreHolds, HandsOnCompared, IsValid, OutcomeExactly, ReferenceHolds, ValidExactly, references_hold, view_in}
use Rattle.core_validate.specs.Progress.{sources_of}
use Rattle.core_validate.specs.Reached.{IsAuthentic}
use Rattle.core_validate.specs.Code.Signature.{IsFailure, signature_check}
use Rattle.core_validate.specs.declared.validation.SignatureCheck.{SignatureCheck}
use Rattle.core_validate.specs.declared.validation.SignatureCheck.TheVariants as check
use Rattle.core_validate.proofs.OutcomeLaws.{authentic, checked, fails_not, fails_so, given, goes_on, outcome_by}

-- ---- as many views as References
one_more : (view : List ℕ) (n : ℕ) (r : Result (List (List ℕ)) ValidateRefusal) (views : List (List ℕ))
    → ((others : List (List ℕ)) → r ≡ Ok others → length others ≡ n)
    → and_then r (λ others. Ok (view ∷ others)) ≡ Ok views → length views ≡ suc n
one_more view n (Ok others) views count e =
    let same : view ∷ others ≡ views = cc in
    ap length (sym same) ∙ ap suc (count others refl)
one_more view n (Err cause) views count e = cc

first_more : (number n : ℕ) (f : List ℕ → Result (List (List ℕ)) ValidateRefusal) (r : Result (List ℕ) RefRefusal) (views : List (List ℕ))
    → ((view : List ℕ) → f view ≡ Ok views → length views ≡ suc n)
    → and_then (with_cause (refusal.Reference number) r) f ≡ Ok views → length views ≡ suc n
first_more number n f (Ok view) views count e = count view e
first_more number n f (Err cause) views count e = cc

as_many : (sources : Sources) (total number : ℕ) (references : List Reference) (views : List (List ℕ))
    → views_behind sources total number references ≡ Ok views → length views ≡ length references
unfolding views_behind
as_many sources total number [] views e = let same : [] ≡ views = cc in ap length (sym same)
as_many sources total number (reference ∷ more) views e =
    first_more number (length more) (λ view. and_then (views_behind sources (total + length view) (number + 1) more) (λ others. Ok (view ∷ others))) (next_view sources total reference) views
    (λ view. one_more view (length more) (views_behind sources (total + length view) (number + 1) more) views (as_many sources (total + length view) (number + 1) more))
    e

-- ---- no digest differs exactly where each is that of its view
none_differs : (number : ℕ) (references : List Reference) (views : List (List ℕ)) → length views ≡ length references
    → differing number references views ≡ [] → references_hold references views ≡ true
unfolding differing references_hold
none_differs number [] views e none = refl
none_differs number (reference ∷ more) [] e none = absurd (omega (arith, e))
none_differs number (reference ∷ more) (view ∷ others) e none =
    one_of (digest_holds reference.digest view reference.expected) none (none_differs (number + 1) more others (omega (arith, e)))
  where
    one_of : (b : Bool) → (if b then differing (number + 1) more others else number ∷ differing (number + 1) more others) ≡ []
        → (differing (number + 1) more others ≡ [] → references_hold more others ≡ true)
        → (b && references_hold more others) ≡ true
    one_of true none later = later none
    one_of false none later = cc

all_hold : (number : ℕ) (references : List Reference) (views : List (List ℕ))
    → references_hold references views ≡ true → differing number references views ≡ []
unfolding differing references_hold
all_hold number [] views hold = refl
all_hold number (reference ∷ more) [] hold = refl
all_hold number (reference ∷ more) (view ∷ others) hold =
    one_of (digest_holds reference.digest view reference.expected) hold (all_hold (number + 1) more others)
  where
    one_of : (b : Bool) → (b && references_hold more others) ≡ true → (references_hold more others ≡ true → differing (number + 1) more others ≡ [])
        → (if b then differing (number + 1) more others else number ∷ differing (number + 1) more others) ≡ []
    one_of true hold later = later hold
    one_of false hold later = absurd (false≢true hold)

-- ---- the report
abbrev valid : Bool → List (List ℕ) → Report
valid keep views = report.Valid (record { lengths = map length views; octets = kept_if keep views })

-- the verdict, where no view is refused
abbrev verdict_of : (long stands : Bool) → (bits : ℕ) → Report → Result Report ValidateRefusal
verdict_of long stands bits reported =
    if not long then Ok (report.ShortTruncation bits) else (if not stands then Ok report.SignatureDiffers else Ok reported)

valid_if : (long stands hold : Bool) (bits : ℕ) (keep : Bool) (views : List (List ℕ)) (differ : List ℕ)
    → (differ ≡ [] → hold ≡ true) → verdict_of long stands bits (report_by keep views differ) ≡ Ok (valid keep views)
    → ((long && stands) && hold) ≡ true
valid_if false stands hold bits keep views differ none e = cc
valid_if true false hold bits keep views differ none e = cc
valid_if true true hold bits keep views [] none e = none refl
valid_if true true hold bits keep views (number ∷ more) none e = cc

only_if : (long stands hold : Bool) (bits : ℕ) (keep : Bool) (views : List (List ℕ)) (differ : List ℕ)
    → (hold ≡ true → differ ≡ []) → ((long && stands) && hold) ≡ true
    → verdict_of long stands bits (report_by keep views differ) ≡ Ok (valid keep views)
only_if false stands hold bits keep views differ none e = absurd (false≢true e)
only_if true false hold bits keep views differ none e = absurd (false≢true e)
only_if true true hold bits keep views differ none e = ap (λ (d : List ℕ). Ok (report_by keep views d)) (none e)

module _ (sources : Sources) (keep : Bool) (fields : Fields) (key : List ℕ) (views : List (List ℕ)) where
  abbrev octets : List ℕ
  octets = canonical_signed_info sources.rows fields

  abbrev bits : ℕ
  bits = value_bits fields.mac fields.bits

  abbrev long : Bool
  long = is_long_enough fields.mac bits

  abbrev stands : Bool
  stands = is_mac_value fields.mac bits key octets fields.value

  abbrev differ : List ℕ
  differ = differing 1 fields.references views

  all_reported : views_of sources fields.references ≡ Ok views → references_report sources keep fields.references ≡ Ok (report_by keep views differ)
  unfolding references_report
  all_reported had =
      ap (λ (r : Result (List (List ℕ)) ValidateRefusal). and_then r (λ all. Ok (report_by keep all (differing 1 fields.references all)))) had

  abbrev by_length : Bool → Result Report ValidateRefusal
  by_length within =
      if not long then Ok (report.ShortTruncation bits)
      else (if not within then Err refusal.OctetsTooLong
      else (if not stands then Ok report.SignatureDiffers else references_report sources keep fields.references))

  verdict_is : length octets ≤ octet_limit → views_of sources fields.references ≡ Ok views
      → verdict sources keep fields key ≡ verdict_of long stands bits (report_by keep views differ)
  unfolding verdict
  verdict_is short had =
      ap by_length (le-leb (length octets) octet_limit short) ∙ ap (λ (r : Result Report ValidateRefusal). if not long then Ok (report.ShortTruncation bits) else (if not stands then Ok report.SignatureDiffers else r)) (all_reported had)

  exactly : length octets ≤ octet_limit → views_of sources fields.references ≡ Ok views
      → (verdict sources keep fields key ≡ Ok (valid keep views)) ↔ ((signature_holds fields.mac fields.bits key octets fields.value && references_hold fields.references views) ≡ true)
  exactly short had =
      let hold = references_hold fields.references views in
      let count = as_many sources 0 1 fields.references views had in (
        λ e. valid_if long stands hold bits keep views differ (none_differs 1 fields.references views count) (sym (verdict_is short had) ∙ e),
        λ h. verdict_is short had ∙ only_if long stands hold bits keep views differ (all_hold 1 fields.references views) h,
      )

pub valid_exactly : ValidExactly
valid_exactly sources keep fields key views short had = exactly sources keep fields key views short had

-- ---- the whole outcome
within_same : (total number : ℕ) (view other : List ℕ) → within_total total number view ≡ Ok other → view ≡ other
within_same total number view other e = go (nat_le (total + length view) total_limit) e
  where
    go : (b : Bool) → (if b then Ok view else Err (OctetsTooLong number)) ≡ Ok other → view ≡ other
    go true h = cc
    go false h = absurd cc

next_given : (sources : Sources) (total : ℕ) (reference : Reference) (view : List ℕ) → next_view sources total reference ≡ Ok view → view_in sources reference ≡ Ok view
unfolding next_view
next_given sources total reference view e =
    let one = given (view_in sources reference) (within_total total (last_step reference)) view e in
    one.1 ∙ ap Ok (within_same total (last_step reference) one.0 view one.2)

-- the views are those of the References
module _ (sources : Sources) where
  first_given : (reference : Reference) (rest : List Reference) (number : ℕ) (r : Result (List ℕ) RefRefusal) (f : List ℕ → Result (List (List ℕ)) ValidateRefusal) (views : List (List ℕ))
      → ((view : List ℕ) → r ≡ Ok view → f view ≡ Ok views → map (view_in sources) (reference ∷ rest) ≡ map Ok views)
      → and_then (with_cause (refusal.Reference number) r) f ≡ Ok views → map (view_in sources) (reference ∷ rest) ≡ map Ok views
  first_given reference rest number (Ok view) f views each e = each view refl e
  first_given reference rest number (Err cause) f views each e = absurd cc

  are_views : (total number : ℕ) (references : List Reference) (views : List (List ℕ)) → views_behind sources total number references ≡ Ok views → map (view_in sources) references ≡ map Ok views
  unfolding views_behind
  are_views total number [] views e = let same : [] ≡ views = cc in ap (map Ok) same
  are_views total number (reference ∷ more) views e =
      first_given reference more number (next_view sources total reference) (λ view. and_then (views_behind sources (total + length view) (number + 1) more) (λ others. Ok (view ∷ others))) views
      (λ view h k.
      let rest = given (views_behind sources (total + length view) (number + 1) more) (λ others. Ok (view ∷ others)) views k in
      joined view rest.0 (next_given sources total reference view h) (are_views (total + length view) (number + 1) more rest.0 rest.1) rest.2)
      e
    where
      joined : (view : List ℕ) (others : List (List ℕ)) → view_in sources reference ≡ Ok view → map (view_in sources) more ≡ map Ok others → ◌≡◌ {A = Result (List (List ℕ)) ValidateRefusal} (Ok (view ∷ others)) (Ok views)
          → map (view_in sources) (reference ∷ more) ≡ map Ok views
      joined view others p q k = let same : view ∷ others ≡ views = cc in rw (p, q) (ap (map Ok) same)

  -- each digest holds of its view exactly where reference validation holds
  all_digests : (references : List Reference) (views : List (List ℕ)) → map (view_in sources) references ≡ map Ok views → references_hold references views ≡ true → All (ReferenceHolds sources) references
  unfolding references_hold
  all_digests [] views e h = All-nil (ReferenceHolds sources)
  all_digests (reference ∷ more) [] e h = absurd (false≢true h)
  all_digests (reference ∷ more) (view ∷ others) e h =
      let parts = and_parts (digest_holds reference.digest view reference.expected) (references_hold more others) h in
      let first : view_in sources reference ≡ Ok view = cc in
      let rest : map (view_in sources) more ≡ map Ok others = cc in
      All-cons (ReferenceHolds sources) reference more (record { view = view; is = first; digest = parts.0 }) (all_digests more others rest parts.1)

  digests_of : (references : List Reference) (views : List (List ℕ)) → map (view_in sources) references ≡ map Ok views → All (ReferenceHolds sources) references → references_hold references views ≡ true
  unfolding references_hold
  digests_of [] views e h = refl
  digests_of (reference ∷ more) [] e h = cc
  digests_of (reference ∷ more) (view ∷ others) e h =
      let one = All-head (ReferenceHolds sources) reference more h in
      let first : view_in sources reference ≡ Ok view = cc in
      let rest : map (view_in sources) more ≡ map Ok others = cc in
      let same : one.view ≡ view = ok_is one.view view (sym one.is ∙ first) in
      both (digest_holds reference.digest view reference.expected) (references_hold more others)
      (ap (λ (t : List ℕ). digest_holds reference.digest t reference.expected) (sym same) ∙ one.digest)
      (digests_of more others rest (All-tail (ReferenceHolds sources) reference more h))
    where
      ok_is : (a b : List ℕ) → ◌≡◌ {A = Result (List ℕ) RefRefusal} (Ok a) (Ok b) → a ≡ b
      ok_is a b k = cc

      both : (a b : Bool) → a ≡ true → b ≡ true → (a && b) ≡ true
      both true b p q = q
      both false b p q = cc

-- what the References come to
record Referred (sources : Sources) (keep : Bool) (references : List Reference) (reported : Report) : Type 0 where
  views : List (List ℕ)
  had : views_of sources references ≡ Ok views
  is : report_by keep views (differing 1 references views) ≡ reported

referred : (sources : Sources) (keep : Bool) (references : List Reference) (reported : Report) → references_report sources keep references ≡ Ok reported → Referred sources keep references reported
unfolding references_report
referred sources keep references reported e =
    let one = given (views_of sources references) (λ views. Ok (report_by keep views (differing 1 references views))) reported e in
    record { views = one.0; had = one.1; is = ok_is (report_by keep one.0 (differing 1 references one.0)) reported one.2 }
  where
    ok_is : (a b : Report) → ◌≡◌ {A = Result Report ValidateRefusal} (Ok a) (Ok b) → a ≡ b
    ok_is a b k = cc

valid_none : (keep : Bool) (views : List (List ℕ)) (differ : List ℕ) (reported : Report) → report_by keep views differ ≡ reported → IsValid reported → differ ≡ []
valid_none keep views [] reported e v = refl
valid_none keep views (number ∷ more) (report.Valid kept) e v = cc
valid_none keep views (number ∷ more) report.SignatureDiffers e v = absurd v
valid_none keep views (number ∷ more) (report.ShortTruncation bits) e v = absurd v
valid_none keep views (number ∷ more) (report.DigestsDiffer numbers) e v = absurd v

none_valid : (keep : Bool) (views : List (List ℕ)) (differ : List ℕ) (reported : Report) → report_by keep views differ ≡ reported → differ ≡ [] → IsValid reported
none_valid keep views differ reported e n =
    let P : Report → Type 0 = IsValid in
    subst P (sym (ap (report_by keep views) n) ∙ e) tt

module _ (rows : List RowOf) (question : QuestionOf) (files : Held) where
  -- a check that holds, and what the References come to behind it
  behind_check : (x : ℕ) (fields : Fields) (reported : Report) → signature_check rows question ≡ Ok (check.Holds x fields)
      → references_report (sources_of rows x question.place files) question.keep_views fields.references ≡ Ok reported → IsValid reported → CoreHolds rows question files
  behind_check x fields reported holds e v =
      let a = authentic rows question x fields holds in
      let sources = sources_of rows x question.place files in
      let r = referred sources question.keep_views fields.references reported e in
      let none = valid_none question.keep_views r.views (differing 1 fields.references r.views) reported r.is v in
      let count = as_many sources 0 1 fields.references r.views r.had in
      record {
        signature = x;
        found = a.found;
        fields = fields;
        read = a.read;
        key = a.key;
        chosen = a.chosen;
        authentic = a.holds;
        references =
            all_digests sources fields.references r.views (are_views sources 0 1 fields.references r.views r.had)
            (none_differs 1 fields.references r.views count none);
      }

  -- the check that an outcome comes from
  valid_core : (c : SignatureCheck) (reported : Report) → signature_check rows question ≡ Ok c → goes_on rows question files c ≡ Ok reported → IsValid reported → CoreHolds rows question files
  valid_core (check.Holds x fields) reported holds e v = behind_check x fields reported holds e v
  valid_core (check.Fails failure) reported holds e v =
      let same : failure ≡ reported = cc in
      let h = checked rows question (check.Fails failure) holds in
      absurd (no_failure failure (fails_so rows question h.signature h.fields h.key.octets failure h.is) (back same v))
    where
      back : {a b : Report} → a ≡ b → IsValid b → IsValid a
      back {a} {b} p h = let P : Report → Type 0 = IsValid in subst P (sym p) h

      no_failure : (r : Report) → IsFailure r → IsValid r → ⊥
      no_failure (report.Valid views) f v = f
      no_failure report.SignatureDiffers f v = v
      no_failure (report.ShortTruncation bits) f v = v
      no_failure (report.DigestsDiffer numbers) f v = v

  -- References that hold make a valid report
  holds_here : (x : ℕ) (fields : Fields) (reported : Report) → references_report (sources_of rows x question.place files) question.keep_views fields.references ≡ Ok reported
      → All (ReferenceHolds (sources_of rows x question.place files)) fields.references → IsValid reported
  holds_here x fields reported e each =
      let sources = sources_of rows x question.place files in
      let r = referred sources question.keep_views fields.references reported e in
      let hold = digests_of sources fields.references r.views (are_views sources 0 1 fields.references r.views r.had) each in
      none_valid question.keep_views r.views (differing 1 fields.references r.views) reported r.is (all_hold 1 fields.references r.views hold)

  some_is : (a b : ℕ) → ◌≡◌ {A = Option ℕ} (Some a) (Some b) → a ≡ b
  some_is a b e = cc

  read_is : (a b : Fields) → ◌≡◌ {A = Result Fields FieldRefusal} (Ok a) (Ok b) → a ≡ b
  read_is a b e = cc

  key_is : (a b : KeyEntry) → ◌≡◌ {A = Result KeyEntry KeyChoice} (Ok a) (Ok b) → a ≡ b
  key_is a b e = cc

  core_valid : (c : SignatureCheck) (reported : Report) → signature_check rows question ≡ Ok c → goes_on rows question files c ≡ Ok reported → CoreHolds rows question files → IsValid reported
  core_valid (check.Holds x fields) reported holds e h =
      let a = authentic rows question x fields holds in
      let here : h.signature ≡ x = some_is h.signature x (sym h.found ∙ a.found) in
      let read : h.fields ≡ fields = read_is h.fields fields (sym h.read ∙ ap (fields_of rows) here ∙ a.read) in
      let P : Fields → Type 0 = λ f. All (ReferenceHolds (sources_of rows x question.place files)) f.references in
      let Q : ℕ → Type 0 = λ n. All (ReferenceHolds (sources_of rows n question.place files)) h.fields.references in
      holds_here x fields reported e (subst P read (subst Q here h.references))
  core_valid (check.Fails failure) reported holds e h =
      let a = checked rows question (check.Fails failure) holds in
      let here : h.signature ≡ a.signature = some_is h.signature a.signature (sym h.found ∙ a.found) in
      let read : h.fields ≡ a.fields = read_is h.fields a.fields (sym h.read ∙ ap (fields_of rows) here ∙ a.read) in
      let key : h.key ≡ a.key = key_is h.key a.key (sym h.chosen ∙ ap (λ (f : Fields). key_of f.key_name question) read ∙ a.chosen) in
      let P : Fields → Type 0 = λ f. signature_holds f.mac f.bits a.key.octets (canonical_signed_info rows f) f.value ≡ true in
      let Q : KeyEntry → Type 0 = λ k. signature_holds h.fields.mac h.fields.bits k.octets (canonical_signed_info rows h.fields) h.fields.value ≡ true in
      absurd (fails_not rows question a.signature a.fields a.key.octets failure (subst P read (subst Q key h.authentic)) a.is)

  by_check : (reported : Report) → outcome rows question files ≡ Ok reported
      → (c : SignatureCheck) × (signature_check rows question ≡ Ok c) × (goes_on rows question files c ≡ Ok reported)
  by_check reported e = given (signature_check rows question) (goes_on rows question files) reported (sym (outcome_by rows question files) ∙ e)

  compared : (c : SignatureCheck) (views : Views) → signature_check rows question ≡ Ok c → goes_on rows question files c ≡ Ok (report.Valid views) → AreCompared rows question files views
  unfolding behind_check
  compared (check.Holds x fields) views holds e =
      let sources = sources_of rows x question.place files in
      let r = referred sources question.keep_views fields.references (report.Valid views) e in
      let none = valid_none question.keep_views r.views (differing 1 fields.references r.views) (report.Valid views) r.is tt in
      let same = valid_is views (record { lengths = map length r.views; octets = kept_if question.keep_views r.views })
      (sym r.is ∙ ap (report_by question.keep_views r.views) none) in
      record {
        holds = behind_check x fields (report.Valid views) holds e tt;
        octets = r.views;
        are = are_views sources 0 1 fields.references r.views r.had;
        lengths = ap (λ (v : Views). v.lengths) same;
        kept = ap (λ (v : Views). v.octets) same;
      }
    where
      valid_is : (a b : Views) → report.Valid a ≡ report.Valid b → a ≡ b
      valid_is a b k = cc
  compared (check.Fails failure) views holds e =
      let same : failure ≡ report.Valid views = cc in
      let h = checked rows question (check.Fails failure) holds in
      let P : Report → Type 0 = IsFailure in
      absurd (subst P same (fails_so rows question h.signature h.fields h.key.octets failure h.is))

pub outcome_exactly : OutcomeExactly
outcome_exactly rows question files reported e =
    let c = by_check rows question files reported e in (
      λ v. valid_core rows question files c.0 reported c.1 c.2 v,
      λ h. core_valid rows question files c.0 reported c.1 c.2 h,
    )

pub hands_on_compared : HandsOnCompared
hands_on_compared rows question files views e =
    let c = by_check rows question files (report.Valid views) e in
    compared rows question files c.0 views c.1 c.2
