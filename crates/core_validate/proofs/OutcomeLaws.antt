-- What each step of a check makes of the signature, and what the check makes the outcome and the names that are asked for.
use Rattle.std.proofs.Common.{◌≡◌, ◌∙◌, ℕ, ◌≤◌, ◌&&◌, Bool, true, false, not, List, [], length, Option, Some, None, Result, Ok, Err, refl, ap, sym, subst}
use Rattle.std.specs.Prelude.{nat_le, if◌then◌else◌}
use Rattle.std.proofs.lemmas.Bool.{leb-true}
use Rattle.sig_base.specs.Outcomes.{and_then, with_cause}
use Rattle.sig_outside.specs.Told.{Held}
use Rattle.xml_doc.specs.Rows.{RowOf}
use Rattle.digests_hmac.specs.KeyEntries.{KeyEntry}
use Rattle.dsig_fields.specs.Fields.{fields_of}
use Rattle.dsig_fields.specs.Holds.{is_long_enough, is_mac_value, signature_holds, value_bits}
use Rattle.dsig_fields.specs.Keys.{QuestionOf, key_of}
use Rattle.dsig_fields.specs.Reading as reading
use Rattle.dsig_fields.specs.Signatures.{nth_signature}
use Rattle.dsig_fields.specs.declared.fields.Fields.{Fields}
use Rattle.dsig_fields.specs.declared.key.KeyChoice.{KeyChoice}
use Rattle.dsig_fields.specs.declared.key.KeyChoice.TheVariants as choice
use Rattle.dsig_fields.specs.declared.refusal.FieldRefusal.{FieldRefusal}
use Rattle.dsig_fields.specs.declared.refusal.FieldRefusal.TheVariants as field
use Rattle.transforms.specs.Asked.{names_asked, names_behind, names_of_fields, names_under_key, or_nothing}
use Rattle.transforms.specs.Outcome.{canonical_signed_info, choice_refusal, field_cause, or_no_signature, outcome, references_report, under_key, verdict}
use Rattle.transforms.specs.Steps.{octet_limit}
use Rattle.transforms.specs.declared.outcome.Report.{Report}
use Rattle.transforms.specs.declared.outcome.Report.TheVariants as report
use Rattle.transforms.specs.declared.outcome.ValidateRefusal.{ValidateRefusal}
use Rattle.transforms.specs.declared.outcome.ValidateRefusal.TheVariants as refusal
use Rattle.transforms.specs.declared.refusal.RefRefusal.{RefRefusal}
use Rattle.core_validate.specs.Answers.{Stops}
use Rattle.core_validate.specs.Progress.{sources_of}
use Rattle.core_validate.specs.Reached.{IsAuthentic}
use Rattle.core_validate.specs.Code.Signature.{IsFailure, check_of, check_of_fields, check_under_key, failure_by, signature_check, signature_failure, value_stands}
use Rattle.core_validate.specs.declared.validation.SignatureCheck.{SignatureCheck}
use Rattle.core_validate.specs.declared.validation.SignatureCheck.TheVariants as check

-- ---- the steps of a check
-- fields that can't be read
read_refused : {B : Type 0} (cause : FieldRefusal) (read : Result Fields FieldRefusal) (f : Fields → Result B ValidateRefusal)
    → reading.Refuses cause read → Stops (field_cause cause) (and_then (with_cause (λ x. refusal.Fields x) read) f)
read_refused (field.Missing name) read f e = rw e
read_refused (field.Extra row) read f e = rw e
read_refused (field.NoAlgorithm row) read f e = rw e
read_refused (field.UnknownMethod row) read f e = rw e
read_refused (field.Xslt row) read f e = rw e
read_refused (field.PublicKey row) read f e = rw e
read_refused (field.BadLength row) read f e = rw e
read_refused (field.BadBase64 row) read f e = rw e
read_refused (field.BadFilter row) read f e = rw e
read_refused (field.NoUri row) read f e = rw e
read_refused field.TooManyReferences read f e = rw e
read_refused (field.TooManyTransforms row) read f e = rw e
read_refused (field.TooManyFilters row) read f e = rw e
read_refused field.Memory read f e = tt

-- a key that isn't there
choice_refused : {B : Type 0} (why : KeyChoice) (out : Result B ValidateRefusal) → out ≡ Err (choice_refusal why) → Stops (choice_refusal why) out
choice_refused choice.NoKey out e = e
choice_refused choice.UnknownKey out e = e

module _ (rows : List RowOf) (question : QuestionOf) where
  -- the check behind the Signature element
  abbrev behind_signature : Option ℕ → Result SignatureCheck ValidateRefusal
  behind_signature found =
      and_then (or_no_signature found) (λ x. and_then (with_cause refusal.Fields (fields_of rows x)) (check_of_fields rows question x))

  pub no_signature : nth_signature rows question.index ≡ None → signature_check rows question ≡ Err refusal.NoSignature
  unfolding signature_check
  no_signature e = ap behind_signature e

  module _ (x : ℕ) (found : nth_signature rows question.index ≡ Some x) where
    at_signature : signature_check rows question ≡ and_then (with_cause refusal.Fields (fields_of rows x)) (check_of_fields rows question x)
    unfolding signature_check
    at_signature = ap behind_signature found

    pub not_read : (cause : FieldRefusal) → reading.Refuses cause (fields_of rows x) → Stops (field_cause cause) (signature_check rows question)
    not_read cause e = rw at_signature (read_refused cause (fields_of rows x) (check_of_fields rows question x) e)

    module _ (fields : Fields) (read : fields_of rows x ≡ Ok fields) where
      with_fields : signature_check rows question ≡ check_of_fields rows question x fields
      with_fields = at_signature ∙ ap (λ (r : Result Fields FieldRefusal). and_then (with_cause refusal.Fields r) (check_of_fields rows question x)) read

      abbrev keyed : Result KeyEntry KeyChoice → Result SignatureCheck ValidateRefusal
      keyed r = and_then (with_cause choice_refusal r) (λ key. check_under_key rows x fields key.octets)

      by_key : signature_check rows question ≡ keyed (key_of fields.key_name question)
      unfolding check_of_fields
      by_key = with_fields

      pub no_key : (why : KeyChoice) → key_of fields.key_name question ≡ Err why → Stops (choice_refusal why) (signature_check rows question)
      no_key why e = choice_refused why (signature_check rows question) (by_key ∙ ap keyed e)

      pub with_key : (key : KeyEntry) → key_of fields.key_name question ≡ Ok key → signature_check rows question ≡ check_under_key rows x fields key.octets
      with_key key e = by_key ∙ ap keyed e

-- ---- the outcome, and the names, by the check
pub and_then_over : {A B C R : Type 0} (r : Result A R) (f : A → Result C R) (g : A → Result B R) (h : B → Result C R)
    → ((x : A) → f x ≡ and_then (g x) h) → and_then r f ≡ and_then (and_then r g) h
and_then_over (Ok x) f g h e = e x
and_then_over (Err cause) f g h e = refl

pub or_nothing_over : {A B C R : Type 0} (r : Result A R) (f : A → List C) (g : A → Result B R) (h : B → List C)
    → ((x : A) → f x ≡ or_nothing (g x) h) → or_nothing r f ≡ or_nothing (and_then r g) h
or_nothing_over (Ok x) f g h e = e x
or_nothing_over (Err cause) f g h e = refl

pub or_nothing_past : {A B C R S : Type 0} (outer : S → R) (r : Result A S) (f : A → List C) (g : A → Result B R) (h : B → List C)
    → ((x : A) → f x ≡ or_nothing (g x) h) → or_nothing r f ≡ or_nothing (and_then (with_cause outer r) g) h
or_nothing_past outer (Ok x) f g h e = e x
or_nothing_past outer (Err cause) f g h e = refl

module _ (rows : List RowOf) (question : QuestionOf) (files : Held) where
  -- what the References make the outcome of a check
  abbrev pub goes_on : SignatureCheck → Result Report ValidateRefusal
  goes_on (check.Holds x fields) = references_report (sources_of rows x question.place files) question.keep_views fields.references
  goes_on (check.Fails failure) = Ok failure

  abbrev pub asks : SignatureCheck → List (List ℕ)
  asks (check.Holds x fields) = names_behind (sources_of rows x question.place files) 0 fields.references
  asks (check.Fails failure) = []

  -- the check, by three tests
  abbrev tested : (x : ℕ) → Fields → (bits : ℕ) → (long within stands : Bool) → Result SignatureCheck ValidateRefusal
  tested x fields bits long within stands =
      and_then
      (if not long then Ok (Some (report.ShortTruncation bits))
      else and_then (if not within then Err refusal.OctetsTooLong else Ok stands) (λ s. Ok (failure_by s)))
      (λ failure. Ok (check_of x fields failure))

  verdict_tested : (x : ℕ) (fields : Fields) (bits : ℕ) (long within stands : Bool)
      → (if not long then Ok (report.ShortTruncation bits)
      else (if not within then Err refusal.OctetsTooLong
      else (if not stands then Ok report.SignatureDiffers else references_report (sources_of rows x question.place files) question.keep_views fields.references)))
      ≡ and_then (tested x fields bits long within stands) goes_on
  verdict_tested x fields bits false within stands = refl
  verdict_tested x fields bits true false stands = refl
  verdict_tested x fields bits true true false = refl
  verdict_tested x fields bits true true true = refl

  names_tested : (x : ℕ) (fields : Fields) (bits : ℕ) (long within stands : Bool)
      → (if long && (within && stands) then names_behind (sources_of rows x question.place files) 0 fields.references else [])
      ≡ or_nothing (tested x fields bits long within stands) asks
  names_tested x fields bits false within stands = refl
  names_tested x fields bits true false stands = refl
  names_tested x fields bits true true false = refl
  names_tested x fields bits true true true = refl

  module _ (x : ℕ) (fields : Fields) where
    verdict_by : (key : List ℕ) → verdict (sources_of rows x question.place files) question.keep_views fields key ≡ and_then (check_under_key rows x fields key) goes_on
    unfolding verdict signature_failure value_stands
    verdict_by key =
        verdict_tested x fields (value_bits fields.mac fields.bits) (is_long_enough fields.mac (value_bits fields.mac fields.bits))
        (nat_le (length (canonical_signed_info rows fields)) octet_limit)
        (is_mac_value fields.mac (value_bits fields.mac fields.bits) key (canonical_signed_info rows fields) fields.value)

    names_by : (key : List ℕ) → names_under_key (sources_of rows x question.place files) fields key ≡ or_nothing (check_under_key rows x fields key) asks
    unfolding names_under_key signature_failure value_stands
    names_by key =
        names_tested x fields (value_bits fields.mac fields.bits) (is_long_enough fields.mac (value_bits fields.mac fields.bits))
        (nat_le (length (canonical_signed_info rows fields)) octet_limit)
        (is_mac_value fields.mac (value_bits fields.mac fields.bits) key (canonical_signed_info rows fields) fields.value)

    under_key_by : under_key (sources_of rows x question.place files) question fields ≡ and_then (check_of_fields rows question x fields) goes_on
    unfolding under_key check_of_fields
    under_key_by =
        and_then_over (with_cause choice_refusal (key_of fields.key_name question))
        (λ key. verdict (sources_of rows x question.place files) question.keep_views fields key.octets)
        (λ key. check_under_key rows x fields key.octets) goes_on (λ key. verdict_by key.octets)

    names_of_fields_by : names_of_fields (sources_of rows x question.place files) question fields ≡ or_nothing (check_of_fields rows question x fields) asks
    unfolding names_of_fields check_of_fields
    names_of_fields_by =
        or_nothing_past choice_refusal (key_of fields.key_name question)
        (λ key. names_under_key (sources_of rows x question.place files) fields key.octets)
        (λ key. check_under_key rows x fields key.octets) asks (λ key. names_by key.octets)

  pub outcome_by : outcome rows question files ≡ and_then (signature_check rows question) goes_on
  unfolding outcome signature_check
  outcome_by =
      and_then_over (or_no_signature (nth_signature rows question.index))
      (λ x. and_then (with_cause refusal.Fields (fields_of rows x)) (under_key (sources_of rows x question.place files) question))
      (λ x. and_then (with_cause refusal.Fields (fields_of rows x)) (check_of_fields rows question x)) goes_on
      (λ x. and_then_over (with_cause refusal.Fields (fields_of rows x)) (under_key (sources_of rows x question.place files) question) (check_of_fields rows question x) goes_on
      (λ fields. under_key_by x fields))

  pub names_asked_by : names_asked rows question files ≡ or_nothing (signature_check rows question) asks
  unfolding names_asked signature_check
  names_asked_by =
      or_nothing_over (or_no_signature (nth_signature rows question.index))
      (λ x. or_nothing (fields_of rows x) (names_of_fields (sources_of rows x question.place files) question))
      (λ x. and_then (with_cause refusal.Fields (fields_of rows x)) (check_of_fields rows question x)) asks
      (λ x. or_nothing_past refusal.Fields (fields_of rows x) (names_of_fields (sources_of rows x question.place files) question) (check_of_fields rows question x) asks
      (λ fields. names_of_fields_by x fields))

  pub outcome_at : (r : Result SignatureCheck ValidateRefusal) → signature_check rows question ≡ r → outcome rows question files ≡ and_then r goes_on
  outcome_at r e = outcome_by ∙ ap (λ (t : Result SignatureCheck ValidateRefusal). and_then t goes_on) e

  pub names_at : (r : Result SignatureCheck ValidateRefusal) → signature_check rows question ≡ r → names_asked rows question files ≡ or_nothing r asks
  names_at r e = names_asked_by ∙ ap (λ (t : Result SignatureCheck ValidateRefusal). or_nothing t asks) e

-- ---- a signature that holds
-- both steps gave a value
pub given : {A B R : Type 0} (r : Result A R) (f : A → Result B R) (y : B) → and_then r f ≡ Ok y → (x : A) × (r ≡ Ok x) × (f x ≡ Ok y)
given (Ok x) f y e = (x, refl, e)
given (Err cause) f y e = absurd cc

given_past : {A B R S : Type 0} (outer : S → R) (r : Result A S) (f : A → Result B R) (y : B) → and_then (with_cause outer r) f ≡ Ok y → (x : A) × (r ≡ Ok x) × (f x ≡ Ok y)
given_past outer (Ok x) f y e = (x, refl, e)
given_past outer (Err cause) f y e = absurd cc

record Tested (long within stands : Bool) : Type 0 where
  is_long : long ≡ true
  is_within : within ≡ true
  is_standing : stands ≡ true

tested_holds : (x : ℕ) (fields : Fields) (bits : ℕ) (long within stands : Bool) (y : ℕ) (read : Fields)
    → and_then
    (if not long then Ok (Some (report.ShortTruncation bits))
    else and_then (if not within then Err refusal.OctetsTooLong else Ok stands) (λ s. Ok (failure_by s)))
    (λ failure. Ok (check_of x fields failure))
    ≡ Ok (check.Holds y read) → Tested long within stands
tested_holds x fields bits false within stands y read e = absurd cc
tested_holds x fields bits true false stands y read e = absurd cc
tested_holds x fields bits true true false y read e = absurd cc
tested_holds x fields bits true true true y read e = record { is_long = refl; is_within = refl; is_standing = refl }

tested_fails : (x : ℕ) (fields : Fields) (bits : ℕ) (long within stands : Bool) (failure : Report)
    → and_then
    (if not long then Ok (Some (report.ShortTruncation bits))
    else and_then (if not within then Err refusal.OctetsTooLong else Ok stands) (λ s. Ok (failure_by s)))
    (λ f. Ok (check_of x fields f))
    ≡ Ok (check.Fails failure) → IsFailure failure
tested_fails x fields bits false within stands failure e =
    let same : report.ShortTruncation bits ≡ failure = cc in let P : Report → Type 0 = IsFailure in subst P same tt
tested_fails x fields bits true false stands failure e = absurd cc
tested_fails x fields bits true true false failure e = let same : report.SignatureDiffers ≡ failure = cc in let P : Report → Type 0 = IsFailure in subst P same tt
tested_fails x fields bits true true true failure e = absurd cc

tested_stands : (x : ℕ) (fields : Fields) (bits : ℕ) (long within stands : Bool) (failure : Report) → (long && stands) ≡ true
    → and_then
    (if not long then Ok (Some (report.ShortTruncation bits))
    else and_then (if not within then Err refusal.OctetsTooLong else Ok stands) (λ s. Ok (failure_by s)))
    (λ f. Ok (check_of x fields f))
    ≡ Ok (check.Fails failure) → ⊥
tested_stands x fields bits false within stands failure h e = cc
tested_stands x fields bits true false stands failure h e = cc
tested_stands x fields bits true true false failure h e = cc
tested_stands x fields bits true true true failure h e = cc

held_is : (x : ℕ) (fields : Fields) (y : ℕ) (read : Fields) (failure : Option Report) → check_of x fields failure ≡ check.Holds y read → (x ≡ y) × (fields ≡ read)
held_is x fields y read None e = (cc, cc)
held_is x fields y read (Some failure) e = absurd cc

found_given : (o : Option ℕ) (x : ℕ) → or_no_signature o ≡ Ok x → o ≡ Some x
found_given (Some y) x e = cc
found_given None x e = absurd cc

module _ (rows : List RowOf) (question : QuestionOf) where
  by_tests : (x : ℕ) (fields : Fields) (key : List ℕ) (y : ℕ) (read : Fields) → check_under_key rows x fields key ≡ Ok (check.Holds y read)
      → Tested (is_long_enough fields.mac (value_bits fields.mac fields.bits)) (nat_le (length (canonical_signed_info rows fields)) octet_limit)
      (is_mac_value fields.mac (value_bits fields.mac fields.bits) key (canonical_signed_info rows fields) fields.value)
  unfolding signature_failure value_stands
  by_tests x fields key y read e =
      tested_holds x fields (value_bits fields.mac fields.bits) (is_long_enough fields.mac (value_bits fields.mac fields.bits))
      (nat_le (length (canonical_signed_info rows fields)) octet_limit)
      (is_mac_value fields.mac (value_bits fields.mac fields.bits) key (canonical_signed_info rows fields) fields.value) y read e

  -- how a check came to what it gives
  pub record Checked (c : SignatureCheck) : Type 0 where
    pub signature : ℕ
    pub found : nth_signature rows question.index ≡ Some signature
    pub fields : Fields
    pub read : fields_of rows signature ≡ Ok fields
    pub key : KeyEntry
    pub chosen : key_of fields.key_name question ≡ Ok key
    pub is : check_under_key rows signature fields key.octets ≡ Ok c

  pub checked : (c : SignatureCheck) → signature_check rows question ≡ Ok c → Checked c
  unfolding signature_check check_of_fields
  checked c e =
      let one = given (or_no_signature (nth_signature rows question.index)) (λ x. and_then (with_cause refusal.Fields (fields_of rows x)) (check_of_fields rows question x)) c e in
      let two = given_past refusal.Fields (fields_of rows one.0) (check_of_fields rows question one.0) c one.2 in
      let three = given_past choice_refusal (key_of two.0.key_name question) (λ key. check_under_key rows one.0 two.0 key.octets) c two.2 in
      record {
        signature = one.0;
        found = found_given (nth_signature rows question.index) one.0 one.1;
        fields = two.0;
        read = two.1;
        key = three.0;
        chosen = three.1;
        is = three.2;
      }

  -- the signature of a check that holds
  pub authentic : (y : ℕ) (read : Fields) → signature_check rows question ≡ Ok (check.Holds y read) → IsAuthentic rows question y read
  authentic y read e =
      let h = checked (check.Holds y read) e in
      let t = by_tests h.signature h.fields h.key.octets y read h.is in
      let five = given (signature_failure rows h.fields h.key.octets) (λ failure. Ok (check_of h.signature h.fields failure)) (check.Holds y read) h.is in
      let same = held_is h.signature h.fields y read five.0 (ok_is _ _ five.2) in
      moved same.0 same.1
      (record {
        found = h.found;
        read = h.read;
        key = h.key;
        chosen = h.chosen;
        within = leb-true (length (canonical_signed_info rows h.fields)) octet_limit t.is_within;
        holds = both (is_long_enough h.fields.mac (value_bits h.fields.mac h.fields.bits)) _ t.is_long t.is_standing;
      })
    where
      both : (a b : Bool) → a ≡ true → b ≡ true → (a && b) ≡ true
      both true b p q = q
      both false b p q = cc

      ok_is : (a b : SignatureCheck) → ◌≡◌ {A = Result SignatureCheck ValidateRefusal} (Ok a) (Ok b) → a ≡ b
      ok_is a b h = cc

      moved : {a b : ℕ} {f g : Fields} → a ≡ b → f ≡ g → IsAuthentic rows question a f → IsAuthentic rows question b g
      moved {a} {b} {f} {g} p q h =
          let P : ℕ → Type 0 = λ n. IsAuthentic rows question n f in
          let Q : Fields → Type 0 = λ x. IsAuthentic rows question b x in
          subst Q q (subst P p h)

  -- a check that fails tells why
  pub fails_so : (x : ℕ) (fields : Fields) (key : List ℕ) (failure : Report) → check_under_key rows x fields key ≡ Ok (check.Fails failure) → IsFailure failure
  unfolding signature_failure value_stands
  fails_so x fields key failure e =
      tested_fails x fields (value_bits fields.mac fields.bits) (is_long_enough fields.mac (value_bits fields.mac fields.bits))
      (nat_le (length (canonical_signed_info rows fields)) octet_limit)
      (is_mac_value fields.mac (value_bits fields.mac fields.bits) key (canonical_signed_info rows fields) fields.value) failure e

  -- and where signature validation holds, none does
  pub fails_not : (x : ℕ) (fields : Fields) (key : List ℕ) (failure : Report) → signature_holds fields.mac fields.bits key (canonical_signed_info rows fields) fields.value ≡ true
      → check_under_key rows x fields key ≡ Ok (check.Fails failure) → ⊥
  unfolding signature_failure value_stands
  fails_not x fields key failure h e =
      tested_stands x fields (value_bits fields.mac fields.bits) (is_long_enough fields.mac (value_bits fields.mac fields.bits))
      (nat_le (length (canonical_signed_info rows fields)) octet_limit)
      (is_mac_value fields.mac (value_bits fields.mac fields.bits) key (canonical_signed_info rows fields) fields.value) failure h e

-- ---- a check tells of no Reference
never : {A B R : Type 0} (r : Result A R) (f : A → Result B R) (cause : R) → (r ≡ Err cause → ⊥) → ((x : A) → f x ≡ Err cause → ⊥) → and_then r f ≡ Err cause → ⊥
never (Ok x) f cause one other e = other x e
never (Err first) f cause one other e = one (let same : first ≡ cause = cc in ap Err same)

module _ (rows : List RowOf) (question : QuestionOf) (number : ℕ) (why : RefRefusal) where
  abbrev of_reference : ValidateRefusal
  of_reference = refusal.Reference number why

  no_such : (o : Option ℕ) → or_no_signature o ≡ Err of_reference → ⊥
  no_such None e = cc
  no_such (Some x) e = cc

  no_field : (r : Result Fields FieldRefusal) → with_cause refusal.Fields r ≡ Err of_reference → ⊥
  no_field (Ok fields) e = cc
  no_field (Err cause) e = cc

  no_choice : (r : Result KeyEntry KeyChoice) → with_cause choice_refusal r ≡ Err of_reference → ⊥
  no_choice (Ok key) e = cc
  no_choice (Err choice.NoKey) e = cc
  no_choice (Err choice.UnknownKey) e = cc

  no_test : (x : ℕ) (fields : Fields) (bits : ℕ) (long within stands : Bool)
      → and_then
      (if not long then Ok (Some (report.ShortTruncation bits))
      else and_then (if not within then Err refusal.OctetsTooLong else Ok stands) (λ s. Ok (failure_by s)))
      (λ failure. Ok (check_of x fields failure))
      ≡ Err of_reference → ⊥
  no_test x fields bits false within stands e = cc
  no_test x fields bits true false stands e = cc
  no_test x fields bits true true false e = cc
  no_test x fields bits true true true e = cc

  no_key_test : (x : ℕ) (fields : Fields) (key : List ℕ) → check_under_key rows x fields key ≡ Err of_reference → ⊥
  unfolding signature_failure value_stands
  no_key_test x fields key e =
      no_test x fields (value_bits fields.mac fields.bits) (is_long_enough fields.mac (value_bits fields.mac fields.bits))
      (nat_le (length (canonical_signed_info rows fields)) octet_limit)
      (is_mac_value fields.mac (value_bits fields.mac fields.bits) key (canonical_signed_info rows fields) fields.value) e

  no_refused_key : (x : ℕ) (fields : Fields) → check_of_fields rows question x fields ≡ Err of_reference → ⊥
  unfolding check_of_fields
  no_refused_key x fields e =
      never (with_cause choice_refusal (key_of fields.key_name question)) (λ key. check_under_key rows x fields key.octets) of_reference
      (no_choice (key_of fields.key_name question)) (λ key. no_key_test x fields key.octets) e

  pub no_reference : signature_check rows question ≡ Err of_reference → ⊥
  unfolding signature_check
  no_reference e =
      never (or_no_signature (nth_signature rows question.index)) (λ x. and_then (with_cause refusal.Fields (fields_of rows x)) (check_of_fields rows question x)) of_reference
      (no_such (nth_signature rows question.index))
      (λ x. never (with_cause refusal.Fields (fields_of rows x)) (check_of_fields rows question x) of_reference (no_field (fields_of rows x)) (λ fields. no_refused_key x fields)) e
