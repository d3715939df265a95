-- What each step of signing makes of the outcome, and of the names that are asked for.
use Rattle.std.proofs.Common.{◌≡◌, ◌∙◌, ℕ, ◌<◌, Bool, true, false, List, [], ◌++◌, length, Option, Some, None, Result, Ok, Err, refl, ap, subst, inl, inr}
use Rattle.std.specs.Prelude.{◌⊎◌, IfOk, if◌then◌else◌}
use Rattle.sig_base.specs.Outcomes.{and_then, with_cause}
use Rattle.sig_outside.specs.Told.{Held}
use Rattle.digests_hmac.specs.KeyEntries.{KeyEntry}
use Rattle.xml_doc.specs.Rows.{RowOf}
use Rattle.xml_read.specs.ReadOutcome as reading
use Rattle.xml_read.specs.ReadOutcome.{read_outcome}
use Rattle.xml_read.specs.declared.read.ReadRefusal.{ReadRefusal}
use Rattle.xml_read.specs.declared.read.ReadRefusal.TheVariants as read
use Rattle.uri_refs.specs.declared.target.Place.{Place}
use Rattle.dsig_fields.specs.Fields.{fields_of}
use Rattle.dsig_fields.specs.Fits.{FieldsFit}
use Rattle.dsig_fields.specs.Holds.{is_long_enough, value_bits}
use Rattle.dsig_fields.specs.Keys.{QuestionOf, key_of}
use Rattle.dsig_fields.specs.Reading as elements
use Rattle.dsig_fields.specs.Signatures.{nth_signature}
use Rattle.dsig_fields.specs.declared.fields.Fields.{Fields}
use Rattle.dsig_fields.specs.declared.key.KeyChoice.{KeyChoice}
use Rattle.dsig_fields.specs.declared.key.KeyChoice.TheVariants as choice
use Rattle.dsig_fields.specs.declared.refusal.FieldRefusal.{FieldRefusal}
use Rattle.dsig_fields.specs.declared.refusal.FieldRefusal.TheVariants as field
use Rattle.transforms.specs.Asked.{names_behind, or_nothing}
use Rattle.transforms.proofs.AskLaws.{grew_nothing}
use Rattle.core_validate.specs.Answers.{HasNoFile}
use Rattle.core_validate.specs.Progress.{sources_of}
use Rattle.core_validate.proofs.OutcomeLaws.{and_then_over, or_nothing_over, or_nothing_past}
use Rattle.signer.specs.Answers.{AsksAll, Gives, TellsTemplate}
use Rattle.signer.specs.Asked.{names_again, names_asked, names_of_fields, names_under_key}
use Rattle.signer.specs.Laws.{IsValid}
use Rattle.signer.specs.Outcome.{choice_refusal, enough_bits, info_within, not_text, or_no_signature, outcome, outcome_of_fields, outcome_of_rows, outcome_of_views, outcome_under_key, unless, views_from}
use Rattle.signer.specs.Signed.{signed, unsigned, value_under}
use Rattle.signer.specs.Code.Comparing.{compared, made_outcome, names_made, names_of_comparison}
use Rattle.signer.specs.Code.Reading.{IsTemplate, TemplateOf, can_be_signed, template_of, template_of_fields, template_under_key}
use Rattle.signer.specs.Code.Refusals.{Stops, field_cause, filled_cause, read_cause}
use Rattle.signer.specs.Code.Sealing.{seal_by, seal_of}
use Rattle.signer.specs.Code.Signing.{TellsRows, made_by, names_behind_views, names_of_rows, names_of_seal, names_of_template, outcome_behind, outcome_of_seal, template_outcome}
use Rattle.signer.specs.Code.Views.{TellsEach}
use Rattle.signer.specs.declared.refusal.SignRefusal.{SignRefusal}
use Rattle.signer.specs.declared.refusal.SignRefusal.TheVariants as refusal
use Rattle.signer.specs.declared.sealing.Seal.{Seal}
use Rattle.signer.proofs.Made.{signed_is_valid}
use Rattle.signer.proofs.Refusing.{nothing_more}

-- ---- steps one behind the other
given : {A B R : Type 0} (r : Result A R) (f : A → Result B R) (y : B) → and_then r f ≡ Ok y → (x : A) × (r ≡ Ok x) × (f x ≡ Ok y)
given (Ok x) f y e = (x, refl, e)
given (Err cause) f y e = absurd cc

given_past : {A B R S : Type 0} (outer : S → R) (r : Result A S) (f : A → Result B R) (y : B) → and_then (with_cause outer r) f ≡ Ok y → (x : A) × (r ≡ Ok x) × (f x ≡ Ok y)
given_past outer (Ok x) f y e = (x, refl, e)
given_past outer (Err cause) f y e = absurd cc

-- ---- documents that can't be read
module _ {B : Type 0} (outcome_read : Result (List RowOf) ReadRefusal) (f : List RowOf → Result B SignRefusal) where
  pub read_stops : (cause : ReadRefusal) → reading.Refuses cause outcome_read → Stops (read_cause cause) (and_then (with_cause refusal.Read outcome_read) f)
  read_stops read.TooLarge e = ap (λ (r : Result (List RowOf) ReadRefusal). and_then (with_cause refusal.Read r) f) e
  read_stops read.Encoding e = ap (λ (r : Result (List RowOf) ReadRefusal). and_then (with_cause refusal.Read r) f) e
  read_stops read.DocType e = ap (λ (r : Result (List RowOf) ReadRefusal). and_then (with_cause refusal.Read r) f) e
  read_stops read.NotWellFormed e = ap (λ (r : Result (List RowOf) ReadRefusal). and_then (with_cause refusal.Read r) f) e
  read_stops read.Namespaces e = ap (λ (r : Result (List RowOf) ReadRefusal). and_then (with_cause refusal.Read r) f) e
  read_stops read.TooDeep e = ap (λ (r : Result (List RowOf) ReadRefusal). and_then (with_cause refusal.Read r) f) e
  read_stops read.TooManyRows e = ap (λ (r : Result (List RowOf) ReadRefusal). and_then (with_cause refusal.Read r) f) e
  read_stops read.Memory e = tt

  pub filled_stops : (cause : ReadRefusal) → reading.Refuses cause outcome_read → Stops (filled_cause cause) (and_then (with_cause refusal.Filled outcome_read) f)
  filled_stops read.TooLarge e = ap (λ (r : Result (List RowOf) ReadRefusal). and_then (with_cause refusal.Filled r) f) e
  filled_stops read.Encoding e = ap (λ (r : Result (List RowOf) ReadRefusal). and_then (with_cause refusal.Filled r) f) e
  filled_stops read.DocType e = ap (λ (r : Result (List RowOf) ReadRefusal). and_then (with_cause refusal.Filled r) f) e
  filled_stops read.NotWellFormed e = ap (λ (r : Result (List RowOf) ReadRefusal). and_then (with_cause refusal.Filled r) f) e
  filled_stops read.Namespaces e = ap (λ (r : Result (List RowOf) ReadRefusal). and_then (with_cause refusal.Filled r) f) e
  filled_stops read.TooDeep e = ap (λ (r : Result (List RowOf) ReadRefusal). and_then (with_cause refusal.Filled r) f) e
  filled_stops read.TooManyRows e = ap (λ (r : Result (List RowOf) ReadRefusal). and_then (with_cause refusal.Filled r) f) e
  filled_stops read.Memory e = tt

-- where nothing is read nothing is asked for
module _ (outcome_read : Result (List RowOf) ReadRefusal) (names old : List (List ℕ)) where
  pub read_asks : (why : ReadRefusal) → reading.Refuses why outcome_read → (outcome_read ≡ Err why → names ≡ []) → AsksAll {A = Unit {0}} (Err (read_cause why)) names old old
  read_asks read.TooLarge e f = nothing_more names old (f e)
  read_asks read.Encoding e f = nothing_more names old (f e)
  read_asks read.DocType e f = nothing_more names old (f e)
  read_asks read.NotWellFormed e f = nothing_more names old (f e)
  read_asks read.Namespaces e f = nothing_more names old (f e)
  read_asks read.TooDeep e f = nothing_more names old (f e)
  read_asks read.TooManyRows e f = nothing_more names old (f e)
  read_asks read.Memory e f = grew_nothing names old

  pub filled_asks : (why : ReadRefusal) → reading.Refuses why outcome_read → (outcome_read ≡ Err why → names ≡ []) → AsksAll {A = Unit {0}} (Err (filled_cause why)) names old old
  filled_asks read.TooLarge e f = nothing_more names old (f e)
  filled_asks read.Encoding e f = nothing_more names old (f e)
  filled_asks read.DocType e f = nothing_more names old (f e)
  filled_asks read.NotWellFormed e f = nothing_more names old (f e)
  filled_asks read.Namespaces e f = nothing_more names old (f e)
  filled_asks read.TooDeep e f = nothing_more names old (f e)
  filled_asks read.TooManyRows e f = nothing_more names old (f e)
  filled_asks read.Memory e f = grew_nothing names old

-- ---- the template
field_stops : {B : Type 0} (cause : FieldRefusal) (outcome_read : Result Fields FieldRefusal) (f : Fields → Result B SignRefusal)
    → elements.Refuses cause outcome_read → Stops (field_cause cause) (and_then (with_cause (λ x. refusal.Fields x) outcome_read) f)
field_stops (field.Missing name) read f e = rw e
field_stops (field.Extra row) read f e = rw e
field_stops (field.NoAlgorithm row) read f e = rw e
field_stops (field.UnknownMethod row) read f e = rw e
field_stops (field.Xslt row) read f e = rw e
field_stops (field.PublicKey row) read f e = rw e
field_stops (field.BadLength row) read f e = rw e
field_stops (field.BadBase64 row) read f e = rw e
field_stops (field.BadFilter row) read f e = rw e
field_stops (field.NoUri row) read f e = rw e
field_stops field.TooManyReferences read f e = rw e
field_stops (field.TooManyTransforms row) read f e = rw e
field_stops (field.TooManyFilters row) read f e = rw e
field_stops field.Memory read f e = tt

choice_stops : {B : Type 0} (why : KeyChoice) (out : Result B SignRefusal) → out ≡ Err (choice_refusal why) → Stops (choice_refusal why) out
choice_stops choice.NoKey out e = e
choice_stops choice.UnknownKey out e = e

module _ (rows : List RowOf) (question : QuestionOf) where
  abbrev behind_signature : Option ℕ → Result TemplateOf SignRefusal
  behind_signature found = and_then (or_no_signature found) (λ x. and_then (with_cause refusal.Fields (fields_of rows x)) (template_of_fields rows question x))

  pub no_signature : nth_signature rows question.index ≡ None → template_of rows question ≡ Err refusal.NoSignature
  unfolding template_of
  no_signature e = ap behind_signature e

  module _ (x : ℕ) (found : nth_signature rows question.index ≡ Some x) where
    at_signature : template_of rows question ≡ and_then (with_cause refusal.Fields (fields_of rows x)) (template_of_fields rows question x)
    unfolding template_of
    at_signature = ap behind_signature found

    pub not_read : (cause : FieldRefusal) → elements.Refuses cause (fields_of rows x) → Stops (field_cause cause) (template_of rows question)
    not_read cause e = rw at_signature (field_stops cause (fields_of rows x) (template_of_fields rows question x) e)

    module _ (fields : Fields) (is : fields_of rows x ≡ Ok fields) where
      abbrev keyed : Result KeyEntry KeyChoice → Result TemplateOf SignRefusal
      keyed r = and_then (with_cause choice_refusal r) (λ key. template_under_key rows x fields key.octets)

      by_key : template_of rows question ≡ keyed (key_of fields.key_name question)
      unfolding template_of_fields
      by_key = at_signature ∙ ap (λ (r : Result Fields FieldRefusal). and_then (with_cause refusal.Fields r) (template_of_fields rows question x)) is

      pub no_key : (why : KeyChoice) → key_of fields.key_name question ≡ Err why → Stops (choice_refusal why) (template_of rows question)
      no_key why e = choice_stops why (template_of rows question) (by_key ∙ ap keyed e)

      pub with_key : (key : KeyEntry) → key_of fields.key_name question ≡ Ok key → template_of rows question ≡ template_under_key rows x fields key.octets
      with_key key e = by_key ∙ ap keyed e

-- how a template came to be read
module _ (octets : List ℕ) (rows : List RowOf) (question : QuestionOf) where
  given_signature : (o : Option ℕ) (x : ℕ) → or_no_signature o ≡ Ok x → o ≡ Some x
  given_signature (Some y) x e = cc
  given_signature None x e = absurd cc

  given_texts : (b : Bool) (why : SignRefusal) (o : Option ℕ) (y : Unit {0}) → and_then {A = Unit {0}} (if b then Ok tt else Err why) (λ enough. unless refusal.NotText o) ≡ Ok y → (b ≡ true) × (o ≡ None)
  given_texts true why None y e = (refl, refl)
  given_texts true why (Some k) y e = absurd cc
  given_texts false why o y e = absurd cc

  can_be : (fields : Fields) (y : Unit {0}) → can_be_signed rows fields ≡ Ok y → (is_long_enough fields.mac (value_bits fields.mac fields.bits) ≡ true) × (not_text rows fields ≡ None)
  unfolding can_be_signed
  can_be fields y e =
      given_texts (is_long_enough fields.mac (value_bits fields.mac fields.bits)) (refusal.ShortTruncation (value_bits fields.mac fields.bits)) (not_text rows fields) y e

  template_is : (s t : TemplateOf) → ◌≡◌ {A = Result TemplateOf SignRefusal} (Ok s) (Ok t) → s ≡ t
  template_is s t e = cc

  -- its Signature was found, and its fields were read
  pub record Came (t : TemplateOf) : Type 0 where
    pub found : nth_signature rows question.index ≡ Some t.signature
    pub fields_are : fields_of rows t.signature ≡ Ok t.fields
    pub long : is_long_enough t.fields.mac (value_bits t.fields.mac t.fields.bits) ≡ true
    pub texts : not_text rows t.fields ≡ None

  pub came : (t : TemplateOf) → template_of rows question ≡ Ok t → Came t
  unfolding template_of template_of_fields
  came t e =
      let a = given (or_no_signature (nth_signature rows question.index)) (λ x. and_then (with_cause refusal.Fields (fields_of rows x)) (template_of_fields rows question x)) t e in
      let b = given_past refusal.Fields (fields_of rows a.0) (template_of_fields rows question a.0) t a.2 in
      let c = given_past choice_refusal (key_of b.0.key_name question) (λ key. template_under_key rows a.0 b.0 key.octets) t b.2 in
      let d = given (can_be_signed rows b.0) (λ can. Ok (record { signature = a.0; fields = b.0; key = c.0.octets })) t c.2 in
      let s = can_be b.0 d.0 d.1 in
      subst Came (template_is (record { signature = a.0; fields = b.0; key = c.0.octets }) t d.2)
      (record { found = given_signature (nth_signature rows question.index) a.0 a.1; fields_are = b.1; long = s.0; texts = s.1 })

  pub is_template : (t : TemplateOf) → read_outcome octets ≡ Ok rows → template_of rows question ≡ Ok t → FieldsFit rows t.fields → t.signature < length rows → IsTemplate octets rows t
  is_template t e f fit within =
      let c = came t f in
      record { read = e; index = question.index; found = c.found; fields_are = c.fields_are; long = c.long; texts = c.texts; fit = fit; within = within }

  -- its References refer to no file where none of the signature does
  pub tells_each : (told : Option Held) (files : Held) (t : TemplateOf) → template_of rows question ≡ Ok t → (told ≡ Some files) ⊎ HasNoFile rows question → TellsEach question.place t.fields.references told files
  tells_each told files t f (inl e) = inl e
  tells_each told files t f (inr none) = let c = came t f in inr (none t.signature t.fields c.found c.fields_are)

-- ---- the outcome, by the template
module _ (octets : List ℕ) (rows : List RowOf) (question : QuestionOf) (files : Held) where
  under_key_by : (x : ℕ) (fields : Fields) (key : List ℕ) → outcome_under_key octets (sources_of rows x question.place files) fields key
      ≡ and_then (template_under_key rows x fields key) (λ t. template_outcome octets rows t question.place files)
  unfolding outcome_under_key can_be_signed template_outcome
  under_key_by x fields key = go (enough_bits fields) (not_text rows fields)
    where
      rest : Result (List ℕ) SignRefusal
      rest = and_then (views_from (sources_of rows x question.place files) 0 1 fields.references) (outcome_of_views octets (sources_of rows x question.place files) fields key)

      go : (e : Result (Unit {0}) SignRefusal) (o : Option ℕ)
          → and_then e (λ enough. and_then (unless refusal.NotText o) (λ texts. and_then (views_from (sources_of rows x question.place files) 0 1 fields.references) (outcome_of_views octets (sources_of rows x question.place files) fields key)))
          ≡ and_then (and_then (and_then e (λ enough. unless refusal.NotText o)) (λ can. Ok (record { signature = x; fields = fields; key = key })))
          (λ t. template_outcome octets rows t question.place files)
      go (Ok y) None = refl
      go (Ok y) (Some k) = refl
      go (Err cause) o = refl

  names_under_key_by : (x : ℕ) (fields : Fields) (key : List ℕ) → names_under_key octets (sources_of rows x question.place files) fields key
      ≡ or_nothing (template_under_key rows x fields key) (λ t. names_of_template octets rows t question.place files)
  unfolding names_under_key can_be_signed names_of_template
  names_under_key_by x fields key = go (enough_bits fields) (not_text rows fields)
    where
      go : (e : Result (Unit {0}) SignRefusal) (o : Option ℕ)
          → or_nothing e (λ enough. or_nothing (unless refusal.NotText o) (λ texts. names_behind (sources_of rows x question.place files) 0 fields.references
          ++ or_nothing (views_from (sources_of rows x question.place files) 0 1 fields.references) (names_again octets (sources_of rows x question.place files) fields key)))
          ≡ or_nothing (and_then (and_then e (λ enough. unless refusal.NotText o)) (λ can. Ok (record { signature = x; fields = fields; key = key })))
          (λ t. names_of_template octets rows t question.place files)
      go (Ok y) None = refl
      go (Ok y) (Some k) = refl
      go (Err cause) o = refl

  of_fields_by : (x : ℕ) (fields : Fields) → outcome_of_fields octets (sources_of rows x question.place files) question fields
      ≡ and_then (template_of_fields rows question x fields) (λ t. template_outcome octets rows t question.place files)
  unfolding outcome_of_fields template_of_fields
  of_fields_by x fields =
      and_then_over (with_cause choice_refusal (key_of fields.key_name question))
      (λ key. outcome_under_key octets (sources_of rows x question.place files) fields key.octets)
      (λ key. template_under_key rows x fields key.octets) (λ t. template_outcome octets rows t question.place files) (λ key. under_key_by x fields key.octets)

  names_of_fields_by : (x : ℕ) (fields : Fields) → names_of_fields octets (sources_of rows x question.place files) question fields
      ≡ or_nothing (template_of_fields rows question x fields) (λ t. names_of_template octets rows t question.place files)
  unfolding names_of_fields template_of_fields
  names_of_fields_by x fields =
      or_nothing_past choice_refusal (key_of fields.key_name question)
      (λ key. names_under_key octets (sources_of rows x question.place files) fields key.octets)
      (λ key. template_under_key rows x fields key.octets) (λ t. names_of_template octets rows t question.place files) (λ key. names_under_key_by x fields key.octets)

  pub rows_by : outcome_of_rows octets rows question files ≡ and_then (template_of rows question) (λ t. template_outcome octets rows t question.place files)
  unfolding outcome_of_rows template_of
  rows_by =
      and_then_over (or_no_signature (nth_signature rows question.index))
      (λ x. and_then (with_cause refusal.Fields (fields_of rows x)) (outcome_of_fields octets (sources_of rows x question.place files) question))
      (λ x. and_then (with_cause refusal.Fields (fields_of rows x)) (template_of_fields rows question x)) (λ t. template_outcome octets rows t question.place files)
      (λ x. and_then_over (with_cause refusal.Fields (fields_of rows x)) (outcome_of_fields octets (sources_of rows x question.place files) question) (template_of_fields rows question x)
      (λ t. template_outcome octets rows t question.place files) (λ fields. of_fields_by x fields))

  pub rows_at : (r : Result TemplateOf SignRefusal) → template_of rows question ≡ r → outcome_of_rows octets rows question files ≡ and_then r (λ t. template_outcome octets rows t question.place files)
  rows_at r e = rows_by ∙ ap (λ (t : Result TemplateOf SignRefusal). and_then t (λ s. template_outcome octets rows s question.place files)) e

  pub names_rows_at : (r : Result TemplateOf SignRefusal) → template_of rows question ≡ r → names_of_rows octets rows question files ≡ or_nothing r (λ t. names_of_template octets rows t question.place files)
  unfolding names_of_rows
  names_rows_at r e = ap (λ (t : Result TemplateOf SignRefusal). or_nothing t (λ s. names_of_template octets rows s question.place files)) e

  pub outcome_at : read_outcome octets ≡ Ok rows → outcome octets question files ≡ outcome_of_rows octets rows question files
  unfolding outcome
  outcome_at e = ap (λ (r : Result (List RowOf) ReadRefusal). and_then (with_cause refusal.Read r) (λ rows. outcome_of_rows octets rows question files)) e

  names_by_rows : or_nothing (or_no_signature (nth_signature rows question.index)) (λ x. or_nothing (fields_of rows x) (names_of_fields octets (sources_of rows x question.place files) question)) ≡ names_of_rows octets rows question files
  unfolding names_of_rows template_of
  names_by_rows =
      or_nothing_over (or_no_signature (nth_signature rows question.index))
      (λ x. or_nothing (fields_of rows x) (names_of_fields octets (sources_of rows x question.place files) question))
      (λ x. and_then (with_cause refusal.Fields (fields_of rows x)) (template_of_fields rows question x)) (λ t. names_of_template octets rows t question.place files)
      (λ x. or_nothing_past refusal.Fields (fields_of rows x) (names_of_fields octets (sources_of rows x question.place files) question) (template_of_fields rows question x)
      (λ t. names_of_template octets rows t question.place files) (λ fields. names_of_fields_by x fields))

  pub names_at : read_outcome octets ≡ Ok rows → names_asked octets question files ≡ names_of_rows octets rows question files
  unfolding names_asked
  names_at e =
      ap (λ (r : Result (List RowOf) ReadRefusal). or_nothing r (λ rs. or_nothing (or_no_signature (nth_signature rs question.index)) (λ x. or_nothing (fields_of rs x) (names_of_fields octets (sources_of rs x question.place files) question)))) e
      ∙ names_by_rows

pub tells_rows : (octets : List ℕ) (rows : List RowOf) (question : QuestionOf) (told : Option Held) (files : Held) → read_outcome octets ≡ Ok rows → TellsTemplate octets question told files → TellsRows rows question told files
tells_rows octets rows question told files e (inl h) = inl h
tells_rows octets rows question told files e (inr none) = inr (none rows e)

-- ---- a document that can't be read
module _ (octets : List ℕ) (question : QuestionOf) (files : Held) where
  pub outcome_stops : (cause : ReadRefusal) → reading.Refuses cause (read_outcome octets) → Stops (read_cause cause) (outcome octets question files)
  unfolding outcome
  outcome_stops cause e = read_stops (read_outcome octets) (λ rows. outcome_of_rows octets rows question files) cause e

  pub nothing_asked : (cause : ReadRefusal) → read_outcome octets ≡ Err cause → names_asked octets question files ≡ []
  unfolding names_asked
  nothing_asked cause e =
      ap (λ (r : Result (List RowOf) ReadRefusal). or_nothing r (λ rs. or_nothing (or_no_signature (nth_signature rs question.index)) (λ x. or_nothing (fields_of rs x) (names_of_fields octets (sources_of rs x question.place files) question)))) e

  -- what is made of a template is valid
  pub valid_of : {T : Type 0} (view : T → List ℕ) (result : Result T SignRefusal) → Gives view result (outcome octets question files) → IfOk result (λ made. IsValid octets question files (view made))
  valid_of view (Ok made) e = signed_is_valid octets (view made) question files e
  valid_of view (Err cause) e = tt

-- ---- behind the views
module _ (octets : List ℕ) (rows : List RowOf) (t : TemplateOf) (place : Place) (files : Held) (views : List (List ℕ)) where
  seal_cases : outcome_behind octets rows t place files views ≡ and_then (seal_of (unsigned octets rows t.fields views) t.fields t.key) (outcome_of_seal octets rows t place files views)
  unfolding outcome_of_views seal_of outcome_of_seal made_outcome
  seal_cases = go (read_outcome (unsigned octets rows t.fields views))
    where
      inner : (made : List ℕ) (info : Result (Unit {0}) SignRefusal) (r : Result (List RowOf) ReadRefusal)
          → and_then (with_cause refusal.Filled r) (λ two. and_then info (λ within. and_then (compared (sources_of two t.signature place files) views) (λ same. Ok made)))
          ≡ and_then (and_then (with_cause refusal.Filled r) (λ two. and_then info (λ within. compared (sources_of two t.signature place files) views))) (λ same. Ok made)
      inner made (Ok y) (Ok two) = refl
      inner made (Err cause) (Ok two) = refl
      inner made info (Err cause) = refl

      go : (r : Result (List RowOf) ReadRefusal)
          → and_then (with_cause refusal.Filled r)
          (λ one. and_then (with_cause refusal.Filled (read_outcome (signed octets rows t.fields views (value_under one t.fields t.key))))
          (λ two. and_then (info_within one t.fields)
          (λ within. and_then (compared (sources_of two t.signature place files) views) (λ same. Ok (signed octets rows t.fields views (value_under one t.fields t.key))))))
          ≡ and_then (and_then (with_cause refusal.Filled r) (λ one. Ok (seal_by one t.fields t.key))) (outcome_of_seal octets rows t place files views)
      go (Ok one) = inner (signed octets rows t.fields views (value_under one t.fields t.key)) (info_within one t.fields) (read_outcome (signed octets rows t.fields views (value_under one t.fields t.key)))
      go (Err cause) = refl

  seal_names : names_behind_views octets rows t place files views ≡ or_nothing (seal_of (unsigned octets rows t.fields views) t.fields t.key) (names_of_seal octets rows t place files views)
  unfolding names_again seal_of names_made
  seal_names = go (read_outcome (unsigned octets rows t.fields views))
    where
      go : (r : Result (List RowOf) ReadRefusal)
          → or_nothing r
          (λ one. or_nothing (read_outcome (signed octets rows t.fields views (value_under one t.fields t.key)))
          (λ two. or_nothing (info_within one t.fields) (λ within. names_of_comparison (sources_of two t.signature place files) views)))
          ≡ or_nothing (and_then (with_cause refusal.Filled r) (λ one. Ok (seal_by one t.fields t.key))) (names_of_seal octets rows t place files views)
      go (Ok one) = refl
      go (Err cause) = refl

  pub behind_at : (r : Result Seal SignRefusal) → seal_of (unsigned octets rows t.fields views) t.fields t.key ≡ r
      → outcome_behind octets rows t place files views ≡ and_then r (outcome_of_seal octets rows t place files views)
  behind_at r e = seal_cases ∙ ap (λ (s : Result Seal SignRefusal). and_then s (outcome_of_seal octets rows t place files views)) e

  pub names_behind_at : (r : Result Seal SignRefusal) → seal_of (unsigned octets rows t.fields views) t.fields t.key ≡ r
      → names_behind_views octets rows t place files views ≡ or_nothing r (names_of_seal octets rows t place files views)
  names_behind_at r e = seal_names ∙ ap (λ (s : Result Seal SignRefusal). or_nothing s (names_of_seal octets rows t place files views)) e

  -- behind the comparison
  pub seal_done : (seal : Seal) → made_outcome t.signature place files (made_by octets rows t views seal) seal.fits views ≡ Ok tt → outcome_of_seal octets rows t place files views seal ≡ Ok (made_by octets rows t views seal)
  unfolding outcome_of_seal
  seal_done seal e = ap (λ (r : Result (Unit {0}) SignRefusal). and_then r (λ same. Ok (made_by octets rows t views seal))) e

  pub seal_refused : (seal : Seal) (cause : SignRefusal) → made_outcome t.signature place files (made_by octets rows t views seal) seal.fits views ≡ Err cause → outcome_of_seal octets rows t place files views seal ≡ Err cause
  unfolding outcome_of_seal
  seal_refused seal cause e = ap (λ (r : Result (Unit {0}) SignRefusal). and_then r (λ same. Ok (made_by octets rows t views seal))) e

-- ---- a template, by its views
module _ (octets : List ℕ) (rows : List RowOf) (t : TemplateOf) (place : Place) (files : Held) where
  abbrev all_views : Result (List (List ℕ)) SignRefusal
  all_views = views_from (sources_of rows t.signature place files) 0 1 t.fields.references

  pub template_at : (r : Result (List (List ℕ)) SignRefusal) → views_from (sources_of rows t.signature place files) 0 1 t.fields.references ≡ r
      → template_outcome octets rows t place files ≡ and_then r (outcome_behind octets rows t place files)
  unfolding template_outcome
  template_at r e = ap (λ (v : Result (List (List ℕ)) SignRefusal). and_then v (outcome_behind octets rows t place files)) e

  pub template_names : names_of_template octets rows t place files
      ≡ names_behind (sources_of rows t.signature place files) 0 t.fields.references ++ or_nothing (views_from (sources_of rows t.signature place files) 0 1 t.fields.references) (names_behind_views octets rows t place files)
  unfolding names_of_template
  template_names = refl

  pub template_names_at : (r : Result (List (List ℕ)) SignRefusal) → views_from (sources_of rows t.signature place files) 0 1 t.fields.references ≡ r
      → names_of_template octets rows t place files ≡ names_behind (sources_of rows t.signature place files) 0 t.fields.references ++ or_nothing r (names_behind_views octets rows t place files)
  template_names_at r e =
      template_names
      ∙ ap (λ (v : Result (List (List ℕ)) SignRefusal). names_behind (sources_of rows t.signature place files) 0 t.fields.references ++ or_nothing v (names_behind_views octets rows t place files)) e
