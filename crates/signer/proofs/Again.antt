-- Signing what is signed gives the same octets.
use Rattle.std.proofs.Common.{◌≡◌, ℕ, ◌+◌, true, if◌then◌else◌, None, Some, Result, Ok, Err, List, [], ◌∷◌, length, sym, ap, subst, ◌∙◌, arith}
use Rattle.std.specs.Prelude.{nat_le}
use Rattle.sig_base.specs.Outcomes.{and_then, with_cause}
use Rattle.sig_outside.specs.Told.{Held}
use Rattle.digests_hmac.specs.KeyEntries.{KeyEntry}
use Rattle.xml_doc.specs.Rows.{RowOf}
use Rattle.xml_read.specs.ReadOutcome.{read_outcome}
use Rattle.xml_read.specs.Spelled.{Spells}
use Rattle.xml_read.specs.declared.read.ReadRefusal.{ReadRefusal}
use Rattle.xml_read.proofs.SpelledLaws.{spells_of}
use Rattle.row_spans.proofs.Read.{read_rows}
use Rattle.dsig_fields.specs.Fields.{fields_of}
use Rattle.dsig_fields.specs.Holds.{is_long_enough, value_bits}
use Rattle.dsig_fields.specs.Keys.{QuestionOf, key_of}
use Rattle.dsig_fields.specs.Signatures.{nth_signature}
use Rattle.dsig_fields.specs.declared.fields.Fields.{Fields}
use Rattle.dsig_fields.specs.declared.fields.Reference.{Reference}
use Rattle.dsig_fields.specs.declared.key.KeyChoice.{KeyChoice}
use Rattle.dsig_fields.specs.declared.refusal.FieldRefusal.{FieldRefusal}
use Rattle.transforms.specs.Outcome.{Sources, canonical_signed_info, next_view}
use Rattle.transforms.specs.Steps.{octet_limit}
use Rattle.transforms.specs.Values.{origin_of}
use Rattle.transforms.specs.Views.{view_of}
use Rattle.transforms.specs.declared.refusal.RefRefusal.{RefRefusal}
use Rattle.signer.specs.Laws.{FilledAgain}
use Rattle.signer.specs.Outcome.{unless, or_no_signature, choice_refusal, not_text, views_from, first_changed, references_of, covers_itself, info_within, outcome_of_views, outcome_under_key, outcome_of_fields, outcome_of_rows, outcome}
use Rattle.signer.specs.Signed.{signed, unsigned, value_under}
use Rattle.signer.specs.declared.refusal.SignRefusal.{SignRefusal}
use Rattle.signer.specs.declared.refusal.SignRefusal.TheVariants as refusal
use Rattle.signer.proofs.Made.{Filled, OfOctets, UnderKey, counted, holds, is_had, next_same, none_are, of_octets, parts, sources_at, tested}
use Rattle.signer.proofs.Octets.{kept_bytes}
use Rattle.signer.proofs.Premises.{Ready, ready}
use Rattle.signer.proofs.Refilled.{SignedAgain, signed_again}
use Rattle.signer.proofs.Valid.{found_named}

-- ---- the views are had again
behind_from : (sources : Sources) (total number : ℕ) (r : Reference) (rs : List Reference) (view : List ℕ) (others : List (List ℕ)) → next_view sources total r ≡ Ok view
    → views_from sources (total + length view) (number + 1) rs ≡ Ok others → views_from sources total number (r ∷ rs) ≡ Ok (view ∷ others)
unfolding views_from
behind_from sources total number r rs view others e f =
    ap (λ (n : Result (List ℕ) RefRefusal). and_then (with_cause (refusal.Reference number) n) (λ v. and_then (views_from sources (total + length v) (number + 1) rs) (λ vs. Ok (v ∷ vs)))) e
    ∙ ap (λ (n : Result (List (List ℕ)) SignRefusal). and_then n (λ vs. Ok (view ∷ vs))) f

views_again : (sources now : Sources) (total number : ℕ) (rs ss : List Reference) (views : List (List ℕ)) → views_from sources total number rs ≡ Ok views → length ss ≡ length rs → first_changed now number ss views ≡ None
    → views_from now total number ss ≡ Ok views
unfolding views_from
views_again sources now total number [] [] views e count none = ap Ok (sym (none_are sources total number views e))
views_again sources now total number [] (s ∷ ss) views e count none = absurd (omega (arith, count))
views_again sources now total number (r ∷ rs) [] views e count none = absurd (omega (arith, count))
views_again sources now total number (r ∷ rs) (s ∷ ss) views e count none =
    let p = parts sources total number r rs views e in
    let t = tested sources now number s ss p.view p.others (subst (λ vs. first_changed now number (s ∷ ss) vs ≡ None) p.are none) in
    behind_from now total number s ss p.view p.others (next_same sources now total r s p.view p.first (is_had (view_of (origin_of now.rows (Some now.signature)) now.place now.files s) p.view t.0))
    (views_again sources now (total + length p.view) (number + 1) rs ss p.others p.rest (omega (arith, count)) t.1)
    ∙ ap Ok (sym p.are)

-- ---- each step gives something
views_out : (octets : List ℕ) (sources : Sources) (fields : Fields) (key : List ℕ) (views : List (List ℕ)) (made : List ℕ) (one two : List RowOf) → read_outcome (unsigned octets sources.rows fields views) ≡ Ok one
    → signed octets sources.rows fields views (value_under one fields key) ≡ made → read_outcome made ≡ Ok two → nat_le (length (canonical_signed_info one fields)) octet_limit ≡ true → covers_itself sources two views ≡ None
    → outcome_of_views octets sources fields key views ≡ Ok made
unfolding outcome_of_views
views_out octets sources fields key views made one two read_one is read_two short same =
    let value = λ (rows : List RowOf). signed octets sources.rows fields views (value_under rows fields key) in
    let last = λ (m : List ℕ) (rows : List RowOf). and_then (unless refusal.CoversItself (covers_itself sources rows views)) (λ same. Ok m) in
    ap (λ (r : Result (List RowOf) ReadRefusal). and_then (with_cause refusal.Filled r) (λ o. and_then (with_cause refusal.Filled (read_outcome (value o))) (λ t. and_then (info_within o fields) (λ within. last (value o) t)))) read_one
    ∙ ap (λ m. and_then (with_cause refusal.Filled (read_outcome m)) (λ t. and_then (info_within one fields) (λ within. last m t))) is
    ∙ ap (λ (r : Result (List RowOf) ReadRefusal). and_then (with_cause refusal.Filled r) (λ t. and_then (info_within one fields) (λ within. last made t))) read_two
    ∙ ap (λ b. and_then (if b then Ok tt else Err refusal.OctetsTooLong) (λ within. last made two)) short
    ∙ ap (λ o. and_then (unless refusal.CoversItself o) (λ same. Ok made)) same

under_out : (octets : List ℕ) (sources : Sources) (fields : Fields) (key : List ℕ) (views : List (List ℕ)) (made : List ℕ) → is_long_enough fields.mac (value_bits fields.mac fields.bits) ≡ true → not_text sources.rows fields ≡ None
    → views_from sources 0 1 fields.references ≡ Ok views → outcome_of_views octets sources fields key views ≡ Ok made → outcome_under_key octets sources fields key ≡ Ok made
unfolding outcome_under_key
under_out octets sources fields key views made long texts are out =
    let bits = value_bits fields.mac fields.bits in
    let next = and_then (views_from sources 0 1 fields.references) (outcome_of_views octets sources fields key) in
    ap (λ b. and_then (if b then Ok tt else Err (refusal.ShortTruncation bits)) (λ enough. and_then (unless refusal.NotText (not_text sources.rows fields)) (λ texts. next))) long
    ∙ ap (λ o. and_then (unless refusal.NotText o) (λ texts. next)) texts
    ∙ ap (λ (r : Result (List (List ℕ)) SignRefusal). and_then r (outcome_of_views octets sources fields key)) are
    ∙ out

outcome_out : (octets : List ℕ) (rows : List RowOf) (question : QuestionOf) (files : Held) (x : ℕ) (fields : Fields) (key : KeyEntry) (made : List ℕ) → read_outcome octets ≡ Ok rows → nth_signature rows question.index ≡ Some x
    → fields_of rows x ≡ Ok fields → key_of fields.key_name question ≡ Ok key → outcome_under_key octets (sources_at rows x question files) fields key.octets ≡ Ok made → outcome octets question files ≡ Ok made
unfolding outcome outcome_of_rows outcome_of_fields
outcome_out octets rows question files x fields key made read found is chosen out =
    let sources = sources_at rows x question files in
    ap (λ (r : Result (List RowOf) ReadRefusal). and_then (with_cause refusal.Read r) (λ rs. outcome_of_rows octets rs question files)) read
    ∙ ap (λ o. and_then (or_no_signature o) (λ y. and_then (with_cause refusal.Fields (fields_of rows y)) (outcome_of_fields octets (sources_at rows y question files) question))) found
    ∙ ap (λ (r : Result Fields FieldRefusal). and_then (with_cause refusal.Fields r) (outcome_of_fields octets sources question)) is
    ∙ ap (λ (r : Result KeyEntry KeyChoice). and_then (with_cause choice_refusal r) (λ k. outcome_under_key octets sources fields k.octets)) chosen
    ∙ out

-- ---- and so signing again gives the same octets
module _ (octets : List ℕ) (question : QuestionOf) (files : Held) (made : List ℕ) (s : OfOctets octets question files made) where
  key : KeyEntry
  key = s.then_fields.key

  u : UnderKey octets (sources_at s.rows s.x question files) s.fields s.then_fields.key.octets made
  u = s.then_fields.then_under

  f : Filled octets (sources_at s.rows s.x question files) s.fields s.then_fields.key.octets u.views made
  f = u.then_filled

  spells : Spells octets s.rows
  spells = spells_of octets s.rows s.read

  count : length u.views ≡ length s.fields.references
  count = counted (sources_at s.rows s.x question files) 0 1 s.fields.references u.views u.views_are

  spells_made : Spells (signed octets s.rows s.fields u.views (value_under f.one s.fields s.then_fields.key.octets)) f.two
  spells_made = subst (λ o. Spells o f.two) f.made_is (spells_of made f.two f.read_two)

  found : nth_signature f.two question.index ≡ Some s.x
  found =
      (holds octets s.rows f.one f.two question.index s.x s.fields u.views s.then_fields.key.octets spells s.found s.fields_are u.texts count u.long
      (spells_of (unsigned octets s.rows s.fields u.views) f.one f.read_one) spells_made).found

  can : Ready s.rows s.x s.fields u.views
  can = ready s.rows s.x s.fields u.views (read_rows octets s.rows spells).shape (found_named s.rows question.index s.x s.found) s.fields_are u.texts

  again : SignedAgain octets s.rows f.one f.two s.x s.fields u.views s.then_fields.key.octets
  again =
      signed_again octets s.rows f.one f.two question.index s.x s.fields u.views s.then_fields.key.octets spells s.found s.fields_are count u.long can.before can.empty
      (can.value (value_under f.one s.fields s.then_fields.key.octets)
      (kept_bytes s.fields.mac s.then_fields.key.octets (canonical_signed_info f.one s.fields) (value_bits s.fields.mac s.fields.bits)))
      spells_made

  -- the views of the signed document are the same
  unchanged : first_changed (sources_at f.two s.x question files) 1 again.read.references u.views ≡ None
  unchanged = subst (λ r. first_changed (sources_at f.two s.x question files) 1 (references_of r) u.views ≡ None) again.fields_are f.same

  unsigned_same : unsigned made f.two again.read u.views ≡ unsigned octets s.rows s.fields u.views
  unsigned_same = ap (λ o. unsigned o f.two again.read u.views) f.made_is ∙ again.unsigned_same

  signed_same : signed made f.two again.read u.views (value_under f.one again.read s.then_fields.key.octets) ≡ made
  signed_same = ap (λ o. signed o f.two again.read u.views (value_under f.one again.read s.then_fields.key.octets)) f.made_is ∙ again.signed_same ∙ sym f.made_is

  gives_same : outcome made question files ≡ Ok made
  gives_same =
      let now = sources_at f.two s.x question files in
      outcome_out made f.two question files s.x again.read s.then_fields.key made f.read_two found again.fields_are (ap (λ n. key_of n question) (sym again.key_name) ∙ s.then_fields.chosen)
      (under_out made now again.read s.then_fields.key.octets u.views made again.long again.texts
      (views_again (sources_at s.rows s.x question files) now 0 1 s.fields.references again.read.references u.views u.views_are again.count unchanged)
      (views_out made now again.read s.then_fields.key.octets u.views made f.one f.two (ap read_outcome unsigned_same ∙ f.read_one) signed_same f.read_two (ap (λ o. nat_le (length o) octet_limit) again.info ∙ f.short) f.same))

pub filled_is_kept : FilledAgain
filled_is_kept octets made question files e = gives_same octets question files made (of_octets octets question files made e)
