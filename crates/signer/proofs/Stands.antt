-- A template that is filled in: what is written lies in order, and the Signature and its SignedInfo stand where they stood.
use Rattle.std.proofs.Common.{◌≡◌, ◌∙◌, ℕ, zero, suc, ◌+◌, ◌<◌, Result, Ok, List, [], ◌∷◌, ◌++◌, length, get_or, refl, sym, ap, subst, inl, inr, arith}
use Rattle.std.specs.Prelude.{Option}
use Rattle.std.specs.List.{All}
use Rattle.base64.specs.GeneralPurpose.{IsBytes}
use Rattle.sig_outside.specs.Told.{Held}
use Rattle.dsig_base64.specs.Loose.{base64_of}
use Rattle.dsig_base64.proofs.Padding.{length-base64_of}
use Rattle.uri_refs.specs.declared.target.Place.{Place}
use Rattle.xml_doc.specs.Rows.{RowOf}
use Rattle.xml_read.specs.ReadOutcome.{read_outcome}
use Rattle.xml_read.specs.Spelled.{Spells}
use Rattle.xml_read.proofs.SpelledLaws.{spells_of}
use Rattle.row_spans.specs.RowSpans.{InOrder}
use Rattle.row_spans.proofs.Read.{read_rows}
use Rattle.row_fills.specs.Fillings.{filled_in, filling, spans_of}
use Rattle.row_fills.proofs.InOrder.{in_order}
use Rattle.row_fills.proofs.Info.{can_front, spelled_once}
use Rattle.row_fills.proofs.Together.{all_together}
use Rattle.moved_fields.specs.Moved.{Pairwise, moved_by, ReferenceMoves, FieldsMove}
use Rattle.moved_fields.proofs.Moves.{fields_follow}
use Rattle.row_fills.specs.Fillings.{content_of}
use Rattle.dsig_fields.specs.Fields.{fields_of}
use Rattle.dsig_fields.specs.Follows.{Follows}
use Rattle.dsig_fields.specs.declared.fields.Fields.{Fields}
use Rattle.dsig_fields.specs.declared.fields.Reference.{Reference}
use Rattle.dsig_fields.specs.declared.refusal.FieldRefusal.{FieldRefusal}
use Rattle.transforms.specs.Views.{target_in}
use Rattle.core_validate.specs.Answers.{IsNoFile}
use Rattle.signer.specs.Signed.{digest_fillings, signed, unsigned}
use Rattle.signer.specs.Code.Comparing.{TellsMade}
use Rattle.signer.specs.Code.Reading.{IsTemplate, TemplateOf}
use Rattle.signer.specs.Code.Views.{TellsEach}
use Rattle.signer.proofs.Premises.{Ready, can_from, none_long, ready}
use Rattle.signer.proofs.Valid.{found_named}

-- no digits are no text
pub unsigned_is : (octets : List ℕ) (rows : List RowOf) (fields : Fields) (views : List (List ℕ)) → signed octets rows fields views [] ≡ unsigned octets rows fields views
unsigned_is octets rows fields views =
    ap (λ text. filled_in octets rows (digest_fillings fields.references views ++ filling fields.value_row text [] ∷ [])) (none_long (base64_of []) (length-base64_of []))

-- ---- References that refer to the same
abbrev pub NoFile : Place → Reference → Type 0
NoFile place reference = IsNoFile (target_in place reference)

module _ (moves : ℕ → ℕ → Type 0) (content : ℕ → List ℕ → List ℕ) where
  -- beside each Reference there is one with the same URI
  beside : (rs ss : List Reference) → Pairwise (ReferenceMoves moves content) rs ss → (k : ℕ) (d : Reference) → k < length ss
      → (k < length rs) × ((get_or rs k d).uri ≡ (get_or ss k d).uri)
  beside [] [] p k d lt = absurd (omega (arith, lt))
  beside [] (s ∷ ss) p k d lt = absurd p
  beside (r ∷ rs) [] p k d lt = absurd p
  beside (r ∷ rs) (s ∷ ss) p zero d lt = (omega arith, p.0.uri)
  beside (r ∷ rs) (s ∷ ss) p (suc k) d lt = let more = beside rs ss p.1 k d (omega (arith, lt)) in (omega (arith, more.0), more.1)

  pub no_files_beside : (place : Place) (rs ss : List Reference) → Pairwise (ReferenceMoves moves content) rs ss → All (NoFile place) rs → All (NoFile place) ss
  no_files_beside place rs ss p all k d lt =
      let b = beside rs ss p k d lt in
      let P : List ℕ → Type 0 = λ uri. NoFile place (record (get_or ss k d) { uri = uri }) in
      subst P b.1 (all k d b.0)

-- ---- a template
module _ (octets : List ℕ) (rows : List RowOf) (t : TemplateOf) (is : IsTemplate octets rows t) (views : List (List ℕ)) where
  spells : Spells octets rows
  spells = spells_of octets rows is.read

  is_ready : Ready rows t.signature t.fields views
  is_ready = ready rows t.signature t.fields views (read_rows octets rows spells).shape (found_named rows is.index t.signature is.found) is.fields_are is.texts

  pub orders : (value : List ℕ) → IsBytes value → InOrder 0 (length octets) (spans_of rows (digest_fillings t.fields.references views ++ filling t.fields.value_row (base64_of value) value ∷ []))
  orders value bytes =
      in_order octets rows spells (digest_fillings t.fields.references views ++ filling t.fields.value_row (base64_of value) value ∷ [])
      (can_from rows (read_rows octets rows spells).shape 0 (t.fields.signed_info + 1) (digest_fillings t.fields.references views ++ filling t.fields.value_row (base64_of value) value ∷ []) (omega arith) (is_ready.value value bytes))

  pub info_stands : (one : List RowOf) → read_outcome (unsigned octets rows t.fields views) ≡ Ok one → t.fields.signed_info < length one
  info_stands one e =
      let fs = digest_fillings t.fields.references views in
      let info = t.fields.signed_info in
      let row = t.fields.value_row in
      let pair = all_together octets rows (info + 1) fs row [] [] [] [] spells is_ready.empty is_ready.empty in
      let same = spelled_once (unsigned octets rows t.fields views) one pair.one.others (spells_of (unsigned octets rows t.fields views) one e) pair.one.spells in
      let before = can_front rows info fs row [] [] is_ready.empty in
      let there = pair.one.begins.there_too in
      subst (λ (rs : List RowOf). info < length rs) (sym same) (omega (arith, before, there))

  module _ (value : List ℕ) (bytes : IsBytes value) (two : List RowOf) (e : read_outcome (signed octets rows t.fields views value) ≡ Ok two) where
    pub signature_stands : t.signature < length two
    signature_stands =
        let fs = digest_fillings t.fields.references views in
        let info = t.fields.signed_info in
        let row = t.fields.value_row in
        let pair = all_together octets rows (info + 1) fs row [] [] (base64_of value) value spells is_ready.empty (is_ready.value value bytes) in
        let same = spelled_once (signed octets rows t.fields views value) two pair.other.others (spells_of (signed octets rows t.fields views value) two e) pair.other.spells in
        let before = can_front rows info fs row [] [] is_ready.empty in
        let there = pair.other.begins.there_too in
        let above = is_ready.before in
        subst (λ (rs : List RowOf). t.signature < length rs) (sym same) (omega (arith, before, there, above))

    pub no_files_again : (place : Place) (read : Fields) → fields_of two t.signature ≡ Ok read → All (NoFile place) t.fields.references → All (NoFile place) read.references
    no_files_again place read read_is none =
        let fs = digest_fillings t.fields.references views in
        let info = t.fields.signed_info in
        let row = t.fields.value_row in
        let all = fs ++ filling row (base64_of value) value ∷ [] in
        let b = (all_together octets rows (info + 1) fs row [] [] (base64_of value) value spells is_ready.empty (is_ready.value value bytes)).other in
        let before = can_front rows info fs row [] [] is_ready.empty in
        let above = is_ready.before in
        let at = b.front t.signature (omega (arith, above, before)) in
        let same = spelled_once (signed octets rows t.fields views value) two b.others (spells_of (signed octets rows t.fields views value) two e) b.spells in
        let m = subst (λ (r : Result Fields FieldRefusal). Follows (FieldsMove (moved_by b.number b.kept) (content_of all)) r (fields_of b.others (b.number t.signature))) is.fields_are
        (fields_follow (moved_by b.number b.kept) (content_of all) rows b.others t.signature (b.number t.signature) b.stands (at.0, refl) (found_named rows is.index t.signature is.found)) in
        let there : fields_of two t.signature ≡ Ok m.0 = ap (λ rs. fields_of rs t.signature) same ∙ ap (fields_of b.others) (sym at.1) ∙ m.1 in
        let again : m.0 ≡ read = fields_is m.0 read (sym there ∙ read_is) in
        subst (λ (f : Fields). All (NoFile place) f.references) again
        (no_files_beside (moved_by b.number b.kept) (content_of all) place t.fields.references m.0.references m.2.references none)
      where
        fields_is : (f g : Fields) → ◌≡◌ {A = Result Fields FieldRefusal} (Ok f) (Ok g) → f ≡ g
        fields_is f g k = cc

  -- the files that are told of the References of the template are those of what is made
  pub tells_made : (place : Place) (value : List ℕ) → IsBytes value → (told : Option Held) (files : Held) → TellsEach place t.fields.references told files
      → TellsMade place (signed octets rows t.fields views value) t.signature told files
  tells_made place value bytes told files (inl e) = inl e
  tells_made place value bytes told files (inr none) = inr (λ two read e read_is. no_files_again value bytes two e place read read_is none)
