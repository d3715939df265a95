-- The elements that are filled in can be: they rise, they have text alone, and base64 may stand in them.
use Rattle.std.proofs.Common.{◌≡◌, ℕ, zero, suc, ◌+◌, ◌<◌, ◌≤◌, ◌&&◌, ◌||◌, Bool, true, false, not, cond, Some, None, Ok, List, [], ◌∷◌, ◌++◌, length, map, refl, sym, ap, subst, ◌∙◌, arith, inl, inr}
use Rattle.std.specs.List.{filter, find, list_all, range_with_len}
use Rattle.std.proofs.lemmas.Bool.{cases_eq, false≢true, and_parts}
use Rattle.base64.specs.GeneralPurpose.{IsBytes}
use Rattle.digests_hmac.specs.Hash.{hash}
use Rattle.dsig_base64.specs.Loose.{base64_of, octets_in}
use Rattle.dsig_base64.proofs.Padding.{length-base64_of}
use Rattle.dsig_base64.proofs.Reading.{octets_in-base64_of}
use Rattle.xml_doc.specs.Axes.{is_child}
use Rattle.xml_doc.specs.Kinds.{is_element, is_text}
use Rattle.xml_doc.specs.Rows.{RowOf}
use Rattle.xml_doc.specs.Shape.{row_at, IsWellShaped}
use Rattle.xml_doc.specs.declared.row.Kind.{Kind}
use Rattle.xml_doc.specs.declared.row.Kind.TheVariants as kind
use Rattle.row_spans.specs.TextAlone.{HasTextAlone}
use Rattle.row_spans.proofs.Children.{alone}
use Rattle.dsig_fields.specs.Fields.{fields_of}
use Rattle.dsig_fields.specs.Reading.{is_named}
use Rattle.dsig_fields.specs.declared.fields.Fields.{Fields}
use Rattle.dsig_fields.specs.declared.fields.Reference.{Reference}
use Rattle.dsig_fields.specs.declared.names.ElementName.{ElementName}
use Rattle.dsig_fields.specs.declared.names.ElementName.TheVariants.{DigestValue, Signature, SignatureValue}
use Rattle.dsig_fields.proofs.RiseLaws.{Follow, child_in, parent_is, rise}
use Rattle.dsig_fields.proofs.Steps.{named_fits}
use Rattle.moved_fields.specs.Moved.{is_value}
use Rattle.row_fills.specs.Fillings.{Filling, CanFill, CanFillAll, LiesInFront, filling}
use Rattle.signer.specs.Outcome.{has_texts, not_text}
use Rattle.signer.specs.Signed.{digest_fillings}
use Rattle.signer.proofs.Bare.{base64_bare}
use Rattle.signer.proofs.Octets.{hash_bytes}

kind_is_element : (k : Kind) → is_element k ≡ true → k ≡ kind.Element
kind_is_element kind.Root e = absurd (false≢true e)
kind_is_element kind.Element e = refl
kind_is_element kind.Namespace e = absurd (false≢true e)
kind_is_element kind.Attribute e = absurd (false≢true e)
kind_is_element kind.Text e = absurd (false≢true e)
kind_is_element kind.Comment e = absurd (false≢true e)
kind_is_element kind.Instruction e = absurd (false≢true e)

kind_is_text : (k : Kind) → is_text k ≡ true → k ≡ kind.Text
kind_is_text kind.Root e = absurd (false≢true e)
kind_is_text kind.Element e = absurd (false≢true e)
kind_is_text kind.Namespace e = absurd (false≢true e)
kind_is_text kind.Attribute e = absurd (false≢true e)
kind_is_text kind.Text e = refl
kind_is_text kind.Comment e = absurd (false≢true e)
kind_is_text kind.Instruction e = absurd (false≢true e)

-- what passes one test passes the other
all_passing : (p q : ℕ → Bool) (a n : ℕ) → list_all p (filter q (range_with_len a n)) ≡ true → (y : ℕ) → a ≤ y → y < a + n → q y ≡ true → p y ≡ true
all_passing p q a zero h y ge lt passes = absurd (omega (arith, ge, lt))
all_passing p q a (suc n) h y ge lt passes = elim (cases_eq y a) [
  | inl here ↦ ap p here ∙ first (q a) (ap q (sym here) ∙ passes) h
  | inr other ↦ all_passing p q (a + 1) n (later (q a) h) y (omega (arith, ge, other)) (omega (arith, lt)) passes
]
  where
    first : (b : Bool) → b ≡ true → list_all p (cond b (a ∷ filter q (range_with_len (a + 1) n)) (filter q (range_with_len (a + 1) n))) ≡ true → p a ≡ true
    first true e k = (and_parts (p a) (list_all p (filter q (range_with_len (a + 1) n))) k).0
    first false e k = absurd (false≢true e)

    later : (b : Bool) → list_all p (cond b (a ∷ filter q (range_with_len (a + 1) n)) (filter q (range_with_len (a + 1) n))) ≡ true → list_all p (filter q (range_with_len (a + 1) n)) ≡ true
    later true k = (and_parts (p a) (list_all p (filter q (range_with_len (a + 1) n))) k).1
    later false k = k

pub none_long : (xs : List ℕ) → length xs ≡ 0 → xs ≡ []
none_long [] e = refl
none_long (x ∷ xs) e = absurd (omega (arith, e))

module _ (rows : List RowOf) (shape : IsWellShaped rows) where
  pub text_alone : (name : ElementName) (x : ℕ) → is_named rows name x ≡ true → has_texts rows x ≡ true → HasTextAlone rows x
  text_alone name x named texts =
      let is = named_fits rows name x named in
      alone rows x shape is.within
      (λ y lt child. kind_is_text (row_at rows y).kind (all_passing (λ z. is_text (row_at rows z).kind) (is_child rows x) 0 (length rows) texts y (omega arith) (omega (arith, lt)) child))
      (kind_is_element (row_at rows x).kind is.element)

  -- base64 can be filled in
  pub can_fill : (name : ElementName) (x : ℕ) (octets : List ℕ) → is_named rows name x ≡ true → is_value rows x ≡ true → has_texts rows x ≡ true → IsBytes octets → CanFill rows (filling x (base64_of octets) octets)
  can_fill name x octets named value texts bytes =
      record { alone = text_alone name x named texts; value = value; bare = base64_bare octets bytes; spelled = octets_in-base64_of octets bytes }

  -- and nothing can
  pub can_empty : (name : ElementName) (x : ℕ) → is_named rows name x ≡ true → is_value rows x ≡ true → has_texts rows x ≡ true → CanFill rows (filling x [] [])
  can_empty name x named value texts =
      record { alone = text_alone name x named texts; value = value; bare = refl; spelled = subst (λ t. octets_in t ≡ Some []) (none_long (base64_of []) (length-base64_of [])) (octets_in-base64_of [] (λ i. omega arith)) }

  digest_is_value : (x : ℕ) → is_named rows DigestValue x ≡ true → is_value rows x ≡ true
  digest_is_value x named = ap (λ b. b || is_named rows SignatureValue x) named

  signature_is_value : (x : ℕ) → is_named rows SignatureValue x ≡ true → is_value rows x ≡ true
  signature_is_value x named = go (is_named rows DigestValue x) named
    where
      go : (b : Bool) → is_named rows SignatureValue x ≡ true → (b || is_named rows SignatureValue x) ≡ true
      go true e = refl
      go false e = e

  pub can_from : (a b : ℕ) (fs : List Filling) → a ≤ b → CanFillAll rows b fs → CanFillAll rows a fs
  can_from a b [] le can = tt
  can_from a b (f ∷ fs) le can = (omega (arith, le, can.0), can.1, can.2)

  -- all digests, and something behind them
  can_digests : (from end : ℕ) (rs : List Reference) (views : List (List ℕ)) (last : Filling) → from ≤ end + 1 → Follow rows from end rs → list_all (has_texts rows) (map (λ (r : Reference). r.digest_row) rs) ≡ true
      → CanFillAll rows (end + 1) (last ∷ []) → CanFillAll rows from (digest_fillings rs views ++ last ∷ [])
  can_digests from end [] views last le follow texts can = can_from from (end + 1) (last ∷ []) le can
  can_digests from end (r ∷ rs) [] last le follow texts can = can_from from (end + 1) (last ∷ []) le can
  can_digests from end (r ∷ rs) (view ∷ views) last le follow texts can =
      let each = and_parts (has_texts rows r.digest_row) (list_all (has_texts rows) (map (λ (r : Reference). r.digest_row) rs)) texts in
      let in_it = follow.1 in
      let next = (row_at rows r.row).last + 1 in
      let more = can_digests next end rs views last (omega (arith, follow.2)) follow.3 each.1 can in (
        omega (arith, follow.0, in_it.below),
        can_fill DigestValue r.digest_row (hash r.digest view) in_it.named (digest_is_value r.digest_row in_it.named) each.0 (hash_bytes r.digest view),
        can_from (r.digest_row + 1) next (digest_fillings rs views ++ last ∷ []) (omega (arith, in_it.inside)) more,
      )

-- nothing that is found: each passes
none_found : (p : ℕ → Bool) (xs ys : List ℕ) → find (λ x. not (p x)) (xs ++ ys) ≡ None → (list_all p xs ≡ true) × (find (λ x. not (p x)) ys ≡ None)
none_found p [] ys e = (refl, e)
none_found p (x ∷ xs) ys e = go (p x) refl e (λ k. none_found p xs ys k)
  where
    go : (b : Bool) → p x ≡ b → cond (not b) (Some x) (find (λ z. not (p z)) (xs ++ ys)) ≡ None
        → (find (λ z. not (p z)) (xs ++ ys) ≡ None → (list_all p xs ≡ true) × (find (λ z. not (p z)) ys ≡ None))
        → (list_all p (x ∷ xs) ≡ true) × (find (λ z. not (p z)) ys ≡ None)
    go true is k rest = let r = rest k in (ap (λ b. b && list_all p xs) is ∙ r.0, r.1)
    go false is k rest = absurd cc

-- what holds before the texts are known
pub record Ready (rows : List RowOf) (x : ℕ) (fields : Fields) (views : List (List ℕ)) : Type 0 where
  pub before : x < fields.signed_info
  pub lies : LiesInFront rows fields.signed_info fields.value_row
  pub empty : CanFillAll rows (fields.signed_info + 1) (digest_fillings fields.references views ++ filling fields.value_row [] [] ∷ [])
  pub value : (octets : List ℕ) → IsBytes octets → CanFillAll rows (fields.signed_info + 1) (digest_fillings fields.references views ++ filling fields.value_row (base64_of octets) octets ∷ [])

pub ready : (rows : List RowOf) (x : ℕ) (fields : Fields) (views : List (List ℕ)) → IsWellShaped rows → is_named rows Signature x ≡ true → fields_of rows x ≡ Ok fields → not_text rows fields ≡ None → Ready rows x fields views
ready rows x fields views shape named is none =
    let r = rise rows shape x fields pos is in
    let inside = child_in rows shape x fields.signed_info pos r.signed_info in
    let up = parent_is rows shape x fields.signed_info r.signed_info in
    let up' = parent_is rows shape x fields.value_row r.value_row in
    let end = (row_at rows fields.signed_info).last in
    let texts = none_found (has_texts rows) (map (λ (r : Reference). r.digest_row) fields.references) (fields.value_row ∷ []) none in
    let last_texts = none_found (has_texts rows) (fields.value_row ∷ []) [] texts.1 in
    let last_text = (and_parts (has_texts rows fields.value_row) true last_texts.0).0 in
    let behind : end + 1 ≤ fields.value_row = omega (arith, r.apart) in
    let reach : fields.signed_info + 1 ≤ end + 1 = omega (arith, inside.1) in
    record {
      before = inside.0;
      lies = record { deep = omega (arith, up, pos); beside = up' ∙ sym up };
      empty = can_digests rows shape (fields.signed_info + 1) end fields.references views (filling fields.value_row [] []) reach r.references texts.0
          (behind, can_empty rows shape SignatureValue fields.value_row r.named (signature_is_value rows shape fields.value_row r.named) last_text, tt);
      value = λ octets bytes. can_digests rows shape (fields.signed_info + 1) end fields.references views (filling fields.value_row (base64_of octets) octets) reach r.references texts.0
          (behind, can_fill rows shape SignatureValue fields.value_row octets r.named (signature_is_value rows shape fields.value_row r.named) last_text bytes, tt);
    }
  where
    pos : 0 < x
    pos = elim (cases_eq x 0) [
      | inl zero_row ↦
          let e = (named_fits rows Signature x named).element in
          absurd (false≢true (sym (ap (λ k. is_element (row_at rows k).kind) zero_row ∙ ap is_element shape.root_kind) ∙ e))
      | inr other ↦ omega (arith, other)
    ]
