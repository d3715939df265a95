-- A signed document, read again as a template: what is filled in stands there, and its digests and signature value are the same.
use Rattle.std.proofs.Common.{◌≡◌, ℕ, zero, suc, ◌+◌, ◌<◌, ◌&&◌, Bool, true, false, not, cond, eqb, nat_lt, Some, None, Ok, List, [], ◌∷◌, ◌++◌, length, map, refl, sym, ap, subst, ◌∙◌, arith, inl, inr}
use Rattle.std.specs.Prelude.{encode_utf8_all}
use Rattle.std.specs.List.{filter, find, list_all, range_with_len}
use Rattle.std.proofs.lemmas.Bool.{and_from, and_parts, cases_eq, false≢true}
use Rattle.digests_hmac.specs.Hash.{hash, hmac_of, kept}
use Rattle.dsig_base64.specs.Loose.{base64_of}
use Rattle.xml_doc.specs.Axes.{is_child}
use Rattle.xml_doc.specs.Kinds.{is_element, is_field, is_text}
use Rattle.xml_doc.specs.Rows.{RowOf}
use Rattle.xml_doc.specs.Shape.{row_at, IsWellShaped}
use Rattle.xml_doc.specs.declared.row.Kind.{Kind}
use Rattle.xml_doc.specs.declared.row.Kind.TheVariants as kind
use Rattle.xml_read.specs.Spelled.{Spells}
use Rattle.node_sets.specs.Members.{in_subtree}
use Rattle.c14n_methods.specs.Methods.{canonical_form}
use Rattle.row_spans.specs.TextAlone.{is_plain_kind, HasTextAlone}
use Rattle.row_spans.proofs.Read.{read_rows}
use Rattle.dsig_fields.specs.Fields.{fields_of}
use Rattle.dsig_fields.specs.Follows.{Follows}
use Rattle.dsig_fields.specs.Holds.{is_long_enough, value_bits}
use Rattle.dsig_fields.specs.Signatures.{nth_signature}
use Rattle.dsig_fields.specs.declared.fields.Fields.{Fields}
use Rattle.dsig_fields.specs.declared.fields.Reference.{Reference}
use Rattle.dsig_fields.proofs.RiseLaws.{child_in}
use Rattle.transforms.specs.Outcome.{canonical_signed_info}
use Rattle.moved_fields.specs.Moved.{Pairwise, moved_by, FieldsMove, ReferenceMoves}
use Rattle.moved_fields.proofs.Moves.{fields_follow}
use Rattle.row_fills.specs.Fillings.{AllStand, CanFillAll, Filling, content_of, filled_again, filled_in, filling, first_of}
use Rattle.row_fills.proofs.Info.{can_front, spelled_once}
use Rattle.row_fills.proofs.Refilled.{all_refilled, other_refilled}
use Rattle.row_fills.proofs.Together.{all_together}
use Rattle.signer.specs.Outcome.{has_texts, not_text}
use Rattle.signer.specs.Signed.{digest_filling, digest_fillings, signed, unsigned, value_under}
use Rattle.signer.proofs.Valid.{found_named}

-- ---- elements that have text alone have texts
plain_text : (k : Kind) → is_plain_kind k ≡ true → not (is_field k) ≡ true → is_text k ≡ true
plain_text kind.Root e f = absurd (false≢true e)
plain_text kind.Element e f = absurd (false≢true e)
plain_text kind.Namespace e f = absurd (false≢true f)
plain_text kind.Attribute e f = absurd (false≢true f)
plain_text kind.Text e f = refl
plain_text kind.Comment e f = absurd (false≢true e)
plain_text kind.Instruction e f = absurd (false≢true e)

-- each that passes the one test passes the other
all_pass : (p q : ℕ → Bool) (a n : ℕ) → ((y : ℕ) → q y ≡ true → p y ≡ true) → list_all p (filter q (range_with_len a n)) ≡ true
all_pass p q a zero h = refl
all_pass p q a (suc n) h = go (q a) refl (all_pass p q (a + 1) n h)
  where
    go : (b : Bool) → q a ≡ b → list_all p (filter q (range_with_len (a + 1) n)) ≡ true → list_all p (cond b (a ∷ filter q (range_with_len (a + 1) n)) (filter q (range_with_len (a + 1) n))) ≡ true
    go true e rest = and_from (p a) (list_all p (filter q (range_with_len (a + 1) n))) (h a e) rest
    go false e rest = rest

module _ (rows : List RowOf) (shape : IsWellShaped rows) where
  alone_texts : (x : ℕ) → HasTextAlone rows x → has_texts rows x ≡ true
  alone_texts x alone = all_pass (λ y. is_text (row_at rows y).kind) (is_child rows x) 0 (length rows) (λ y child.
      let inside = child_in rows shape x y pos child in
      plain_text (row_at rows y).kind (alone.alone y inside.0 (omega (arith, inside.1, inside.2))) (no_field y child))
    where
      pos : 0 < x
      pos = elim (cases_eq x 0) [
        | inl zero_row ↦ absurd (false≢true (sym (ap (λ k. is_element (row_at rows k).kind) zero_row ∙ ap is_element shape.root_kind) ∙ ap is_element alone.element))
        | inr other ↦ omega (arith, other)
      ]

      no_field : (y : ℕ) → is_child rows x y ≡ true → not (is_field (row_at rows y).kind) ≡ true
      no_field y child = last (nat_lt 0 y && eqb (row_at rows y).parent x) (not (is_field (row_at rows y).kind)) child
        where
          last : (a b : Bool) → (a && b) ≡ true → b ≡ true
          last a b e = (and_parts a b e).1

  -- the elements of references that are read again
  none_other : (octets : List ℕ) (number : ℕ → ℕ) (kept_row : ℕ → Bool) (content : ℕ → List ℕ → List ℕ) (from : ℕ) (rs ss : List Reference) (vs : List (List ℕ)) (row row' : ℕ) (t o : List ℕ)
      → Pairwise (ReferenceMoves (moved_by number kept_row) content) rs ss → length vs ≡ length rs → row' ≡ number row → AllStand octets rows number from (digest_fillings rs vs ++ filling row t o ∷ [])
      → find (λ x. not (has_texts rows x)) (map (λ (r : Reference). r.digest_row) ss ++ row' ∷ []) ≡ None
  none_other octets number kept_row content from [] [] vs row row' t o pairs long e all =
      ap (λ b. cond (not b) (Some row') None) (ap (has_texts rows) e ∙ alone_texts (number row) all.1.alone)
  none_other octets number kept_row content from [] (s ∷ ss) vs row row' t o pairs long e all = absurd pairs
  none_other octets number kept_row content from (r ∷ rs) [] vs row row' t o pairs long e all = absurd pairs
  none_other octets number kept_row content from (r ∷ rs) (s ∷ ss) [] row row' t o pairs long e all = absurd (omega (arith, long))
  none_other octets number kept_row content from (r ∷ rs) (s ∷ ss) (v ∷ vs) row row' t o pairs long e all =
      ap (λ b. cond (not b) (Some s.digest_row) (find (λ x. not (has_texts rows x)) (map (λ (z : Reference). z.digest_row) ss ++ row' ∷ []))) (ap (has_texts rows) pairs.0.digest_row.1 ∙ alone_texts (number r.digest_row) all.1.alone)
      ∙ none_other octets number kept_row content (number r.digest_row + 1) rs ss vs row row' t o pairs.1 (omega (arith, long)) e all.2

-- ---- what is filled in again
fillings_again : (number : ℕ → ℕ) (kept_row : ℕ → Bool) (content : ℕ → List ℕ → List ℕ) (rs ss : List Reference) (vs : List (List ℕ)) (row row' : ℕ) (t o : List ℕ)
    → Pairwise (ReferenceMoves (moved_by number kept_row) content) rs ss → row' ≡ number row → filled_again number (digest_fillings rs vs ++ filling row t o ∷ []) ≡ digest_fillings ss vs ++ filling row' t o ∷ []
fillings_again number kept_row content [] [] vs row row' t o pairs e = ap (λ n. filling n t o ∷ []) (sym e)
fillings_again number kept_row content [] (s ∷ ss) vs row row' t o pairs e = absurd pairs
fillings_again number kept_row content (r ∷ rs) [] vs row row' t o pairs e = absurd pairs
fillings_again number kept_row content (r ∷ rs) (s ∷ ss) [] row row' t o pairs e = ap (λ n. filling n t o ∷ []) (sym e)
fillings_again number kept_row content (r ∷ rs) (s ∷ ss) (v ∷ vs) row row' t o pairs e =
    let rest = filled_again number (digest_fillings rs vs ++ filling row t o ∷ []) in
    ap (λ d. filling (number r.digest_row) (base64_of (hash d v)) (hash d v) ∷ rest) pairs.0.digest
    ∙ ap (λ n. filling n (base64_of (hash s.digest v)) (hash s.digest v) ∷ rest) (sym pairs.0.digest_row.1)
    ∙ ap (λ fs. digest_filling s v ∷ fs) (fillings_again number kept_row content rs ss vs row row' t o pairs.1 e)

-- The signed document as a template: its fields are read, it has texts where they are wanted, and with the same digests it is the
-- same document before its signature value is filled in, and after that.
pub record SignedAgain (octets : List ℕ) (rows one two : List RowOf) (x : ℕ) (fields : Fields) (views : List (List ℕ)) (key : List ℕ) : Type 0 where
  pub read : Fields
  pub fields_are : fields_of two x ≡ Ok read
  pub key_name : fields.key_name ≡ read.key_name
  pub count : length read.references ≡ length fields.references
  pub long : is_long_enough read.mac (value_bits read.mac read.bits) ≡ true
  pub texts : not_text two read ≡ None
  pub info : canonical_signed_info one read ≡ canonical_signed_info one fields
  pub unsigned_same : unsigned (signed octets rows fields views (value_under one fields key)) two read views ≡ unsigned octets rows fields views
  pub signed_same : signed (signed octets rows fields views (value_under one fields key)) two read views (value_under one read key) ≡ signed octets rows fields views (value_under one fields key)

-- fields that say the same give the same
info_same : (rows : List RowOf) (fields read : Fields) → fields.canon ≡ read.canon → fields.prefixes ≡ read.prefixes → read.signed_info ≡ fields.signed_info → canonical_signed_info rows read ≡ canonical_signed_info rows fields
info_same rows fields read canon prefixes info =
    ap (λ i. canonical_form read.canon (map encode_utf8_all read.prefixes) rows (in_subtree rows i)) info
    ∙ ap (λ c. canonical_form c (map encode_utf8_all read.prefixes) rows (in_subtree rows fields.signed_info)) (sym canon)
    ∙ ap (λ l. canonical_form fields.canon (map encode_utf8_all l) rows (in_subtree rows fields.signed_info)) (sym prefixes)

value_same : (rows : List RowOf) (fields read : Fields) (key : List ℕ) → fields.mac ≡ read.mac → fields.bits ≡ read.bits → canonical_signed_info rows read ≡ canonical_signed_info rows fields → value_under rows read key ≡ value_under rows fields key
value_same rows fields read key mac bits info =
    ap (λ o. kept (hmac_of read.mac key o) (value_bits read.mac read.bits)) info
    ∙ ap (λ n. kept (hmac_of read.mac key (canonical_signed_info rows fields)) (value_bits read.mac n)) (sym bits)
    ∙ ap (λ a. kept (hmac_of a key (canonical_signed_info rows fields)) (value_bits a fields.bits)) (sym mac)

long_same : (fields read : Fields) → fields.mac ≡ read.mac → fields.bits ≡ read.bits → is_long_enough fields.mac (value_bits fields.mac fields.bits) ≡ true → is_long_enough read.mac (value_bits read.mac read.bits) ≡ true
long_same fields read mac bits enough = ap (λ a. is_long_enough a (value_bits a read.bits)) (sym mac) ∙ ap (λ n. is_long_enough fields.mac (value_bits fields.mac n)) (sym bits) ∙ enough

count_same : {A B : Type 0} (R : A → B → Type 0) (xs : List A) (ys : List B) → Pairwise R xs ys → length ys ≡ length xs
count_same R [] [] p = refl
count_same R [] (y ∷ ys) p = absurd p
count_same R (x ∷ xs) [] p = absurd p
count_same R (x ∷ xs) (y ∷ ys) p = ap suc (count_same R xs ys p.1)

module _ (octets : List ℕ) (rows one two : List RowOf) (index x : ℕ) (fields : Fields) (views : List (List ℕ)) (key : List ℕ) where
  abbrev value : List ℕ
  value = value_under one fields key

  abbrev digests : List Filling
  digests = digest_fillings fields.references views

  abbrev made : List ℕ
  made = signed octets rows fields views value

  abbrev content : ℕ → List ℕ → List ℕ
  content = content_of (digests ++ filling fields.value_row (base64_of value) value ∷ [])

  pub signed_again : Spells octets rows → nth_signature rows index ≡ Some x → fields_of rows x ≡ Ok fields → length views ≡ length fields.references → is_long_enough fields.mac (value_bits fields.mac fields.bits) ≡ true → x < fields.signed_info
      → CanFillAll rows (fields.signed_info + 1) (digests ++ filling fields.value_row [] [] ∷ []) → CanFillAll rows (fields.signed_info + 1) (digests ++ filling fields.value_row (base64_of value) value ∷ [])
      → Spells made two → SignedAgain octets rows one two x fields views key
  signed_again spells found is count enough less can can' s =
      let e = fields.signed_info in
      let row = fields.value_row in
      let pair = all_together octets rows (e + 1) digests row [] [] (base64_of value) value spells can can' in
      let b = pair.other in
      let before = can_front rows e digests row [] [] can in
      let at_x = b.front x (omega (arith, less, before)) in
      let at_e = b.front e before in
      let is_two = spelled_once made two b.others s b.spells in
      let m = subst (λ r. Follows (FieldsMove (moved_by b.number b.kept) content) r (fields_of b.others (b.number x))) is
      (fields_follow (moved_by b.number b.kept) content rows b.others x (b.number x) b.stands (at_x.0, refl) (found_named rows index x found)) in
      let read = m.0 in
      let f = m.2 in
      let info = info_same one fields read f.canon f.prefixes (f.signed_info.1 ∙ at_e.1) in
      let again : (t o : List ℕ) → digest_fillings read.references views ++ filling read.value_row t o ∷ [] ≡ filled_again b.number (digests ++ filling row t o ∷ []) = λ t o.
      sym (fillings_again b.number b.kept content fields.references read.references views row read.value_row t o f.references f.value_row.1) in
      subst (λ t. SignedAgain octets rows one t x fields views key) (sym is_two)
      (record {
        read = read;
        fields_are = ap (fields_of b.others) (sym at_x.1) ∙ m.1;
        key_name = f.key_name;
        count = count_same (ReferenceMoves (moved_by b.number b.kept) content) fields.references read.references f.references;
        long = long_same fields read f.mac f.bits enough;
        texts = none_other b.others (read_rows made b.others b.spells).shape made b.number b.kept content (first_of digests row) fields.references read.references views row read.value_row (base64_of value) value
            f.references count f.value_row.1 b.texts;
        info = info;
        unsigned_same = ap (filled_in made b.others) (again [] []) ∙ other_refilled octets rows (first_of digests row) digests row [] [] (base64_of value) value pair;
        signed_same = ap (λ v. signed made b.others read views v) (value_same one fields read key f.mac f.bits info) ∙ ap (filled_in made b.others) (again (base64_of value) value)
            ∙ all_refilled made b.others b.number (first_of digests row) (digests ++ filling row (base64_of value) value ∷ []) b.texts;
      })
