-- One pass over the attributes of a document, and the elements that bear an ID.
use Rattle.std.proofs.Common.{◌≡◌, ◌≢◌, ℕ, zero, suc, ◌<◌, ◌≤◌, ◌-◌, ◌+◌, ◌&&◌, ◌||◌, cond, Bool, true, false, Option, Some, None, List, [], ◌∷◌, ◌++◌, length, refl, ap, sym, ◌∙◌, arith, inl, inr, eqb}
use Rattle.std.specs.List.{filter, list_any, range_with_len}
use Rattle.std.proofs.lemmas.Bool.{cases_lt, false≢true, eqb-true, eq-eqb, and_from, and_parts, false_from_ne_true, or_right}
use Rattle.xml_doc.proofs.Numbers.{passing_none, passing-at}
use Rattle.xml_doc.proofs.FieldLemmas.{inner_no_field, field_of_attribute}
use Rattle.xml_doc.specs.declared.ids.IdAnswer.TheVariants.{One, None as NoElement, Several}
use Rattle.xml_doc.specs.Fields.{is_attribute_of}
use Rattle.xml_doc.specs.Ids.{answer_of, bearers, bears, gives_id}
use Rattle.xml_doc.specs.Kinds.{is_attribute, is_element, is_field}
use Rattle.xml_doc.specs.Rows.{RowOf}
use Rattle.xml_doc.specs.Shape.{row_at, IsWellShaped}

-- ---- tests of lists of numbers
any-filter : {X : Type 0} (p q : X → Bool) (xs : List X) → list_any p (filter q xs) ≡ list_any (λ x. q x && p x) xs
any-filter p q [] = refl
any-filter p q (x ∷ xs) = go (q x) ∙ ap (λ (t : Bool). (q x && p x) || t) (any-filter p q xs)
  where
    go : (b : Bool) → list_any p (cond b (x ∷ filter q xs) (filter q xs)) ≡ ((b && p x) || list_any p (filter q xs))
    go true = refl
    go false = refl

any_range : (p : ℕ → Bool) (a n k : ℕ) → a ≤ k → k < a + n → p k ≡ true → list_any p (range_with_len a n) ≡ true
any_range p a zero k ge lt t = absurd (omega arith)
any_range p a (suc n) k ge lt t = elim (cases_lt a k) [
  | inl behind ↦ or_right (p a) _ (any_range p (a + 1) n k (omega arith) (omega arith) t)
  | inr not_behind ↦ let e : a ≡ k = omega arith in ap (λ (b : Bool). b || list_any p (range_with_len (a + 1) n)) (ap p e ∙ t)
]

-- a number from a to before b that passes
pub record Found (p : ℕ → Bool) (a b : ℕ) : Type 0 where
  pub place : ℕ
  pub from : a ≤ place
  pub before : place < b
  pub passes : p place ≡ true

any_found : (p : ℕ → Bool) (a n : ℕ) → list_any p (range_with_len a n) ≡ true → Found p a (a + n)
any_found p a zero t = absurd (false≢true t)
any_found p a (suc n) t = go (p a) refl t (any_found p (a + 1) n)
  where
    go : (b : Bool) → p a ≡ b → (b || list_any p (range_with_len (a + 1) n)) ≡ true → (list_any p (range_with_len (a + 1) n) ≡ true → Found p (a + 1) (a + 1 + n)) → Found p a (a + suc n)
    go true is t later = record { place = a; from = omega arith; before = omega arith; passes = is }
    go false is t later =
        let f = later t in
        record { place = f.place; from = let g = f.from in omega arith; before = let g = f.before in omega arith; passes = f.passes }

-- ---- the only number that passes, and the first two
only_one : (p : ℕ → Bool) (n i : ℕ) → i < n → p i ≡ true → ((k : ℕ) → k < n → k ≢ i → p k ≡ false) → filter p (range_with_len 0 n) ≡ i ∷ []
only_one p n i lt t others =
    passing-at p i n lt t
    ∙ ap (λ (xs : List ℕ). xs ++ (i ∷ filter p (range_with_len (i + 1) (n - (i + 1))))) (passing_none p 0 i (λ (k : ℕ) ge below. others k (omega arith) (omega arith)))
    ∙ ap (λ (xs : List ℕ). i ∷ xs) (passing_none p (i + 1) (n - (i + 1)) (λ (k : ℕ) ge below. others k (omega arith) (omega arith)))

first_two : (p : ℕ → Bool) (n i j : ℕ) → i < j → j < n → p i ≡ true → p j ≡ true → ((k : ℕ) → k < j → k ≢ i → p k ≡ false) → filter p (range_with_len 0 n) ≡ i ∷ j ∷ filter p (range_with_len (j + 1) (n - (j + 1)))
first_two p n i j before lt t u others =
    passing-at p j n lt u ∙ ap (λ (xs : List ℕ). xs ++ (j ∷ filter p (range_with_len (j + 1) (n - (j + 1))))) (only_one p j i before t others)

-- ---- the attributes that give an ID
-- row k is an attribute that gives its element this ID
abbrev pub gives : List RowOf → List ℕ → ℕ → Bool
gives rows id k = is_attribute (row_at rows k).kind && gives_id id (row_at rows k)

-- of the rows before k at least one gives the ID, and those that do are attributes of e
pub record OneBearer (rows : List RowOf) (id : List ℕ) (k e : ℕ) : Type 0 where
  pub place : ℕ
  pub before : place < k
  pub passes : gives rows id place ≡ true
  pub parent : (row_at rows place).parent ≡ e
  pub only : (j : ℕ) → j < k → gives rows id j ≡ true → (row_at rows j).parent ≡ e

-- what is known of the rows before k: none gives the ID, or those of one element alone do
abbrev pub SoFar : List RowOf → List ℕ → ℕ → Option ℕ → Type 0
SoFar rows id k None = (j : ℕ) → j < k → gives rows id j ≡ false
SoFar rows id k (Some e) = OneBearer rows id k e

module _ (rows : List RowOf) (id : List ℕ) where
  pub so_far-begin : SoFar rows id 0 None
  so_far-begin = λ (j : ℕ) lt. absurd (omega arith)

  pub so_far-past : (k : ℕ) (first : Option ℕ) → gives rows id k ≡ false → SoFar rows id k first → SoFar rows id (k + 1) first
  so_far-past k None none s = λ (j : ℕ) lt. elim (cases_lt j k) [ inl before ↦ s j before | inr not_before ↦ let e : j ≡ k = omega arith in ap (gives rows id) e ∙ none ]
  so_far-past k (Some e) none s = record {
    place = s.place;
    before = let b = s.before in omega arith;
    passes = s.passes;
    parent = s.parent;
    only = λ (j : ℕ) lt t. elim (cases_lt j k) [ inl before ↦ s.only j before t | inr not_before ↦ let same : j ≡ k = omega arith in absurd (false≢true (sym none ∙ ap (gives rows id) (sym same) ∙ t)) ];
  }

  pub so_far-first : (k : ℕ) → gives rows id k ≡ true → SoFar rows id k None → SoFar rows id (k + 1) (Some (row_at rows k).parent)
  so_far-first k t s = record {
    place = k;
    before = omega arith;
    passes = t;
    parent = refl;
    only = λ (j : ℕ) lt u. elim (cases_lt j k) [ inl before ↦ absurd (false≢true (sym (s j before) ∙ u)) | inr not_before ↦ let same : j ≡ k = omega arith in ap (λ (m : ℕ). (row_at rows m).parent) same ];
  }

  pub so_far-again : (k e : ℕ) → e ≡ (row_at rows k).parent → SoFar rows id k (Some e) → SoFar rows id (k + 1) (Some e)
  so_far-again k e up s = record {
    place = s.place;
    before = let b = s.before in omega arith;
    passes = s.passes;
    parent = s.parent;
    only = λ (j : ℕ) lt u. elim (cases_lt j k) [ inl before ↦ s.only j before u | inr not_before ↦ let same : j ≡ k = omega arith in ap (λ (m : ℕ). (row_at rows m).parent) same ∙ sym up ];
  }

module _ (rows : List RowOf) (w : IsWellShaped rows) (id : List ℕ) where
  field_of_giver : (k : ℕ) → gives rows id k ≡ true → is_field (row_at rows k).kind ≡ true
  field_of_giver k t = field_of_attribute (row_at rows k).kind (and_parts (is_attribute (row_at rows k).kind) (gives_id id (row_at rows k)) t).0

  -- the root is no attribute
  giver_behind : (k : ℕ) → gives rows id k ≡ true → 0 < k
  giver_behind zero t = absurd (let f = field_of_giver zero t in let r = rw w.root_kind at f in cc)
  giver_behind (suc k) t = omega arith

  parent_within : (k : ℕ) → k < length rows → gives rows id k ≡ true → (row_at rows k).parent < k
  parent_within k lt t = w.nesting.parent_before k (giver_behind k t) lt

  -- an attribute that gives the ID has an element that bears it, and the other way round
  bearer_of : (k : ℕ) → k < length rows → gives rows id k ≡ true → bears rows id (row_at rows k).parent ≡ true
  bearer_of k lt t =
      let e = (row_at rows k).parent in
      let parts = and_parts (is_attribute (row_at rows k).kind) (gives_id id (row_at rows k)) t in
      let own : is_attribute_of rows e k ≡ true = and_from _ _ parts.0 (eq-eqb (row_at rows k).parent e refl) in
      let pos = giver_behind k t in
      and_from _ _ (w.fields.field_of_element k lt (field_of_giver k t))
      (any-filter (λ (a : ℕ). gives_id id (row_at rows a)) (is_attribute_of rows e) (range_with_len 1 (length rows - 1))
      ∙ any_range (λ (a : ℕ). is_attribute_of rows e a && gives_id id (row_at rows a)) 1 (length rows - 1) k pos (omega arith) (and_from _ _ own parts.1))

  giver_of : (e : ℕ) → bears rows id e ≡ true → Found (λ (k : ℕ). gives rows id k && eqb (row_at rows k).parent e) 0 (length rows)
  giver_of e t =
      let any = (and_parts (is_element (row_at rows e).kind) (list_any (λ (a : ℕ). gives_id id (row_at rows a)) (filter (is_attribute_of rows e) (range_with_len 1 (length rows - 1)))) t).1 in
      let f = any_found (λ (a : ℕ). is_attribute_of rows e a && gives_id id (row_at rows a)) 1 (length rows - 1) (sym (any-filter (λ (a : ℕ). gives_id id (row_at rows a)) (is_attribute_of rows e) (range_with_len 1 (length rows - 1))) ∙ any) in
      let k = f.place in
      let parts = and_parts (is_attribute_of rows e k) (gives_id id (row_at rows k)) f.passes in
      let own = and_parts (is_attribute (row_at rows k).kind) (eqb (row_at rows k).parent e) parts.0 in
      let some = w.some in
      let below = f.before in
      record { place = k; from = omega arith; before = omega arith; passes = and_from _ _ (and_from _ _ own.0 parts.1) own.1 }

  -- attributes stand in the order of their elements
  in_order : (j k : ℕ) → j < length rows → k < length rows → gives rows id j ≡ true → gives rows id k ≡ true → (row_at rows j).parent < (row_at rows k).parent → j < k
  in_order j k lt lt' t u up = elim (cases_lt j k) [
    | inl before ↦ before
    | inr not_before ↦
        let below = parent_within k lt' u in
        let field = w.fields.fields_first j (row_at rows k).parent lt (field_of_giver j t) up (omega arith) in
        absurd (false≢true (sym (inner_no_field _ (w.nesting.parent_inner k lt')) ∙ field))
  ]

  pub answer-nobody : SoFar rows id (length rows) None → NoElement ≡ answer_of (bearers rows id)
  answer-nobody s = sym (ap answer_of (passing_none (bears rows id) 0 (length rows) (λ (e : ℕ) ge lt. false_from_ne_true _ (λ (t : bears rows id e ≡ true).
      let f = giver_of e t in
      let parts = and_parts (gives rows id f.place) (eqb (row_at rows f.place).parent e) f.passes in
      false≢true (sym (s f.place f.before) ∙ parts.0)))))

  -- an element before `until` that bears the ID is the one
  other_bearer : (k e until : ℕ) → k ≤ length rows → OneBearer rows id k e → ((j : ℕ) → j < length rows → gives rows id j ≡ true → (row_at rows j).parent < until → j < k) → (m : ℕ) → m < until → m ≢ e → bears rows id m ≡ false
  other_bearer k e until le s before m lt ne = false_from_ne_true _ (λ (t : bears rows id m ≡ true).
      let f = giver_of m t in
      let parts = and_parts (gives rows id f.place) (eqb (row_at rows f.place).parent m) f.passes in
      let up = eqb-true (row_at rows f.place).parent m parts.1 in
      let there = before f.place f.before parts.0 (omega arith) in
      ne (sym up ∙ s.only f.place there parts.0))

  pub answer-one : (e : ℕ) → SoFar rows id (length rows) (Some e) → One e ≡ answer_of (bearers rows id)
  answer-one e s =
      let up = s.parent in
      let below = parent_within s.place s.before s.passes in
      let there = s.before in
      let t : bears rows id e ≡ true = ap (bears rows id) (sym up) ∙ bearer_of s.place s.before s.passes in
      sym (ap answer_of (only_one (bears rows id) (length rows) e (omega arith) t (other_bearer (length rows) e (length rows) (omega arith) s (λ (j : ℕ) lt u below. lt))))

  pub answer-several : (k e : ℕ) → k < length rows → gives rows id k ≡ true → e ≢ (row_at rows k).parent → SoFar rows id k (Some e) → Several e (row_at rows k).parent ≡ answer_of (bearers rows id)
  answer-several k e lt t ne s =
      let second = (row_at rows k).parent in
      let up = s.parent in
      let there = s.before in
      let below = parent_within k lt t in
      let rising : e < second = elim (cases_lt e second) [ inl before ↦ before | inr not_before ↦ let early = in_order k s.place lt (omega arith) t s.passes (omega arith) in absurd (omega arith) ] in
      let first_bears : bears rows id e ≡ true = ap (bears rows id) (sym up) ∙ bearer_of s.place (omega arith) s.passes in
      sym (ap answer_of (first_two (bears rows id) (length rows) e second rising (omega arith) first_bears (bearer_of k lt t)
      (other_bearer k e second (omega arith) s (λ (j : ℕ) j_lt u before. in_order j k j_lt lt u t before))))
