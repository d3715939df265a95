-- Tests of a list of rows that compute, and the shape that holds where they are true: for rows that are written out.
use Rattle.std.proofs.Common.{◌≡◌, ◌≢◌, ℕ, zero, suc, ◌<◌, ◌+◌, ◌&&◌, ◌||◌, not, eqb, ltb, leb, Bool, true, false, List, [], length, refl, ap, ◌∙◌, arith, inl, inr}
use Rattle.std.specs.Cmp.Lexicographic.{slice_cmp}
use Rattle.std.specs.declared.cmp.Ordering.{Ordering}
use Rattle.std.specs.declared.cmp.Ordering.TheVariants.{Less, Equal, Greater}
use Rattle.std.specs.Ordering.{nat_cmp, ordering_then}
use Rattle.std.specs.Prelude.{codes}
use Rattle.std.specs.Str.{bytes_eq}
use Rattle.std.proofs.lemmas.Bool.{cases_lt, false≢true, eqb-true, eq-eqb, ltb-true, lt-ltb, leb-true, and_from, and_parts}
use Rattle.std.proofs.lemmas.Slice.Eq.{bytes_eq-Decides}
use Rattle.xml_doc.proofs.FieldLemmas.{namespace_is}
use Rattle.xml_doc.specs.declared.row.Kind.{Kind}
use Rattle.xml_doc.specs.declared.row.Kind.TheVariants.{Root, Element, Namespace, Attribute, Text, Comment, Instruction}
use Rattle.xml_doc.specs.Fits.{fields_fit}
use Rattle.xml_doc.specs.Kinds.{is_attribute, is_element, is_field, is_inner, is_namespace, is_text}
use Rattle.xml_doc.specs.Rows.{RowOf}
use Rattle.xml_doc.specs.Shape.{row_at, xml_name, HasDocumentElement, IsWellShaped}

-- ---- tests of all numbers below n, and of one
abbrev pub implies : Bool → Bool → Bool
implies a b = not a || b

abbrev pub all_below : (ℕ → Bool) → ℕ → Bool
all_below p zero = true
all_below p (suc n) = p n && all_below p n

abbrev pub some_below : (ℕ → Bool) → ℕ → Bool
some_below p zero = false
some_below p (suc n) = p n || some_below p n

pub implied : (a b : Bool) → implies a b ≡ true → a ≡ true → b ≡ true
implied true b t a = t
implied false b t a = absurd (false≢true a)

pub each_below : (p : ℕ → Bool) (n : ℕ) → all_below p n ≡ true → (i : ℕ) → i < n → p i ≡ true
each_below p zero t i lt = absurd (omega arith)
each_below p (suc n) t i lt =
    let parts = and_parts (p n) (all_below p n) t in
    elim (cases_lt i n) [ inl before ↦ each_below p n parts.1 i before | inr not_before ↦ let e : i ≡ n = omega arith in ap p e ∙ parts.0 ]

one_below : (p : ℕ → Bool) (n : ℕ) → some_below p n ≡ true → (k : ℕ) × (k < n) × (p k ≡ true)
one_below p zero t = absurd (false≢true t)
one_below p (suc n) t = go (p n) refl t (one_below p n)
  where
    go : (b : Bool) → p n ≡ b → (b || some_below p n) ≡ true → (some_below p n ≡ true → (k : ℕ) × (k < n) × (p k ≡ true)) → (k : ℕ) × (k < suc n) × (p k ≡ true)
    go true is t later = (n, omega arith, is)
    go false is t later = let f = later t in let below = f.1 in (f.0, omega arith, f.2)

-- ---- kinds and orders
abbrev pub is_root : Kind → Bool
is_root k = is_inner k && not (is_element k)

abbrev pub is_less : Ordering → Bool
is_less Less = true
is_less Equal = false
is_less Greater = false

less_is : (o : Ordering) → is_less o ≡ true → o ≡ Less
less_is Less t = refl
less_is Equal t = absurd (false≢true t)
less_is Greater t = absurd (false≢true t)

root_is : (k : Kind) → is_root k ≡ true → k ≡ Root
root_is Root t = refl
root_is Element t = absurd (false≢true t)
root_is Namespace t = absurd (false≢true t)
root_is Attribute t = absurd (false≢true t)
root_is Text t = absurd (false≢true t)
root_is Comment t = absurd (false≢true t)
root_is Instruction t = absurd (false≢true t)

element_is : (k : Kind) → is_element k ≡ true → k ≡ Element
element_is Root t = absurd (false≢true t)
element_is Element t = refl
element_is Namespace t = absurd (false≢true t)
element_is Attribute t = absurd (false≢true t)
element_is Text t = absurd (false≢true t)
element_is Comment t = absurd (false≢true t)
element_is Instruction t = absurd (false≢true t)

bytes_same : (xs ys : List ℕ) → bytes_eq xs ys ≡ true → xs ≡ ys
bytes_same xs ys = (bytes_eq-Decides xs ys).0

-- a test that fails
fails : (b : Bool) → not b ≡ true → b ≡ true → ⊥
fails true n t = false≢true n
fails false n t = false≢true t

holds_not : (b : Bool) → (b ≡ true → ⊥) → not b ≡ true
holds_not true n = absurd (n refl)
holds_not false n = refl

-- ---- the tests, one for each part of the shape
module _ (rows : List RowOf) where
  abbrev pub kind : ℕ → Kind
  kind i = (row_at rows i).kind

  abbrev pub parent : ℕ → ℕ
  parent i = (row_at rows i).parent

  abbrev pub last : ℕ → ℕ
  last i = (row_at rows i).last

  abbrev pub test_root : Bool
  test_root = ltb 0 (length rows) && is_root (kind 0) && eqb (parent 0) 0 && eqb (last 0 + 1) (length rows)

  abbrev pub test_parent_before : Bool
  test_parent_before = all_below (λ i. implies (ltb 0 i) (ltb (parent i) i)) (length rows)

  abbrev pub test_last : Bool
  test_last = all_below (λ i. leb i (last i) && leb (last i) (last (parent i))) (length rows)

  abbrev pub test_ended : Bool
  test_ended = all_below (λ i. all_below (λ j. implies (ltb (parent i) j) (ltb (last j) i)) i) (length rows)

  abbrev pub test_parents : Bool
  test_parents = all_below (λ i. is_inner (kind (parent i)) && implies (is_field (kind i)) (is_element (kind (parent i)))) (length rows)

  abbrev pub test_fields_first : Bool
  test_fields_first = all_below (λ i. implies (is_field (kind i)) (all_below (λ j. implies (ltb (parent i) j) (is_field (kind j))) i)) (length rows)

  abbrev pub test_one_root : Bool
  test_one_root = all_below (λ i. implies (ltb 0 i) (not (is_root (kind i)))) (length rows)

  abbrev pub test_namespaces_first : Bool
  test_namespaces_first = all_below (λ i. implies (is_namespace (kind i)) (all_below (λ j. implies (ltb (parent i) j) (is_namespace (kind j))) i)) (length rows)

  abbrev pub test_namespace_order : Bool
  test_namespace_order =
      all_below (λ i. implies (is_namespace (kind i) && is_namespace (kind (i + 1)) && eqb (parent i) (parent (i + 1)))
      (is_less (slice_cmp nat_cmp (row_at rows i).local_name (row_at rows (i + 1)).local_name))) (length rows)

  abbrev pub test_attribute_order : Bool
  test_attribute_order =
      all_below (λ i. implies (is_attribute (kind i) && is_attribute (kind (i + 1)) && eqb (parent i) (parent (i + 1)))
      (is_less (ordering_then (slice_cmp nat_cmp (row_at rows i).uri (row_at rows (i + 1)).uri) (slice_cmp nat_cmp (row_at rows i).local_name (row_at rows (i + 1)).local_name)))) (length rows)

  -- row k is a namespace row of e for this prefix
  abbrev pub binds : (e : ℕ) (prefix_text : List ℕ) → ℕ → Bool
  binds e prefix_text k = is_namespace (kind k) && eqb (parent k) e && bytes_eq (row_at rows k).local_name prefix_text

  abbrev pub test_inherits : Bool
  test_inherits =
      all_below (λ e. implies (is_element (kind e))
      (all_below (λ j. implies (is_namespace (kind j) && eqb (parent j) (parent e) && not (bytes_eq (row_at rows j).local_name []))
      (some_below (binds e (row_at rows j).local_name) (length rows))) (length rows))) (length rows)

  abbrev pub test_xml_bound : Bool
  test_xml_bound = all_below (λ e. implies (is_element (kind e)) (some_below (λ k. binds e (codes "xml") k && bytes_eq (row_at rows k).value xml_name) (length rows))) (length rows)

  abbrev pub test_default_named : Bool
  test_default_named = all_below (λ i. implies (is_namespace (kind i) && bytes_eq (row_at rows i).local_name []) (not (bytes_eq (row_at rows i).value []))) (length rows)

  abbrev pub is_top_element : ℕ → Bool
  is_top_element i = is_element (kind i) && eqb (parent i) 0

  abbrev pub test_document_element : Bool
  test_document_element = some_below (λ e. is_top_element e && all_below (λ i. implies (is_top_element i) (eqb i e)) (length rows)) (length rows)

  abbrev pub test_fit : Bool
  test_fit = all_below (λ i. fields_fit (row_at rows i)) (length rows)

  abbrev pub test_text_in_element : Bool
  test_text_in_element = all_below (λ i. implies (is_text (kind i)) (is_element (kind (parent i)))) (length rows)

  abbrev pub test_texts_apart : Bool
  test_texts_apart = all_below (λ i. implies (is_text (kind i) && is_text (kind (i + 1))) (not (eqb (parent i) (parent (i + 1))))) (length rows)

  abbrev pub test_text_some : Bool
  test_text_some = all_below (λ i. implies (is_text (kind i)) (not (bytes_eq (row_at rows i).value []))) (length rows)

  -- all of them but that no text is empty, which may rest on what the texts are
  pub record ShapeTests : Type 0 where
    pub root : test_root ≡ true
    pub parent_before : test_parent_before ≡ true
    pub last : test_last ≡ true
    pub ended : test_ended ≡ true
    pub parents : test_parents ≡ true
    pub fields_first : test_fields_first ≡ true
    pub one_root : test_one_root ≡ true
    pub namespaces_first : test_namespaces_first ≡ true
    pub namespace_order : test_namespace_order ≡ true
    pub attribute_order : test_attribute_order ≡ true
    pub inherits : test_inherits ≡ true
    pub xml_bound : test_xml_bound ≡ true
    pub default_named : test_default_named ≡ true
    pub document_element : test_document_element ≡ true
    pub fit : test_fit ≡ true
    pub text_in_element : test_text_in_element ≡ true
    pub texts_apart : test_texts_apart ≡ true

  bound : (e : ℕ) (prefix_text : List ℕ) (k : ℕ) → binds e prefix_text k ≡ true → (kind k ≡ Namespace) × (parent k ≡ e) × ((row_at rows k).local_name ≡ prefix_text)
  bound e prefix_text k t =
      let parts = and_parts (is_namespace (kind k) && eqb (parent k) e) (bytes_eq (row_at rows k).local_name prefix_text) t in
      let own = and_parts (is_namespace (kind k)) (eqb (parent k) e) parts.0 in
      (namespace_is (kind k) own.0, eqb-true (parent k) e own.1, bytes_same _ _ parts.1)

  -- texts are not empty where the test says so
  pub text_some_by : test_text_some ≡ true → (i : ℕ) → i < length rows → kind i ≡ Text → (row_at rows i).value ≢ []
  text_some_by t i lt is = λ e. fails _ (implied _ _ (each_below _ (length rows) t i lt) (ap is_text is)) ((bytes_eq-Decides _ []).1 e)

  document_element_by : test_document_element ≡ true → HasDocumentElement rows
  document_element_by t =
      let found = one_below (λ e. is_top_element e && all_below (λ i. implies (is_top_element i) (eqb i e)) (length rows)) (length rows) t in
      let e = found.0 in
      let parts = and_parts (is_top_element e) (all_below (λ i. implies (is_top_element i) (eqb i e)) (length rows)) found.2 in
      let top = and_parts (is_element (kind e)) (eqb (parent e) 0) parts.0 in
      record {
        element = e;
        within = found.1;
        kind = element_is (kind e) top.0;
        parent = eqb-true (parent e) 0 top.1;
        only = λ (i : ℕ) lt is up. eqb-true i e (implied (is_top_element i) (eqb i e) (each_below (λ i. implies (is_top_element i) (eqb i e)) (length rows) parts.1 i lt) (and_from _ _ (ap is_element is) (eq-eqb (parent i) 0 up)));
      }

  pub shaped_by_tests : ShapeTests → ((i : ℕ) → i < length rows → kind i ≡ Text → (row_at rows i).value ≢ []) → IsWellShaped rows
  shaped_by_tests t texts =
      let n = length rows in
      let root_parts = and_parts (ltb 0 n && is_root (kind 0) && eqb (parent 0) 0) (eqb (last 0 + 1) n) t.root in
      let root_own = and_parts (ltb 0 n && is_root (kind 0)) (eqb (parent 0) 0) root_parts.0 in
      let root_first = and_parts (ltb 0 n) (is_root (kind 0)) root_own.0 in
      record {
        some = ltb-true 0 n root_first.0;
        root_kind = root_is (kind 0) root_first.1;
        root_parent = eqb-true (parent 0) 0 root_own.1;
        root_last = eqb-true (last 0 + 1) n root_parts.1;
        one_root = λ (i : ℕ) pos lt is. fails _ (implied _ _ (each_below _ n t.one_root i lt) (lt-ltb 0 i pos)) (ap is_root is);
        document_element = document_element_by t.document_element;
        nesting = record {
          parent_before = λ (i : ℕ) pos lt. ltb-true (parent i) i (implied _ _ (each_below _ n t.parent_before i lt) (lt-ltb 0 i pos));
          last_from = λ (i : ℕ) lt. leb-true i (last i) (and_parts (leb i (last i)) (leb (last i) (last (parent i))) (each_below _ n t.last i lt)).0;
          last_within = λ (i : ℕ) lt. leb-true (last i) (last (parent i)) (and_parts (leb i (last i)) (leb (last i) (last (parent i))) (each_below _ n t.last i lt)).1;
          ended = λ (i j : ℕ) lt up before. ltb-true (last j) i (implied _ _ (each_below _ i (each_below _ n t.ended i lt) j before) (lt-ltb (parent i) j up));
          parent_inner = λ (i : ℕ) lt. (and_parts (is_inner (kind (parent i))) (implies (is_field (kind i)) (is_element (kind (parent i)))) (each_below _ n t.parents i lt)).0;
        };
        fields = record {
          field_of_element = λ (i : ℕ) lt is. implied _ _ (and_parts (is_inner (kind (parent i))) (implies (is_field (kind i)) (is_element (kind (parent i)))) (each_below _ n t.parents i lt)).1 is;
          fields_first = λ (i j : ℕ) lt is up before. implied _ _ (each_below _ i (implied _ _ (each_below _ n t.fields_first i lt) is) j before) (lt-ltb (parent i) j up);
          namespaces_first = λ (i j : ℕ) lt is up before. namespace_is (kind j) (implied _ _ (each_below _ i (implied _ _ (each_below _ n t.namespaces_first i lt) (ap is_namespace is)) j before) (lt-ltb (parent i) j up));
          namespace_order = λ (i : ℕ) lt is then_is same. less_is _ (implied _ _ (each_below _ n t.namespace_order i (omega arith)) (and_from _ _ (and_from _ _ (ap is_namespace is) (ap is_namespace then_is)) (eq-eqb _ _ same)));
          attribute_order = λ (i : ℕ) lt is then_is same. less_is _ (implied _ _ (each_below _ n t.attribute_order i (omega arith)) (and_from _ _ (and_from _ _ (ap is_attribute is) (ap is_attribute then_is)) (eq-eqb _ _ same)));
        };
        namespaces = record {
          inherits = λ (j e : ℕ) e_lt e_is j_lt j_is same named.
              let other : not (bytes_eq (row_at rows j).local_name []) ≡ true = holds_not _ (λ u. named (bytes_same _ [] u)) in
              let found = one_below _ n (implied _ _ (each_below _ n (implied _ _ (each_below _ n t.inherits e e_lt) (ap is_element e_is)) j j_lt) (and_from _ _ (and_from _ _ (ap is_namespace j_is) (eq-eqb _ _ same)) other)) in
              let own = bound e (row_at rows j).local_name found.0 found.2 in
              (found.0, found.1, own.0, own.1, own.2);
          xml_bound = λ (e : ℕ) lt is.
              let found = one_below _ n (implied _ _ (each_below _ n t.xml_bound e lt) (ap is_element is)) in
              let parts = and_parts (binds e (codes "xml") found.0) (bytes_eq (row_at rows found.0).value xml_name) found.2 in
              let own = bound e (codes "xml") found.0 parts.0 in
              (found.0, found.1, own.0, own.1, own.2, bytes_same _ _ parts.1);
          default_named = λ (i : ℕ) lt is default empty. fails _ (implied _ _ (each_below _ n t.default_named i lt) (and_from _ _ (ap is_namespace is) ((bytes_eq-Decides _ []).1 default))) ((bytes_eq-Decides _ []).1 empty);
        };
        texts = record {
          text_some = texts;
          text_in_element = λ (i : ℕ) lt is. implied _ _ (each_below _ n t.text_in_element i lt) (ap is_text is);
          texts_apart = λ (i : ℕ) lt is then_is same. fails _ (implied _ _ (each_below _ n t.texts_apart i (omega arith)) (and_from _ _ (ap is_text is) (ap is_text then_is))) (eq-eqb _ _ same);
        };
        fit = λ (i : ℕ) lt. each_below _ n t.fit i lt;
      }
