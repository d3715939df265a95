-- The attribute rows of an element stand in order, so that those in the set need not be put in order.
use Rattle.std.proofs.Common.{◌≡◌, ℕ, zero, suc, ◌+◌, ◌-◌, ◌<◌, ◌≤◌, ◌&&◌, ◌||◌, Bool, true, false, cond, eqb, Option, Some, None, inl, inr, List, [], ◌∷◌, ◌++◌, length, get_or, refl, ap, sym, ◌∙◌, arith, append-nil}
use Rattle.std.specs.List.{filter, flat_map, list_any, range_with_len}
use Rattle.std.specs.Cmp.{IsTotalOrder}
use Rattle.std.specs.Cmp.Lexicographic.{slice_cmp}
use Rattle.std.specs.declared.cmp.Ordering.{Ordering}
use Rattle.std.specs.declared.cmp.Ordering.TheVariants.{Less, Equal, Greater}
use Rattle.std.proofs.lemmas.Bool.{cases_eq, cases_lt, eqb-true, and_parts, false≢true, false_from_ne_true}
use Rattle.std.proofs.lemmas.Cmp.{nat_list_cmp_total, on_total, then_total}
use Rattle.std.proofs.lemmas.List.{length-reverse}
use Rattle.std.proofs.lemmas.List.Elements.{filter_passes}
use Rattle.std.proofs.lemmas.List.FromFn.{get_or-range_with_len, length-range_with_len}
use Rattle.xml_doc.specs.Kinds.{is_attribute}
use Rattle.xml_doc.specs.declared.row.Kind.{Kind}
use Rattle.xml_doc.specs.declared.row.Kind.TheVariants.{Root, Element, Namespace, Attribute, Text, Comment, Instruction}
use Rattle.xml_doc.specs.Rows.{RowOf}
use Rattle.xml_doc.specs.Shape.{row_at, IsWellShaped}
use Rattle.xml_doc.specs.Fields.{is_attribute_of, attribute_rows}
use Rattle.c14n_text.specs.Rows.{parent_of}
use Rattle.c14n_text.specs.Namespaces.{Rule}
use Rattle.c14n_text.specs.Code.Choice.{is_behind}
use Rattle.c14n_rows.specs.Code.Order.{IsBehindFrom}
use Rattle.std.specs.Ordering.{is_lt, nat_cmp, ordering_reverse, ordering_then}
use Rattle.std.proofs.lemmas.Slice.Eq.{bytes_eq-Decides}
use Rattle.sig_base.specs.Names.{xml_name}
use Rattle.c14n_text.specs.Attributes.{attribute_cmp, imported, imports_attributes, in_order, is_imported, is_xml, placed, put_in, same_name, xml_above, xml_attributes}
use Rattle.c14n_text.specs.Bases.{base_place, is_own, written_attributes}
use Rattle.c14n_rows.specs.Stacks.{upwards}
use Rattle.c14n_rows.specs.Code.Stacks.{xml_at}
use Rattle.c14n_rows.proofs.NameLemmas.{any_none, attributes_range}

attribute_is : (k : Kind) → is_attribute k ≡ true → k ≡ Attribute
attribute_is Root e = absurd (false≢true e)
attribute_is Element e = absurd (false≢true e)
attribute_is Namespace e = absurd (false≢true e)
attribute_is Attribute e = refl
attribute_is Text e = absurd (false≢true e)
attribute_is Comment e = absurd (false≢true e)
attribute_is Instruction e = absurd (false≢true e)

-- a search between rows low and high for the first that goes behind the last one
pub record Between (rows : List RowOf) (first fin : ℕ) (last : Option ℕ) (low high : ℕ) : Type 0 where
  pub from : first ≤ low
  pub ordered : low ≤ high
  pub until : high ≤ fin
  pub before : (k : ℕ) → first ≤ k → k < low → is_behind rows last k ≡ false
  pub behind : (k : ℕ) → high ≤ k → k < fin → is_behind rows last k ≡ true

-- numbers from a on, each greater than the one before it, and below fin
abbrev Rising : ℕ → ℕ → List ℕ → Type 0
Rising fin a [] = Unit {0}
Rising fin a (z ∷ zs) = (a ≤ z) × (z < fin) × Rising fin (z + 1) zs

rising-less : (fin a b : ℕ) (zs : List ℕ) → a ≤ b → Rising fin b zs → Rising fin a zs
rising-less fin a b [] le r = tt
rising-less fin a b (z ∷ zs) le r = (let ge = r.0 in omega arith, r.1, r.2)

rising-filter : (p : ℕ → Bool) (n a fin : ℕ) → a + n ≤ fin → Rising fin a (filter p (range_with_len a n))
rising-filter p zero a fin le = tt
rising-filter p (suc n) a fin le = go (p a) (rising-filter p n (a + 1) fin (omega arith))
  where
    go : (t : Bool) → Rising fin (a + 1) (filter p (range_with_len (a + 1) n)) → Rising fin a (cond t (a ∷ filter p (range_with_len (a + 1) n)) (filter p (range_with_len (a + 1) n)))
    go true more = (omega arith, omega arith, more)
    go false more = rising-less fin a (a + 1) (filter p (range_with_len (a + 1) n)) (omega arith) more

pub filter-same : (p q : ℕ → Bool) → ((a : ℕ) → p a ≡ q a) → (xs : List ℕ) → filter p xs ≡ filter q xs
filter-same p q same [] = refl
filter-same p q same (x ∷ xs) = ap (λ (t : Bool). cond t (x ∷ filter p xs) (filter p xs)) (same x) ∙ ap (λ (ys : List ℕ). cond (q x) (x ∷ ys) ys) (filter-same p q same xs)

any-filter : (p q : ℕ → Bool) (xs : List ℕ) → list_any p (filter q xs) ≡ list_any (λ x. q x && p x) xs
any-filter p q [] = refl
any-filter p q (x ∷ xs) = go (q x) (any-filter p q xs)
  where
    go : (b : Bool) → list_any p (filter q xs) ≡ list_any (λ y. q y && p y) xs → list_any p (cond b (x ∷ filter q xs) (filter q xs)) ≡ ((b && p x) || list_any (λ y. q y && p y) xs)
    go false e = e
    go true e = ap (λ (t : Bool). p x || t) e

any_at : (p : ℕ → Bool) (n a k : ℕ) → a ≤ k → k < a + n → p k ≡ true → list_any p (range_with_len a n) ≡ true
any_at p zero a k ge lt is = absurd (omega arith)
any_at p (suc n) a k ge lt is = elim (cases_eq k a) [
  | inl same ↦ ap (λ (t : Bool). t || list_any p (range_with_len (a + 1) n)) (ap p (sym same) ∙ is)
  | inr other ↦ ap (λ (t : Bool). p a || t) (any_at p n (a + 1) k (omega arith) (omega arith) is) ∙ or_true (p a)
]
  where
    or_true : (t : Bool) → (t || true) ≡ true
    or_true true = refl
    or_true false = refl

module _ (rows : List RowOf) where
  pub total : IsTotalOrder (attribute_cmp rows)
  total = then_total (on_total (λ a. (row_at rows a).uri) nat_list_cmp_total) (on_total (λ a. (row_at rows a).local_name) nat_list_cmp_total)

  -- a list whose members are in order is in order
  in_order-rising : (fin first : ℕ) → ((i j : ℕ) → first ≤ i → i < j → j < fin → attribute_cmp rows i j ≡ Less) → (a : ℕ) (zs : List ℕ) → first ≤ a → Rising fin a zs → in_order rows zs ≡ zs
  in_order-rising fin first less a [] le r = refl
  in_order-rising fin first less a (z ∷ zs) le r =
      let ge = r.0 in
      ap (put_in rows z) (in_order-rising fin first less (z + 1) zs (omega arith) r.2) ∙ at zs r.2
    where
      at : (ys : List ℕ) → Rising fin (z + 1) ys → put_in rows z ys ≡ z ∷ ys
      at [] s = refl
      at (y ∷ ys) s = let ge = r.0 in let up = s.0 in ap (λ (o : Ordering). placed o z y ys (put_in rows z ys)) (less z y (omega arith) (omega arith) s.1)

  itself : (a : ℕ) → attribute_cmp rows a a ≡ Equal
  itself a = go (attribute_cmp rows a a) refl
    where
      go : (o : Ordering) → attribute_cmp rows a a ≡ o → attribute_cmp rows a a ≡ Equal
      go Less e = absurd (false≢true (ap is_lt (sym (total.antisymm a a ∙ ap ordering_reverse e) ∙ e)))
      go Equal e = e
      go Greater e = absurd (false≢true (ap is_lt (sym e ∙ total.antisymm a a ∙ ap ordering_reverse e)))

  -- two `xml:` attributes of one local name have one name
  pub level_of : (a k : ℕ) → is_xml rows a ≡ true → (is_xml rows k && same_name rows a k) ≡ true → attribute_cmp rows a k ≡ Equal
  level_of a k is both =
      let parts = and_parts (is_xml rows k) (same_name rows a k) both in
      let uri : (row_at rows k).uri ≡ (row_at rows a).uri = (bytes_eq-Decides (row_at rows k).uri xml_name).0 parts.0 ∙ sym ((bytes_eq-Decides (row_at rows a).uri xml_name).0 is) in
      let local : (row_at rows k).local_name ≡ (row_at rows a).local_name = (bytes_eq-Decides (row_at rows k).local_name (row_at rows a).local_name).0 parts.1 in
      ap (λ (u : List ℕ). ordering_then (slice_cmp nat_cmp (row_at rows a).uri u) (slice_cmp nat_cmp (row_at rows a).local_name (row_at rows k).local_name)) uri
      ∙ ap (λ (l : List ℕ). ordering_then (slice_cmp nat_cmp (row_at rows a).uri (row_at rows a).uri) (slice_cmp nat_cmp (row_at rows a).local_name l)) local
      ∙ itself a

  module _ (w : IsWellShaped rows) (x first fin : ℕ) (ordered : first ≤ fin) (within : fin ≤ length rows) (own : attribute_rows rows x ≡ range_with_len first (fin - first)) where
    is_attribute_here : (k : ℕ) → first ≤ k → k < fin → is_attribute_of rows x k ≡ true
    is_attribute_here k above lt =
        let n = ap (length {A = ℕ}) own in let m = length-range_with_len first (fin - first) in
        let passes = filter_passes (is_attribute_of rows x) (range_with_len 1 (length rows - 1)) (k - first) 0 (omega arith) in
        let at : get_or (attribute_rows rows x) (k - first) 0 ≡ k =
        ap (λ (ks : List ℕ). get_or ks (k - first) 0) own ∙ get_or-range_with_len first (fin - first) (k - first) 0 (omega arith) ∙ omega arith in
        ap (is_attribute_of rows x) (sym at) ∙ passes

    kind : (k : ℕ) → first ≤ k → k < fin → (row_at rows k).kind ≡ Attribute
    kind k above lt = attribute_is (row_at rows k).kind (and_parts (is_attribute (row_at rows k).kind) (eqb (row_at rows k).parent x) (is_attribute_here k above lt)).0

    parent : (k : ℕ) → first ≤ k → k < fin → (row_at rows k).parent ≡ x
    parent k above lt = eqb-true (row_at rows k).parent x (and_parts (is_attribute (row_at rows k).kind) (eqb (row_at rows k).parent x) (is_attribute_here k above lt)).1

    next_less : (i j : ℕ) → first ≤ i → j ≡ i + 1 → j < fin → attribute_cmp rows i j ≡ Less
    next_less i j above next lt =
        let is : (row_at rows (i + 1)).kind ≡ Attribute = ap (λ (k : ℕ). (row_at rows k).kind) (sym next) ∙ kind j (omega arith) lt in
        let up : (row_at rows (i + 1)).parent ≡ x = ap (λ (k : ℕ). (row_at rows k).parent) (sym next) ∙ parent j (omega arith) lt in
        ap (attribute_cmp rows i) next
        ∙ w.fields.attribute_order i (omega arith) (kind i above (omega arith)) is (parent i above (omega arith) ∙ sym up)

    less_by : (d i j : ℕ) → first ≤ i → j ≡ i + 1 + d → j < fin → attribute_cmp rows i j ≡ Less
    less_by zero i j above is lt = next_less i j above (omega arith) lt
    less_by (suc d) i j above is lt =
        total.trans i (i + 1 + d) j (less_by d i (i + 1 + d) above refl (omega arith)) (next_less (i + 1 + d) j (omega arith) (omega arith) lt)

    pub own_in_order : (p : ℕ → Bool) → in_order rows (filter p (attribute_rows rows x)) ≡ filter p (attribute_rows rows x)
    own_in_order p =
        ap (λ (ys : List ℕ). in_order rows (filter p ys)) own
        ∙ in_order-rising fin first (λ (i j : ℕ) (above : first ≤ i) (lt : i < j) (under : j < fin). less_by (j - (i + 1)) i j above (omega arith) under)
        first (filter p (range_with_len first (fin - first))) (omega arith) (rising-filter p (fin - first) first fin (omega arith))
        ∙ ap (filter p) (sym own)

    -- what goes behind the last one, the later rows do too
    later_behind : (last : Option ℕ) (i j : ℕ) → first ≤ i → i < j → j < fin → is_behind rows last i ≡ true → is_behind rows last j ≡ true
    later_behind None i j above lt under is = refl
    later_behind (Some b) i j above lt under is =
        ap is_lt (total.trans b i j (less_is (attribute_cmp rows b i) is) (less_by (j - (i + 1)) i j above (omega arith) under))
      where
        less_is : (o : Ordering) → is_lt o ≡ true → o ≡ Less
        less_is Less e = refl
        less_is Equal e = absurd (false≢true e)
        less_is Greater e = absurd (false≢true e)

    pub between-begin : (last : Option ℕ) → Between rows first fin last first fin
    between-begin last = record {
      from = omega arith;
      ordered = ordered;
      until = omega arith;
      before = λ (k : ℕ) (ge : first ≤ k) (lt : k < first). absurd (omega arith);
      behind = λ (k : ℕ) (ge : fin ≤ k) (lt : k < fin). absurd (omega arith);
    }

    pub between-behind : (last : Option ℕ) (low high middle : ℕ) → Between rows first fin last low high → low ≤ middle → middle < high → is_behind rows last middle ≡ true → Between rows first fin last low middle
    between-behind last low high middle h ge lt is =
        let from = h.from in let until = h.until in
        record {
          from = h.from;
          ordered = ge;
          until = omega arith;
          before = h.before;
          behind = λ (k : ℕ) (above : middle ≤ k) (under : k < fin). elim (cases_eq k middle) [
            | inl same ↦ ap (is_behind rows last) same ∙ is
            | inr other ↦ later_behind last middle k (omega arith) (omega arith) under is
          ];
        }

    pub between-before : (last : Option ℕ) (low high middle : ℕ) → Between rows first fin last low high → low ≤ middle → middle < high → is_behind rows last middle ≡ false → Between rows first fin last (middle + 1) high
    between-before last low high middle h ge lt is =
        let from = h.from in let until = h.until in
        record {
          from = omega arith;
          ordered = omega arith;
          until = h.until;
          before = λ (k : ℕ) (above : first ≤ k) (under : k < middle + 1). elim (cases_eq k middle) [
            | inl same ↦ ap (is_behind rows last) same ∙ is
            | inr other ↦ false_from_ne_true (is_behind rows last k) (λ (goes : is_behind rows last k ≡ true).
                false≢true (sym is ∙ later_behind last k middle above (omega arith) (omega arith) goes))
          ];
          behind = h.behind;
        }

    pub between-end : (last : Option ℕ) (low high : ℕ) → Between rows first fin last low high → high ≤ low → IsBehindFrom rows last first fin low
    between-end last low high h done = let until = h.until in let from = h.ordered in record {
      low = h.from;
      high = omega arith;
      before = h.before;
      behind = λ (k : ℕ) (ge : low ≤ k) (lt : k < fin). h.behind k (omega arith) lt;
    }

    -- the only one that can have the name of row a stands right before those that go behind it
    pub own_of_name : (a place : ℕ) → is_xml rows a ≡ true → IsBehindFrom rows (Some a) first fin place → (t : Bool)
        → (t ≡ true → (first < place) × ((is_xml rows (place - 1) && same_name rows a (place - 1)) ≡ true))
        → (t ≡ false → first < place → (is_xml rows (place - 1) && same_name rows a (place - 1)) ≡ false)
        → t ≡ list_any (same_name rows a) (xml_attributes rows x)
    own_of_name a place is h t found lost = go t refl ∙ sym (ap (λ (ks : List ℕ). list_any (same_name rows a) (filter (is_xml rows) ks)) own ∙ any-filter (same_name rows a) (is_xml rows) (range_with_len first (fin - first)))
      where
        named : ℕ → Bool
        named k = is_xml rows k && same_name rows a k

        not_named : t ≡ false → (k : ℕ) → first ≤ k → k < fin → named k ≡ false
        not_named f k above lt = false_from_ne_true (named k) (λ (yes : named k ≡ true).
            let same : attribute_cmp rows a k ≡ Equal = level_of a k is yes in
            elim (cases_lt k place) [
              | inr behind ↦ false≢true (sym (ap is_lt same) ∙ h.behind k (omega arith) lt)
              | inl before ↦ elim (cases_eq k (place - 1)) [
                | inl last ↦ false≢true (sym (lost f (omega arith)) ∙ ap named (sym last) ∙ yes)
                | inr earlier ↦
                    let high = h.high in
                    let less : attribute_cmp rows k (place - 1) ≡ Less = less_by (place - 1 - (k + 1)) k (place - 1) above (omega arith) (omega arith) in
                    false≢true (sym (h.before (place - 1) (omega arith) (omega arith)) ∙ ap is_lt (total.congr a k (place - 1) same ∙ less))
              ]
            ])

        go : (b : Bool) → t ≡ b → t ≡ list_any named (range_with_len first (fin - first))
        go true e = let there = found e in let high = h.high in let lt = there.0 in
            e ∙ sym (any_at named (fin - first) first (place - 1) (omega arith) (omega arith) there.1)
        go false e = e ∙ sym (any_none named first (fin - first) (λ (k : ℕ) (ge : first ≤ k) (lt : k < first + (fin - first)). not_named e k ge (omega arith)))

-- where no `xml:` attribute stands above x, and no value is joined, x writes its own attributes in the set alone
pub written_alone : (rows : List RowOf) → IsWellShaped rows → (set : ℕ → Bool) (rule : Rule) (x : ℕ) → x < length rows → xml_at rows (parent_of rows x) ≡ [] → written_attributes rows set rule None x ≡ filter set (attribute_rows rows x)
written_alone rows w set rule x lt none = go (imports_attributes rows set rule x)
  where
    empty : (xs : List ℕ) → length xs ≡ 0 → xs ≡ []
    empty [] e = refl
    empty (y ∷ ys) e = absurd (omega arith)

    and_true : (a : Bool) → (a && true) ≡ a
    and_true true = refl
    and_true false = refl

    above_none : xml_above rows x ≡ []
    above_none =
        let n = ap (length {A = ℕ}) none in
        let m = length-reverse (flat_map (xml_attributes rows) (upwards rows (parent_of rows x))) in
        empty (flat_map (xml_attributes rows) (upwards rows (parent_of rows x))) (omega arith)

    all : filter (is_own rows set None) (attribute_rows rows x) ++ imported rows rule x ++ base_place None ≡ filter set (attribute_rows rows x)
    all =
        ap (λ (ys : List ℕ). filter (is_own rows set None) (attribute_rows rows x) ++ filter (is_imported rows rule x) ys ++ []) above_none
        ∙ append-nil (filter (is_own rows set None) (attribute_rows rows x) ++ [])
        ∙ append-nil (filter (is_own rows set None) (attribute_rows rows x))
        ∙ filter-same (is_own rows set None) set (λ (a : ℕ). and_true (set a)) (attribute_rows rows x)

    go : (t : Bool) → cond t (in_order rows (filter (is_own rows set None) (attribute_rows rows x) ++ imported rows rule x ++ base_place None)) (filter set (attribute_rows rows x)) ≡ filter set (attribute_rows rows x)
    go true =
        let range = attributes_range rows w x lt in
        ap (in_order rows) all ∙ own_in_order rows w x range.0 range.1 range.2 range.3 range.4 set
    go false = refl
