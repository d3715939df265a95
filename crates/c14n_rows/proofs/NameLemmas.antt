-- The namespace rows of an element: a range of numbers, in order of prefix.
use Rattle.std.proofs.Common.{◌≡◌, ℕ, zero, suc, ◌+◌, ◌-◌, ◌<◌, ◌≤◌, ◌||◌, Bool, true, false, cond, eqb, Option, Some, None, List, [], ◌∷◌, length, get_or, refl, ap, sym, ◌∙◌, arith, inl, inr}
use Rattle.std.specs.List.{filter, find, list_any, range_with_len}
use Rattle.std.specs.Prelude.{is_some}
use Rattle.std.specs.Str.{bytes_eq}
use Rattle.std.specs.Cmp.Lexicographic.{slice_cmp}
use Rattle.std.specs.Ordering.{nat_cmp, is_eq, ordering_reverse}
use Rattle.std.specs.declared.cmp.Ordering.TheVariants.{Less, Greater}
use Rattle.std.proofs.lemmas.Bool.{cases_lt, cases_eq, eqb-true, eq-eqb, ne_eqb, and_parts, or_parts, false≢true}
use Rattle.std.proofs.lemmas.Cmp.{nat_list_cmp_total}
use Rattle.std.proofs.lemmas.Map.Text.{is_eq-slice_cmp}
use Rattle.std.proofs.lemmas.List.Elements.{filter_passes}
use Rattle.std.proofs.lemmas.List.FromFn.{get_or-range_with_len, length-range_with_len}
use Rattle.xml_doc.specs.Kinds.{is_namespace}
use Rattle.xml_doc.specs.declared.row.Kind.TheVariants.{Namespace}
use Rattle.xml_doc.specs.Rows.{RowOf}
use Rattle.xml_doc.specs.Shape.{row_at, IsWellShaped}
use Rattle.xml_doc.specs.Fields.{is_namespace_of, is_attribute_of, namespace_rows, attribute_rows, RunEnds}
use Rattle.xml_doc.proofs.FieldLemmas.{namespace_is, own_rows_stand}
use Rattle.c14n_rows.specs.Code.Stacks.{is_of}

-- a run of rows ends somewhere
run_end : (rows : List RowOf) (passes : ℕ → Bool) (fuel from : ℕ) → from + fuel ≡ length rows → (e : ℕ) × RunEnds rows passes from e
run_end rows passes zero from is = (
  from,
  record {
    reached = omega arith;
    within = omega arith;
    run = λ (k : ℕ) (lt : k < from) (ge : from ≤ k). absurd (omega arith);
    stop = λ (lt : from < length rows). absurd (omega arith);
  },
)
run_end rows passes (suc fuel) from is = go (passes from) refl (run_end rows passes fuel (from + 1) (omega arith))
  where
    go : (t : Bool) → passes from ≡ t → ((e : ℕ) × RunEnds rows passes (from + 1) e) → (e : ℕ) × RunEnds rows passes from e
    go false fails more = (
      from,
      record {
        reached = omega arith;
        within = omega arith;
        run = λ (k : ℕ) (lt : k < from) (ge : from ≤ k). absurd (omega arith);
        stop = λ (lt : from < length rows). fails;
      },
    )
    go true holds more = let r = more.1 in let reached = r.reached in (
      more.0,
      record {
        reached = omega arith;
        within = r.within;
        run = λ (k : ℕ) (lt : k < more.0) (ge : from ≤ k). elim (cases_eq k from) [
          | inl same ↦ ap passes same ∙ holds
          | inr other ↦ r.run k lt (omega arith)
        ];
        stop = r.stop;
      },
    )

-- the rows stand behind the element
pub namespaces_range : (rows : List RowOf) → IsWellShaped rows → (e : ℕ) → e < length rows
    → (fin : ℕ) × (e < fin) × (fin ≤ length rows) × (namespace_rows rows e ≡ range_with_len (e + 1) (fin - (e + 1)))
namespaces_range rows w e lt =
    let n = run_end rows (is_namespace_of rows e) (length rows - (e + 1)) (e + 1) (omega arith) in
    let within = (n.1).within in
    let a = run_end rows (is_attribute_of rows e) (length rows - n.0) n.0 (omega arith) in
    let own = own_rows_stand rows w e n.0 a.0 lt n.1 a.1 in
    (n.0, own.behind, within, own.namespaces)

-- and its attribute rows behind these
pub attributes_range : (rows : List RowOf) → IsWellShaped rows → (e : ℕ) → e < length rows
    → (first : ℕ) × (fin : ℕ) × (first ≤ fin) × (fin ≤ length rows) × (attribute_rows rows e ≡ range_with_len first (fin - first))
attributes_range rows w e lt =
    let n = run_end rows (is_namespace_of rows e) (length rows - (e + 1)) (e + 1) (omega arith) in
    let within = (n.1).within in
    let a = run_end rows (is_attribute_of rows e) (length rows - n.0) n.0 (omega arith) in
    let own = own_rows_stand rows w e n.0 a.0 lt n.1 a.1 in
    (n.0, a.0, own.ordered, own.within, own.attributes)

pub any_none : (p : ℕ → Bool) (a n : ℕ) → ((k : ℕ) → a ≤ k → k < a + n → p k ≡ false) → list_any p (range_with_len a n) ≡ false
any_none p a zero each = refl
any_none p a (suc n) each =
    ap (λ (t : Bool). t || list_any p (range_with_len (a + 1) n)) (each a (omega arith) (omega arith))
    ∙ any_none p (a + 1) n (λ (k : ℕ) (le : a + 1 ≤ k) (lt : k < a + 1 + n). each k (omega arith) (omega arith))

pub find_none : (p : ℕ → Bool) (xs : List ℕ) → list_any p xs ≡ false → find p xs ≡ None
find_none p [] e = refl
find_none p (x ∷ xs) e =
    let both = or_parts (p x) (list_any p xs) e in
    ap (λ (t : Bool). cond t (Some x) (find p xs)) both.0 ∙ find_none p xs both.1

pub is_some-find : (p : ℕ → Bool) (xs : List ℕ) → is_some (find p xs) ≡ list_any p xs
is_some-find p [] = refl
is_some-find p (x ∷ xs) = go (p x) (is_some-find p xs)
  where
    go : (t : Bool) → is_some (find p xs) ≡ list_any p xs → is_some (cond t (Some x) (find p xs)) ≡ (t || list_any p xs)
    go true more = refl
    go false more = more

-- what passes is kept by a filter
member : (p : ℕ → Bool) (y : ℕ) → p y ≡ true → (a n : ℕ) → a ≤ y → y < a + n → list_any (λ (k : ℕ). eqb k y) (filter p (range_with_len a n)) ≡ true
member p y is a zero le lt = absurd (omega arith)
member p y is a (suc n) le lt = elim (cases_eq a y) [
  | inl same ↦ here same (p a) (ap p same ∙ is)
  | inr other ↦ later (p a) (member p y is (a + 1) n (omega arith) (omega arith))
]
  where
    here : a ≡ y → (t : Bool) → t ≡ true → list_any (λ (k : ℕ). eqb k y) (cond t (a ∷ filter p (range_with_len (a + 1) n)) (filter p (range_with_len (a + 1) n))) ≡ true
    here same false bad = absurd (false≢true bad)
    here same true good = ap (λ (t : Bool). t || list_any (λ (k : ℕ). eqb k y) (filter p (range_with_len (a + 1) n))) (eq-eqb a y same)

    later : (t : Bool) → list_any (λ (k : ℕ). eqb k y) (filter p (range_with_len (a + 1) n)) ≡ true
        → list_any (λ (k : ℕ). eqb k y) (cond t (a ∷ filter p (range_with_len (a + 1) n)) (filter p (range_with_len (a + 1) n))) ≡ true
    later false more = more
    later true more = go (eqb a y) more
      where
        go : (u : Bool) → list_any (λ (k : ℕ). eqb k y) (filter p (range_with_len (a + 1) n)) ≡ true → (u || list_any (λ (k : ℕ). eqb k y) (filter p (range_with_len (a + 1) n))) ≡ true
        go true more = refl
        go false more = more

-- where a test may pass at one place alone
pub find_only : (p : ℕ → Bool) (a n y : ℕ) → a ≤ y → y < a + n → ((k : ℕ) → a ≤ k → k < a + n → (k ≡ y → ⊥) → p k ≡ false) → find p (range_with_len a n) ≡ cond (p y) (Some y) None
find_only p a zero y le lt others = absurd (omega arith)
find_only p a (suc n) y le lt others = elim (cases_eq a y) [
  | inl same ↦
      let rest : find p (range_with_len (a + 1) n) ≡ None = find_none p (range_with_len (a + 1) n) (any_none p (a + 1) n (λ (k : ℕ) (ge : a + 1 ≤ k) (under : k < a + 1 + n). others k (omega arith) (omega arith) (λ (e : k ≡ y). omega arith))) in
      ap (λ (o : Option ℕ). cond (p a) (Some a) o) rest ∙ ap (λ (k : ℕ). cond (p k) (Some k) None) same
  | inr other ↦
      ap (λ (t : Bool). cond t (Some a) (find p (range_with_len (a + 1) n))) (others a (omega arith) (omega arith) other)
      ∙ find_only p (a + 1) n y (omega arith) (omega arith) (λ (k : ℕ) (ge : a + 1 ≤ k) (under : k < a + 1 + n) (differs : k ≡ y → ⊥). others k (omega arith) (omega arith) differs)
]

-- a search between rows low and high: those before are of earlier prefixes, and those behind of later ones
pub record Halved (rows : List RowOf) (e fin : ℕ) (p : List ℕ) (low high : ℕ) : Type 0 where
  pub from : e < low
  pub until : high ≤ fin
  pub ordered : low ≤ high
  pub earlier : (k : ℕ) → e < k → k < low → slice_cmp nat_cmp (row_at rows k).local_name p ≡ Less
  pub later : (k : ℕ) → high ≤ k → k < fin → slice_cmp nat_cmp (row_at rows k).local_name p ≡ Greater

-- the namespace rows of element e end before row `fin`
module _ (rows : List RowOf) (w : IsWellShaped rows) (e fin : ℕ) (behind : e < fin) (within : fin ≤ length rows) (own : namespace_rows rows e ≡ range_with_len (e + 1) (fin - (e + 1))) where
  pub is_own : (k : ℕ) → e < k → k < fin → is_namespace_of rows e k ≡ true
  is_own k above lt =
      let n = ap (length {A = ℕ}) own in let m = length-range_with_len (e + 1) (fin - (e + 1)) in
      let passes = filter_passes (is_namespace_of rows e) (range_with_len 1 (length rows - 1)) (k - (e + 1)) 0 (omega arith) in
      let at : get_or (namespace_rows rows e) (k - (e + 1)) 0 ≡ k =
      ap (λ (ks : List ℕ). get_or ks (k - (e + 1)) 0) own ∙ get_or-range_with_len (e + 1) (fin - (e + 1)) (k - (e + 1)) 0 (omega arith) ∙ omega arith in
      ap (is_namespace_of rows e) (sym at) ∙ passes

  own_kind : (k : ℕ) → e < k → k < fin → (row_at rows k).kind ≡ Namespace
  own_kind k above lt = namespace_is (row_at rows k).kind (and_parts (is_namespace (row_at rows k).kind) (eqb (row_at rows k).parent e) (is_own k above lt)).0

  own_parent : (k : ℕ) → e < k → k < fin → (row_at rows k).parent ≡ e
  own_parent k above lt = eqb-true (row_at rows k).parent e (and_parts (is_namespace (row_at rows k).kind) (eqb (row_at rows k).parent e) (is_own k above lt)).1

  next_ascends : (i j : ℕ) → e < i → j ≡ i + 1 → j < fin → slice_cmp nat_cmp (row_at rows i).local_name (row_at rows j).local_name ≡ Less
  next_ascends i j above next lt =
      let kind : (row_at rows (i + 1)).kind ≡ Namespace = ap (λ (k : ℕ). (row_at rows k).kind) (sym next) ∙ own_kind j (omega arith) lt in
      let up : (row_at rows (i + 1)).parent ≡ e = ap (λ (k : ℕ). (row_at rows k).parent) (sym next) ∙ own_parent j (omega arith) lt in
      ap (λ (k : ℕ). slice_cmp nat_cmp (row_at rows i).local_name (row_at rows k).local_name) next
      ∙ w.fields.namespace_order i (omega arith) (own_kind i above (omega arith)) kind (own_parent i above (omega arith) ∙ sym up)

  pub ascends : (d i j : ℕ) → e < i → j ≡ i + 1 + d → j < fin → slice_cmp nat_cmp (row_at rows i).local_name (row_at rows j).local_name ≡ Less
  ascends zero i j above is lt = next_ascends i j above (omega arith) lt
  ascends (suc d) i j above is lt =
      nat_list_cmp_total.trans (row_at rows i).local_name (row_at rows (i + 1 + d)).local_name (row_at rows j).local_name
      (ascends d i (i + 1 + d) above refl (omega arith)) (next_ascends (i + 1 + d) j (omega arith) (omega arith) lt)

  pub descends : (i j : ℕ) → e < j → j < i → i < fin → slice_cmp nat_cmp (row_at rows i).local_name (row_at rows j).local_name ≡ Greater
  descends i j above lt under =
      nat_list_cmp_total.antisymm (row_at rows i).local_name (row_at rows j).local_name
      ∙ ap ordering_reverse (ascends (i - (j + 1)) j i above (omega arith) under)

  -- no two are of one prefix
  pub differ : (i j : ℕ) → e < i → i < fin → e < j → j < fin → (i ≡ j → ⊥) → bytes_eq (row_at rows i).local_name (row_at rows j).local_name ≡ false
  differ i j above lt over less other =
      sym (is_eq-slice_cmp (row_at rows i).local_name (row_at rows j).local_name)
      ∙ elim (cases_lt i j) [
        | inl before ↦ ap is_eq (ascends (j - (i + 1)) i j above (omega arith) less)
        | inr after ↦ ap is_eq (descends i j over (omega arith) lt)
      ]

  -- a namespace row of the element stands between it and the end of these
  pub place_of : (y : ℕ) → y < length rows → is_namespace_of rows e y ≡ true → (e < y) × (y < fin)
  place_of y here is =
      let both = and_parts (is_namespace (row_at rows y).kind) (eqb (row_at rows y).parent e) is in
      let up : (row_at rows y).parent ≡ e = eqb-true (row_at rows y).parent e both.1 in
      let pos = not_first y (namespace_is (row_at rows y).kind both.0) in
      let above = w.nesting.parent_before y pos here in
      elim (cases_lt y fin) [
        | inl lt ↦ (omega arith, lt)
        | inr ge ↦
            let passes : list_any (λ (k : ℕ). eqb k y) (namespace_rows rows e) ≡ true = member (is_namespace_of rows e) y is 1 (length rows - 1) (omega arith) (omega arith) in
            let none : list_any (λ (k : ℕ). eqb k y) (range_with_len (e + 1) (fin - (e + 1))) ≡ false =
            any_none (λ (k : ℕ). eqb k y) (e + 1) (fin - (e + 1)) (λ (k : ℕ) (le : e + 1 ≤ k) (lt : k < e + 1 + (fin - (e + 1))). ne_eqb k y (λ (same : k ≡ y). omega arith)) in
            absurd (false≢true (sym none ∙ ap (list_any (λ (k : ℕ). eqb k y)) (sym own) ∙ passes))
      ]
    where
      not_first : (k : ℕ) → (row_at rows k).kind ≡ Namespace → 0 < k
      not_first zero kind = let root = w.root_kind in cc
      not_first (suc k) kind = omega arith

  pub halved-begin : (p : List ℕ) → Halved rows e fin p (e + 1) fin
  halved-begin p = record {
    from = omega arith;
    until = omega arith;
    ordered = omega arith;
    earlier = λ (k : ℕ) (above : e < k) (lt : k < e + 1). absurd (omega arith);
    later = λ (k : ℕ) (ge : fin ≤ k) (lt : k < fin). absurd (omega arith);
  }

  pub halved-less : (p : List ℕ) (low high middle : ℕ) → Halved rows e fin p low high → low ≤ middle → middle < high → slice_cmp nat_cmp (row_at rows middle).local_name p ≡ Less → Halved rows e fin p (middle + 1) high
  halved-less p low high middle h ge lt is =
      let from = h.from in let until = h.until in
      record {
        from = omega arith;
        until = h.until;
        ordered = omega arith;
        earlier = λ (k : ℕ) (above : e < k) (under : k < middle + 1). elim (cases_eq k middle) [
          | inl same ↦ ap (λ (j : ℕ). slice_cmp nat_cmp (row_at rows j).local_name p) same ∙ is
          | inr other ↦
              nat_list_cmp_total.trans (row_at rows k).local_name (row_at rows middle).local_name p
              (ascends (middle - (k + 1)) k middle above (omega arith) (omega arith)) is
        ];
        later = h.later;
      }

  pub halved-greater : (p : List ℕ) (low high middle : ℕ) → Halved rows e fin p low high → low ≤ middle → middle < high → slice_cmp nat_cmp (row_at rows middle).local_name p ≡ Greater → Halved rows e fin p low middle
  halved-greater p low high middle h ge lt is =
      let from = h.from in let until = h.until in
      record {
        from = h.from;
        until = omega arith;
        ordered = omega arith;
        earlier = h.earlier;
        later = λ (k : ℕ) (above : middle ≤ k) (under : k < fin). elim (cases_eq k middle) [
          | inl same ↦ ap (λ (j : ℕ). slice_cmp nat_cmp (row_at rows j).local_name p) same ∙ is
          | inr other ↦
              nat_list_cmp_total.antisymm (row_at rows k).local_name p
              ∙ ap ordering_reverse (nat_list_cmp_total.trans p (row_at rows middle).local_name (row_at rows k).local_name
              (nat_list_cmp_total.antisymm p (row_at rows middle).local_name ∙ ap ordering_reverse is)
              (ascends (k - (middle + 1)) middle k (omega arith) (omega arith) under))
        ];
      }

  pub halved-none : (p : List ℕ) (low high : ℕ) → Halved rows e fin p low high → high ≤ low → list_any (is_of rows p) (namespace_rows rows e) ≡ false
  halved-none p low high h done =
      ap (list_any (is_of rows p)) own
      ∙ any_none (is_of rows p) (e + 1) (fin - (e + 1)) (λ (k : ℕ) (ge : e + 1 ≤ k) (lt : k < e + 1 + (fin - (e + 1))).
      sym (is_eq-slice_cmp (row_at rows k).local_name p)
      ∙ elim (cases_lt k low) [
        | inl before ↦ ap is_eq (h.earlier k (omega arith) before)
        | inr after ↦ ap is_eq (h.later k (omega arith) (omega arith))
      ])
