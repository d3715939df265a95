-- What is imported to an element, put in order.
use Rattle.std.proofs.Common.{◌≡◌, ℕ, ◌+◌, ◌-◌, ◌≤◌, ◌<◌, ◌&&◌, Bool, true, false, cond, eqb, inl, inr, ◌⊎◌, Option, Some, None, List, [], ◌∷◌, ◌++◌, length, take, drop, reverse, get_or, refl, ap, sym, ◌∙◌, subst, arith, append_assoc, append-nil, length-append, not}
use Rattle.std.proofs.lemmas.Slice.{between_to_end}
use Rattle.std.specs.List.{All, between, filter, find, flat_map, list_any, range_with_len}
use Rattle.xml_doc.proofs.Ranges.{numbers, numbers-more, numbers-end}
use Rattle.std.specs.declared.cmp.Ordering.{Ordering}
use Rattle.std.specs.declared.cmp.Ordering.TheVariants.{Less, Equal, Greater}
use Rattle.std.specs.Str.{bytes_eq}
use Rattle.std.proofs.lemmas.Bool.{and_parts, cases_Bool, cases_eq, cases_lt, eq-eqb, eqb-true, false_from_ne_true, false≢true}
use Rattle.std.proofs.lemmas.List.{at_drop_more, drop_all, drop-drop, length-drop, length-take-le, reverse-append, reverse-reverse, take-append-drop}
use Rattle.std.proofs.lemmas.List.FromFn.{length-range_with_len}
use Rattle.std.proofs.Math.Seq.{drop-append_seam, take-append_seam}
use Rattle.std.proofs.lemmas.List.Sorted.{All-permutation, IsPermutation-reverse}
use Rattle.std.proofs.lemmas.List.Elements.{All-append, All-drop, All-take, All-head, All-same, All-nil, All-tail, All-weaker, filter-append, filter_passes}
use Rattle.std.proofs.lemmas.Slice.Eq.{bytes_eq-Decides}
use Rattle.std.proofs.lemmas.Map.Text.{is_eq-slice_cmp}
use Rattle.std.specs.Cmp.Lexicographic.{slice_cmp}
use Rattle.std.specs.Ordering.{is_eq, nat_cmp, ordering_then}
use Rattle.xml_doc.specs.Kinds.{is_element}
use Rattle.xml_doc.specs.Rows.{RowOf}
use Rattle.xml_doc.specs.Shape.{row_at, IsWellShaped}
use Rattle.xml_doc.specs.Fields.{attribute_rows, namespace_rows}
use Rattle.c14n_text.specs.Rows.{above, kind_of, parent_of}
use Rattle.c14n_text.specs.Namespaces.{Rule}
use Rattle.c14n_text.specs.Attributes.{attribute_cmp, imported, imports_attributes, in_order, is_inclusive, is_inheritable, is_row, is_xml, put_in, same_name, xml_above, xml_attributes}
use Rattle.c14n_text.specs.Bases.{base_place, bases, is_eleven, is_none, joined_base, omitted_bases, with_bases}
use Rattle.c14n_text.proofs.ChoiceLemmas.{Ascending}
use Rattle.c14n_rows.specs.Stacks.{count_of, total, upwards}
use Rattle.c14n_rows.specs.Code.Order.{may_import}
use Rattle.c14n_rows.specs.Code.Nearest.{inherits, nearest_of}
use Rattle.c14n_rows.specs.Code.Stacks.{xml_at}
use Rattle.c14n_rows.proofs.EntryLemmas.{total-more}
use Rattle.c14n_rows.proofs.OrderLaws.{agree, all_in_order, ascends_stand, drop_ascends, few_in_order, filter_order, merge_less, merge_equal, merge_greater, order_both, order_front, order_back, stands_ascends}
use Rattle.c14n_rows.proofs.OrderLemmas.{filter-same, level_of, own_in_order}
use Rattle.c14n_rows.proofs.StackLemmas.{no_attributes}
use Rattle.c14n_rows.proofs.XmlLemmas.{few_filtered, xml_room}

-- attributes at one place in the order have one local name
name_level : (rows : List RowOf) (a b : ℕ) → attribute_cmp rows a b ≡ Equal → same_name rows a b ≡ true
name_level rows a b e =
    let l : List ℕ = (row_at rows a).local_name in let m : List ℕ = (row_at rows b).local_name in
    let same : l ≡ m = (bytes_eq-Decides l m).0 (sym (is_eq-slice_cmp l m) ∙ ap is_eq (second (slice_cmp nat_cmp (row_at rows a).uri (row_at rows b).uri) (slice_cmp nat_cmp l m) e)) in
    (bytes_eq-Decides m l).1 (sym same)
  where
    second : (u o : Ordering) → ordering_then u o ≡ Equal → o ≡ Equal
    second Less o e = absurd (false≢true (ap is_eq e))
    second Equal o e = e
    second Greater o e = absurd (false≢true (ap is_eq e))

filter_within : (p q : ℕ → Bool) → ((a : ℕ) → p a ≡ true → q a ≡ true) → (xs : List ℕ) → filter p (filter q xs) ≡ filter p xs
filter_within p q within [] = refl
filter_within p q within (a ∷ xs) = go (q a) refl (filter_within p q within xs)
  where
    go : (t : Bool) → q a ≡ t → filter p (filter q xs) ≡ filter p xs → filter p (cond t (a ∷ filter q xs) (filter q xs)) ≡ filter p (a ∷ xs)
    go true e ih = ap (λ (ys : List ℕ). cond (p a) (a ∷ ys) ys) ih
    go false e ih = ih ∙ sym (ap (λ (t : Bool). cond t (a ∷ filter p xs) (filter p xs)) (false_from_ne_true (p a) (λ (is : p a ≡ true). false≢true (sym e ∙ within a is))))

-- to the root may be imported what the rule imports at all
pub imports_of_root : (rows : List RowOf) → IsWellShaped rows → (rule : Rule) (xml : List ℕ) → in_order rows (filter (may_import rows rule 0) (reverse xml)) ≡ nearest_of rows rule xml
imports_of_root rows w rule xml = ap (in_order rows) (filter-same (may_import rows rule 0) (inherits rows rule) same (reverse xml))
  where
    and_true : (t : Bool) → (t && true) ≡ t
    and_true true = refl
    and_true false = refl

    same : (a : ℕ) → may_import rows rule 0 a ≡ inherits rows rule a
    same a =
        ap (λ (ks : List ℕ). inherits rows rule a && not (list_any (same_name rows a) (filter (is_xml rows) ks))) (no_attributes rows w 0 (ap is_element w.root_kind))
        ∙ and_true (inherits rows rule a)

module _ (rows : List RowOf) (rule : Rule) (x : ℕ) where
  abbrev may : ℕ → Bool
  may a = may_import rows rule x a

  -- may be imported, and is the first of its name in the list
  abbrev nearest : List ℕ → ℕ → Bool
  nearest xs a = is_inheritable rule (row_at rows a).local_name && (is_row (find (same_name rows a) xs) a && not (list_any (same_name rows a) (xml_attributes rows x)))

  same_itself : (a : ℕ) → same_name rows a a ≡ true
  same_itself a = (bytes_eq-Decides (row_at rows a).local_name (row_at rows a).local_name).1 refl

  nearest_first : (a : ℕ) (xs : List ℕ) → nearest (a ∷ xs) a ≡ may a
  nearest_first a xs =
      ap (λ (t : Bool). is_inheritable rule (row_at rows a).local_name && (is_row (cond t (Some a) (find (same_name rows a) xs)) a && not (list_any (same_name rows a) (xml_attributes rows x)))) (same_itself a)
      ∙ ap (λ (t : Bool). is_inheritable rule (row_at rows a).local_name && (t && not (list_any (same_name rows a) (xml_attributes rows x)))) (eq-eqb a a refl)

  nearest_other : (a b : ℕ) (xs : List ℕ) → same_name rows b a ≡ false → nearest (a ∷ xs) b ≡ nearest xs b
  nearest_other a b xs e = ap (λ (t : Bool). is_inheritable rule (row_at rows b).local_name && (is_row (cond t (Some a) (find (same_name rows b) xs)) b && not (list_any (same_name rows b) (xml_attributes rows x)))) e

  nearest_barred : (b : ℕ) (xs : List ℕ) → may b ≡ false → nearest xs b ≡ false
  nearest_barred b xs e = three (is_inheritable rule (row_at rows b).local_name) (is_row (find (same_name rows b) xs) b) (not (list_any (same_name rows b) (xml_attributes rows x))) e
    where
      three : (i r n : Bool) → (i && n) ≡ false → (i && (r && n)) ≡ false
      three false r n f = refl
      three true false n f = refl
      three true true n f = f

  name_is : (a b : ℕ) → same_name rows b a ≡ true → (row_at rows a).local_name ≡ (row_at rows b).local_name
  name_is a b e = (bytes_eq-Decides (row_at rows a).local_name (row_at rows b).local_name).0 e

  -- what may be imported is so by its name
  may_alike : (a b : ℕ) → same_name rows b a ≡ true → may b ≡ may a
  may_alike a b e = ap (λ (n : List ℕ). is_inheritable rule n && not (list_any (λ c. bytes_eq (row_at rows c).local_name n) (xml_attributes rows x))) (sym (name_is a b e))

  -- of those of one name, all may be imported or none
  level_alike : (a b : ℕ) → attribute_cmp rows a b ≡ Equal → may a ≡ may b
  level_alike a b e = may_alike b a (name_level rows a b e)

  inherited : (a : ℕ) → may a ≡ true → inherits rows rule a ≡ true
  inherited a is = (and_parts (inherits rows rule a) (not (list_any (same_name rows a) (xml_attributes rows x))) is).0

  -- what may be imported of the nearest of each name
  pub imports_of_nearest : (xml : List ℕ) → filter may (nearest_of rows rule xml) ≡ in_order rows (filter may (reverse xml))
  imports_of_nearest xml =
      filter_order rows may level_alike (filter (inherits rows rule) (reverse xml))
      ∙ ap (in_order rows) (filter_within may (inherits rows rule) inherited (reverse xml))

  level : (a b : ℕ) → is_xml rows a ≡ true → is_xml rows b ≡ true → same_name rows b a ≡ true → attribute_cmp rows a b ≡ Equal
  level a b is_a is_b e =
      level_of rows a b is_a (ap (λ (t : Bool). t && same_name rows a b) is_b ∙ (bytes_eq-Decides (row_at rows b).local_name (row_at rows a).local_name).1 (sym (name_is a b e)))

  -- in order, a list and the first ones of each name in it are the same
  first_of_name : (xs : List ℕ) → All (λ a. is_xml rows a ≡ true) xs → in_order rows (filter may xs) ≡ in_order rows (filter (nearest xs) xs)
  first_of_name [] all = refl
  first_of_name (a ∷ xs) all = go (first_of_name xs (All-tail (λ b. is_xml rows b ≡ true) a xs all)) (may a) refl
    where
      beside : (b : ℕ) → is_xml rows b ≡ true → (attribute_cmp rows a b ≡ Equal) ⊎ (nearest xs b ≡ nearest (a ∷ xs) b)
      beside b is_b = elim (cases_Bool (same_name rows b a)) [
        | inl same ↦ inl (level a b (All-head (λ c. is_xml rows c ≡ true) a xs all) is_b same)
        | inr other ↦ inr (sym (nearest_other a b xs other))
      ]

      barred : may a ≡ false → (b : ℕ) → nearest xs b ≡ nearest (a ∷ xs) b
      barred e b = elim (cases_Bool (same_name rows b a)) [
        | inl same ↦ let out = may_alike a b same ∙ e in nearest_barred b xs out ∙ sym (nearest_barred b (a ∷ xs) out)
        | inr other ↦ sym (nearest_other a b xs other)
      ]

      go : in_order rows (filter may xs) ≡ in_order rows (filter (nearest xs) xs) → (t : Bool) → may a ≡ t → in_order rows (filter may (a ∷ xs)) ≡ in_order rows (filter (nearest (a ∷ xs)) (a ∷ xs))
      go ih true e =
          ap (λ (t : Bool). in_order rows (cond t (a ∷ filter may xs) (filter may xs))) e
          ∙ ap (put_in rows a) ih
          ∙ agree rows a (nearest xs) (nearest (a ∷ xs)) xs (All-weaker (λ b. is_xml rows b ≡ true) (λ b. (attribute_cmp rows a b ≡ Equal) ⊎ (nearest xs b ≡ nearest (a ∷ xs) b)) beside xs (All-tail (λ b. is_xml rows b ≡ true) a xs all))
          ∙ sym (ap (λ (t : Bool). in_order rows (cond t (a ∷ filter (nearest (a ∷ xs)) xs) (filter (nearest (a ∷ xs)) xs))) (nearest_first a xs ∙ e))
      go ih false e =
          ap (λ (t : Bool). in_order rows (cond t (a ∷ filter may xs) (filter may xs))) e
          ∙ ih
          ∙ ap (in_order rows) (filter-same (nearest xs) (nearest (a ∷ xs)) (barred e) xs)
          ∙ sym (ap (λ (t : Bool). in_order rows (cond t (a ∷ filter (nearest (a ∷ xs)) xs) (filter (nearest (a ∷ xs)) xs))) (nearest_first a xs ∙ e))

  all_xml : (es : List ℕ) → All (λ a. is_xml rows a ≡ true) (flat_map (xml_attributes rows) es)
  all_xml [] = All-nil (λ a. is_xml rows a ≡ true)
  all_xml (e ∷ es) = All-append (λ a. is_xml rows a ≡ true) (xml_attributes rows e) (flat_map (xml_attributes rows) es) (λ (k d : ℕ) (lt : k < length (xml_attributes rows e)). filter_passes (is_xml rows) (attribute_rows rows e) k d lt) (all_xml es)

  stack_reversed : reverse (xml_at rows (parent_of rows x)) ≡ xml_above rows x
  stack_reversed = reverse-reverse (xml_above rows x)

  -- what stands on the stack is of the namespace of `xml`
  pub stack_xml : All (λ a. is_xml rows a ≡ true) (xml_at rows (parent_of rows x))
  stack_xml = All-permutation (λ a. is_xml rows a ≡ true) (xml_above rows x) (xml_at rows (parent_of rows x)) (IsPermutation-reverse (xml_above rows x)) (all_xml (above rows x))

  -- the imported ones in order, from the stack
  pub imports_in_order : (xml : List ℕ) → xml ≡ xml_at rows (parent_of rows x) → in_order rows (filter may (reverse xml)) ≡ in_order rows (imported rows rule x)
  imports_in_order xml are =
      ap (λ (xs : List ℕ). in_order rows (filter may (reverse xs))) are
      ∙ ap (λ (xs : List ℕ). in_order rows (filter may xs)) stack_reversed
      ∙ first_of_name (xml_above rows x) (all_xml (above rows x))

  -- put together in steps
  pub together : (own xml place : List ℕ) → xml ≡ xml_at rows (parent_of rows x)
      → in_order rows (in_order rows (own ++ in_order rows (filter may (reverse xml))) ++ place) ≡ in_order rows (own ++ imported rows rule x ++ place)
  together own xml place are =
      let from_above = imported rows rule x in
      order_front rows (own ++ in_order rows (filter may (reverse xml))) place
      ∙ ap (λ (l : List ℕ). in_order rows ((own ++ l) ++ place)) (imports_in_order xml are)
      ∙ ap (in_order rows) (append_assoc own (in_order rows from_above) place)
      ∙ sym (order_back rows own (in_order rows from_above ++ place))
      ∙ ap (λ (l : List ℕ). in_order rows (own ++ l)) (order_front rows from_above place)
      ∙ order_back rows own (from_above ++ place)
      ∙ ap (in_order rows) (sym (append_assoc own from_above place))

few_place : (o : Option (ℕ × List ℕ)) → length (base_place o) ≤ 1
few_place None = omega arith
few_place (Some (p, [])) = omega arith
few_place (Some (p, c ∷ cs)) = omega arith

-- the room that is asked for is enough
pub attributes_room : (rows : List RowOf) → IsWellShaped rows → (set : ℕ → Bool) (rule : Rule) (x : ℕ) → x < length rows → imports_attributes rows set rule x ≡ true
    → (joined : Option (ℕ × List ℕ)) → joined ≡ joined_base rows set rule x → (capacity : ℕ) → total (count_of rows) (upwards rows x) ≤ capacity
    → length (attribute_rows rows x) + length (xml_at rows (parent_of rows x)) + length (base_place joined) ≤ capacity
attributes_room rows w set rule x lt imports joined is capacity room = elim (cases_eq x 0) [
  | inl root ↦ absurd (false≢true (sym (no_imports root) ∙ imports))
  | inr other ↦
      let more = total-more rows w (count_of rows) x other lt in
      let xml = xml_room rows w (parent_of rows x) (total (count_of rows) (upwards rows (parent_of rows x))) (omega arith) in
      elim (cases_Bool (is_element (kind_of rows x))) [
        | inl element ↦
            let n = ap (λ (t : Bool). cond t (1 + length (namespace_rows rows x) + length (attribute_rows rows x)) 0) element in
            let few = few_place joined in
            omega arith
        | inr text ↦
            let own : length (attribute_rows rows x) ≡ 0 = ap (length {A = ℕ}) (no_attributes rows w x text) in
            let place : length (base_place joined) ≡ 0 = ap (λ o. length (base_place o)) (is ∙ none text) in
            omega arith
      ]
]
  where
    and_false : (t : Bool) → (t && false) ≡ false
    and_false true = refl
    and_false false = refl

    no_imports : x ≡ 0 → imports_attributes rows set rule x ≡ false
    no_imports root =
        let up : kind_of rows (parent_of rows x) ≡ kind_of rows 0 = ap (λ (k : ℕ). kind_of rows (parent_of rows k)) root ∙ ap (kind_of rows) w.root_parent in
        let outside : is_element (kind_of rows (parent_of rows x)) ≡ false = ap is_element (up ∙ w.root_kind) in
        ap (λ (t : Bool). is_inclusive rule && set x && t && not (set (parent_of rows x))) outside
        ∙ ap (λ (t : Bool). t) (last (is_inclusive rule) (set x))
      where
        last : (s t : Bool) → (s && t && false && not (set (parent_of rows x))) ≡ false
        last true true = refl
        last true false = refl
        last false t = refl

    none : is_element (kind_of rows x) ≡ false → joined_base rows set rule x ≡ None
    none text =
        ap (λ (t : Bool). cond (is_eleven rule && (t && (imports_attributes rows set rule x && not (is_none (omitted_bases rows set x))))) (with_bases rows None (bases rows x ++ omitted_bases rows set x)) None) text
        ∙ ap (λ (t : Bool). cond t (with_bases rows None (bases rows x ++ omitted_bases rows set x)) None) (and_false (is_eleven rule))

-- a step of the merge of two runs
module _ (rows : List RowOf) (first second : List ℕ) (first_stands : in_order rows first ≡ first) (second_stands : in_order rows second ≡ second) where
  abbrev left : ℕ → ℕ → List ℕ
  left i j = in_order rows (drop i first ++ drop j second)

  one : (xs : List ℕ) → in_order rows xs ≡ xs → (i a : ℕ) → i < length xs → a ≡ get_or xs i 0 → (drop i xs ≡ a ∷ drop (i + 1) xs) × Ascending rows (a ∷ drop (i + 1) xs)
  one xs stands i a lt is =
      let e : drop i xs ≡ a ∷ drop (i + 1) xs = at_drop_more (λ (l : List ℕ). l) xs i 0 lt ∙ ap (λ (b : ℕ). b ∷ drop (i + 1) xs) (sym is) in
      (e, subst (Ascending rows) e (drop_ascends rows i xs (stands_ascends rows xs stands)))

  module _ (i j a b : ℕ) (first_more : i < length first) (second_more : j < length second) (is_a : a ≡ get_or first i 0) (is_b : b ≡ get_or second j 0) (before whole : List ℕ) (so_far : before ++ left i j ≡ whole) where
    both : left i j ≡ in_order rows ((a ∷ drop (i + 1) first) ++ b ∷ drop (j + 1) second)
    both =
        ap (λ (l : List ℕ). in_order rows (l ++ drop j second)) (one first first_stands i a first_more is_a).0
        ∙ ap (λ (l : List ℕ). in_order rows ((a ∷ drop (i + 1) first) ++ l)) (one second second_stands j b second_more is_b).0

    first_back : (l : List ℕ) → in_order rows ((a ∷ drop (i + 1) first) ++ l) ≡ in_order rows (drop i first ++ l)
    first_back l = ap (λ (k : List ℕ). in_order rows (k ++ l)) (sym (one first first_stands i a first_more is_a).0)

    second_back : (l : List ℕ) → in_order rows (l ++ b ∷ drop (j + 1) second) ≡ in_order rows (l ++ drop j second)
    second_back l = ap (λ (k : List ℕ). in_order rows (l ++ k)) (sym (one second second_stands j b second_more is_b).0)

    pub step_less : attribute_cmp rows a b ≡ Less → (before ++ a ∷ []) ++ left (i + 1) j ≡ whole
    step_less e =
        append_assoc before (a ∷ []) (left (i + 1) j)
        ∙ ap (λ (l : List ℕ). before ++ a ∷ l) (sym (second_back (drop (i + 1) first)))
        ∙ ap (λ (l : List ℕ). before ++ l) (sym (both ∙ merge_less rows a b (drop (i + 1) first) (drop (j + 1) second) e (one first first_stands i a first_more is_a).1 (one second second_stands j b second_more is_b).1))
        ∙ so_far

    pub step_equal : attribute_cmp rows a b ≡ Equal → before ++ left i (j + 1) ≡ whole
    step_equal e =
        ap (λ (l : List ℕ). before ++ l) (sym (both ∙ merge_equal rows a b (drop (i + 1) first) (drop (j + 1) second) e (one first first_stands i a first_more is_a).1 (one second second_stands j b second_more is_b).1 ∙ first_back (drop (j + 1) second)))
        ∙ so_far

    pub step_greater : attribute_cmp rows a b ≡ Greater → (before ++ b ∷ []) ++ left i (j + 1) ≡ whole
    step_greater e =
        append_assoc before (b ∷ []) (left i (j + 1))
        ∙ ap (λ (l : List ℕ). before ++ b ∷ l) (sym (first_back (drop (j + 1) second)))
        ∙ ap (λ (l : List ℕ). before ++ l) (sym (both ∙ merge_greater rows a b (drop (i + 1) first) (drop (j + 1) second) e (one first first_stands i a first_more is_a).1 (one second second_stands j b second_more is_b).1))
        ∙ so_far

  -- where one run has come to its end, the other is left as it stands
  pub step_end : (i j : ℕ) → (i < length first → length second ≤ j) → (before whole : List ℕ) → before ++ left i j ≡ whole → (before ++ drop i first) ++ drop j second ≡ whole
  step_end i j over before whole so_far =
      append_assoc before (drop i first) (drop j second)
      ∙ ap (λ (l : List ℕ). before ++ l) (sym stands)
      ∙ so_far
    where
      stands : left i j ≡ drop i first ++ drop j second
      stands = elim (cases_lt i (length first)) [
        | inl more ↦
            let e = drop_all j second (over more) in
            ap (λ (l : List ℕ). in_order rows (drop i first ++ l)) e ∙ ap (in_order rows) (append-nil (drop i first))
            ∙ ascends_stand rows (drop i first) (drop_ascends rows i first (stands_ascends rows first first_stands))
            ∙ sym (append-nil (drop i first)) ∙ ap (λ (l : List ℕ). drop i first ++ l) (sym e)
        | inr done ↦
            let e = drop_all i first (omega arith) in
            ap (λ (l : List ℕ). in_order rows (l ++ drop j second)) e
            ∙ ascends_stand rows (drop j second) (drop_ascends rows j second (stands_ascends rows second second_stands))
            ∙ ap (λ (l : List ℕ). l ++ drop j second) (sym e)
      ]

pub few_pushed : (xs : List ℕ) (a n m : ℕ) → length xs ≤ n → n + 1 ≡ m → length (xs ++ a ∷ []) ≤ m
few_pushed xs a n m few is = let e = length-append xs (a ∷ []) in omega arith

-- two runs behind other attributes
module _ (rows : List RowOf) (old first second one two : List ℕ) (is_one : one ≡ old ++ first) (is_two : two ≡ one ++ second) where
  all_three : two ≡ old ++ (first ++ second)
  all_three = is_two ∙ ap (λ (l : List ℕ). l ++ second) is_one ∙ append_assoc old first second

  pub runs_old : take (length old) two ≡ old
  runs_old = ap (take (length old)) all_three ∙ take-append_seam old (first ++ second)

  pub runs_both : drop (length old) two ≡ first ++ second
  runs_both = ap (drop (length old)) all_three ∙ drop-append_seam old (first ++ second)

  pub runs_first : take (length one - length old) (drop (length old) two) ≡ first
  runs_first =
      let n = ap (length {A = ℕ}) is_one in let m = length-append old first in
      let e : length one - length old ≡ length first = omega arith in
      ap (take (length one - length old)) runs_both ∙ ap (λ (k : ℕ). take k (first ++ second)) e ∙ take-append_seam first second

  pub runs_second : drop (length one) two ≡ second
  runs_second = ap (drop (length one)) is_two ∙ drop-append_seam one second

-- what stands from place `start` on is the two runs
pub runs_join : (xs : List ℕ) (start middle : ℕ) → start ≤ middle → take (middle - start) (drop start xs) ++ drop middle xs ≡ drop start xs
runs_join xs start middle le =
    let e : start + (middle - start) ≡ middle = omega arith in
    ap (λ (l : List ℕ). take (middle - start) (drop start xs) ++ l) (ap (λ (k : ℕ). drop k xs) (sym e) ∙ sym (drop-drop (middle - start) start xs))
    ∙ take-append-drop (middle - start) (drop start xs)

-- the imports of both halves of a stack
pub halves : (rows : List RowOf) (rule : Rule) (x half : ℕ) (xml : List ℕ)
    → in_order rows (in_order rows (filter (may_import rows rule x) (reverse (drop half xml))) ++ in_order rows (filter (may_import rows rule x) (reverse (take half xml)))) ≡ in_order rows (filter (may_import rows rule x) (reverse xml))
halves rows rule x half xml =
    let p = may_import rows rule x in
    order_both rows (filter p (reverse (drop half xml))) (filter p (reverse (take half xml)))
    ∙ ap (in_order rows) (sym (filter-append p (reverse (drop half xml)) (reverse (take half xml))) ∙ ap (filter p) (sym (reverse-append (take half xml) (drop half xml)) ∙ ap (reverse {A = ℕ}) (take-append-drop half xml)))

-- a step of the loop over an element's own
pub own_one : (p : ℕ → Bool) (xs whole : List ℕ) (i b : ℕ) → i < b → true ≡ p i → xs ++ filter p (numbers i b) ≡ whole → (xs ++ i ∷ []) ++ filter p (numbers (i + 1) b) ≡ whole
own_one p xs whole i b lt is e =
    append_assoc xs (i ∷ []) (filter p (numbers (i + 1) b))
    ∙ ap (λ (t : Bool). xs ++ cond t (i ∷ filter p (numbers (i + 1) b)) (filter p (numbers (i + 1) b))) is
    ∙ ap (λ (ys : List ℕ). xs ++ filter p ys) (sym (numbers-more i b lt)) ∙ e

pub own_none : (p : ℕ → Bool) (xs whole : List ℕ) (i b : ℕ) → i < b → false ≡ p i → xs ++ filter p (numbers i b) ≡ whole → xs ++ filter p (numbers (i + 1) b) ≡ whole
own_none p xs whole i b lt is e =
    ap (λ (t : Bool). xs ++ cond t (i ∷ filter p (numbers (i + 1) b)) (filter p (numbers (i + 1) b))) is
    ∙ ap (λ (ys : List ℕ). xs ++ filter p ys) (sym (numbers-more i b lt)) ∙ e

pub own_end : (p : ℕ → Bool) (xs whole : List ℕ) (i b : ℕ) → b ≤ i → xs ++ filter p (numbers i b) ≡ whole → xs ≡ whole
own_end p xs whole i b le e = sym (append-nil xs) ∙ ap (λ (ys : List ℕ). xs ++ filter p ys) (sym (numbers-end i b le)) ∙ e

-- an element's own attributes stand in order
pub own_stands : (rows : List RowOf) → IsWellShaped rows → (x first fin : ℕ) → first ≤ fin → fin ≤ length rows → attribute_rows rows x ≡ range_with_len first (fin - first) → (p : ℕ → Bool) → in_order rows (filter p (range_with_len first (fin - first))) ≡ filter p (range_with_len first (fin - first))
own_stands rows w x first fin ordered within own p = ap (λ (ks : List ℕ). in_order rows (filter p ks)) (sym own) ∙ own_in_order rows w x first fin ordered within own p ∙ ap (filter p) own

-- what a merge of two runs behind other attributes asks and gives
module _ (rows : List RowOf) (old first second one two : List ℕ) (is_one : one ≡ old ++ first) (is_two : two ≡ one ++ second) (start middle : ℕ) (is_start : start ≡ length old) (is_middle : middle ≡ length one) where
  first_is : take (middle - start) (drop start two) ≡ first
  first_is =
      ap (λ (n : ℕ). take (middle - n) (drop n two)) is_start ∙ ap (λ (m : ℕ). take (m - length old) (drop (length old) two)) is_middle
      ∙ runs_first rows old first second one two is_one is_two

  second_is : drop middle two ≡ second
  second_is = ap (λ (m : ℕ). drop m two) is_middle ∙ runs_second rows old first second one two is_one is_two

  pub first_run : in_order rows first ≡ first → in_order rows (take (middle - start) (drop start two)) ≡ take (middle - start) (drop start two)
  first_run e = ap (in_order rows) first_is ∙ e ∙ sym first_is

  pub second_run : in_order rows second ≡ second → in_order rows (drop middle two) ≡ drop middle two
  second_run e = ap (in_order rows) second_is ∙ e ∙ sym second_is

  pub merged_runs : (three : List ℕ) → three ≡ take start two ++ in_order rows (drop start two) → three ≡ old ++ in_order rows (first ++ second)
  merged_runs three is =
      is
      ∙ ap (λ (n : ℕ). take n two ++ in_order rows (drop n two)) is_start
      ∙ ap (λ (l : List ℕ). l ++ in_order rows (drop (length old) two)) (runs_old rows old first second one two is_one is_two)
      ∙ ap (λ (l : List ℕ). old ++ in_order rows l) (runs_both rows old first second one two is_one is_two)

-- what two runs of a list were merged into
pub merged_into : (rows : List RowOf) (items cleared merged d d2 : List ℕ) (start middle : ℕ) → start ≤ middle → cleared ≡ [] → d ≡ items → d2 ≡ items
    → merged ≡ cleared ++ in_order rows (between start middle d ++ between middle (length d2) d2) → merged ≡ in_order rows (drop start items)
merged_into rows items cleared merged d d2 start middle le is_cleared is_d is_d2 e =
    e
    ∙ ap (λ (l : List ℕ). l ++ in_order rows (between start middle d ++ between middle (length d2) d2)) is_cleared
    ∙ ap (λ (l : List ℕ). in_order rows (between start middle l ++ between middle (length d2) d2)) is_d
    ∙ ap (λ (l : List ℕ). in_order rows (between start middle items ++ l)) (between_to_end d2 middle (length d2) (omega arith) ∙ ap (drop middle) is_d2)
    ∙ ap (in_order rows) (runs_join items start middle le)

pub few_merged : (rows : List RowOf) (items truncated merged : List ℕ) (start capacity : ℕ) → start ≤ length items → truncated ≡ take start items → merged ≡ in_order rows (drop start items) → length items ≤ capacity → length truncated + length merged ≤ capacity
few_merged rows items truncated merged start capacity le is_truncated is_merged room =
    let n = ap (length {A = ℕ}) is_truncated in let m = ap (length {A = ℕ}) is_merged in
    let k = length-take-le start items le in let l = length-drop start items in let few = few_in_order rows (drop start items) in
    omega arith

pub fit_merged : (rows : List RowOf) (items new : List ℕ) (start : ℕ) → All (λ a. a < length rows) items → new ≡ take start items ++ in_order rows (drop start items) → All (λ a. a < length rows) new
fit_merged rows items new start fit e =
    let P : ℕ → Type 0 = λ a. a < length rows in
    All-same P new (take start items ++ in_order rows (drop start items)) e
    (All-append P (take start items) (in_order rows (drop start items)) (All-take P start items fit) (all_in_order rows P (drop start items) (All-drop P start items fit)))

pub fewer_merged : (rows : List RowOf) (items new : List ℕ) (start : ℕ) → start ≤ length items → new ≡ take start items ++ in_order rows (drop start items) → length new ≤ length items
fewer_merged rows items new start le e =
    let n = ap (length {A = ℕ}) e in let m = length-append (take start items) (in_order rows (drop start items)) in
    let k = length-take-le start items le in let l = length-drop start items in let few = few_in_order rows (drop start items) in
    omega arith

pub few_own : (p : ℕ → Bool) (old new : List ℕ) (first n : ℕ) → new ≡ old ++ filter p (range_with_len first n) → length new ≤ length old + n
few_own p old new first n e =
    let k = ap (length {A = ℕ}) e in let m = length-append old (filter p (range_with_len first n)) in
    let few = few_filtered p (range_with_len first n) in let l = length-range_with_len first n in
    omega arith

-- where a joined value stands
pub place_some : (place : ℕ) (value : List ℕ) → eqb (length value) 0 ≡ false → base_place (Some (place, value)) ≡ place ∷ []
place_some place [] e = absurd (false≢true (sym e))
place_some place (c ∷ cs) e = refl

pub place_none : (place : ℕ) (value : List ℕ) → eqb (length value) 0 ≡ true → base_place (Some (place, value)) ≡ []
place_none place [] e = refl
place_none place (c ∷ cs) e = let z : length (c ∷ cs) ≡ 0 = eqb-true (length (c ∷ cs)) 0 e in absurd (omega arith)
