-- Where the rows of a tree stand among those of a document, and which of them are an element's children.
use Rattle.std.proofs.Common.{◌≡◌, ℕ, ◌+◌, ◌<◌, ◌≤◌, Bool, true, false, not, ◌&&◌, eqb, nat_lt, inl, inr, List, [], ◌∷◌, ◌++◌, length, refl, sym, ap, subst, ◌∙◌, append_assoc, append-nil, length-append, arith}
use Rattle.std.proofs.lemmas.Bool.{cases_lt, cases_eq, false≢true, and_from, eq-eqb, ne_eqb, lt-ltb}
use Rattle.xml_doc.specs.Axes.{is_child, on_axis}
use Rattle.xml_doc.specs.Kinds.{is_field}
use Rattle.xml_doc.specs.Rows.{RowOf}
use Rattle.xml_doc.specs.Searches.{passing, NonePass}
use Rattle.xml_doc.specs.Shape.{row_at, IsWellShaped}
use Rattle.xml_doc.specs.declared.axis.Axis.TheVariants.{Child}
use Rattle.xml_doc.specs.declared.row.Kind.TheVariants as kinds
use Rattle.xml_doc.proofs.AxisLemmas.{whole_axis}
use Rattle.xml_doc.proofs.Numbers.{passing-first}
use Rattle.xml_doc.proofs.SearchLemmas.{skip_front, none_between}
use Rattle.xml_doc.proofs.ShapeLemmas.{last_below}
use Rattle.xml_resolve.specs.Resolve.{NamedTag, Resolved, nothing_in, text_in, comment_in, instruction_in, element_in}
use Rattle.xml_resolve.specs.Rows.{Binding, with_all, field_rows, element_row, text_row, comment_row, instruction_row, root_row, first_bindings, rows_from, rows_of}
use Rattle.xml_resolve.proofs.EachLaws.{each_at, all_fields}
use Rattle.xml_resolve.proofs.FieldLaws.{here, next_front, one_more}
use Rattle.c14n_text.specs.Code.Rows.{last_of}
use Rattle.c14n_text.proofs.RowTree.{tree_of}
use Rattle.dsig_fields.specs.Reading.{children}
use Rattle.dsig_fields.specs.Same.{Item, told_before, items}
use Rattle.signed_info.proofs.Marks.{Mark, marks, Told, told_letters, deep}

-- the nodes stand from row n on, below row p, where these bindings are in scope
pub record Stands (rows : List RowOf) (n p : ℕ) (bs : List Binding) (k : Resolved) : Type 0 where
  pub front : List RowOf
  pub behind : List RowOf
  pub whole : rows ≡ front ++ (rows_from n p bs k ++ behind)
  pub long : length front ≡ n

-- row z is this element
pub record ElementAt (rows : List RowOf) (z : ℕ) (tag : NamedTag) (inner : Resolved) : Type 0 where
  pub parent : ℕ
  pub bindings : List Binding
  pub until : ℕ
  pub rest : Resolved
  pub stands : Stands rows z parent bindings (element_in tag inner until rest)

-- the rows of nodes without those below them
abbrev pub tops : ℕ → ℕ → List Binding → Resolved → List ℕ
tops n p bs nothing_in = []
tops n p bs (text_in w k) = n ∷ tops (n + 1) p bs k
tops n p bs (comment_in w k) = n ∷ tops (n + 1) p bs k
tops n p bs (instruction_in target w k) = n ∷ tops (n + 1) p bs k
tops n p bs (element_in tag inner until k) =
    let own = with_all bs tag.declared in
    let fields = field_rows n own tag.attributes in
    let below = rows_from (n + 1 + length fields) n own inner in
    n ∷ tops (n + 1 + length fields + length below) p bs k

-- ---- one step
module _ (rows : List RowOf) (n p : ℕ) (bs : List Binding) where
  leaf_stands : (r : RowOf) (k others : Resolved) → rows_from n p bs others ≡ r ∷ rows_from (n + 1) p bs k → Stands rows n p bs others
      → (row_at rows n ≡ r) × Stands rows (n + 1) p bs k
  leaf_stands r k others is s =
      let e : rows ≡ s.front ++ (r ∷ (rows_from (n + 1) p bs k ++ s.behind)) = s.whole ∙ ap (λ (t : List RowOf). s.front ++ (t ++ s.behind)) is in (
        here rows s.front (rows_from (n + 1) p bs k ++ s.behind) r n e s.long,
        record { front = s.front ++ r ∷ []; behind = s.behind; whole = next_front rows s.front (rows_from (n + 1) p bs k ++ s.behind) r e; long = one_more s.front r n s.long },
      )

  pub text_stands : (w : List ℕ) (k : Resolved) → Stands rows n p bs (text_in w k) → (row_at rows n ≡ text_row p n w) × Stands rows (n + 1) p bs k
  unfolding rows_from
  text_stands w k s = leaf_stands (text_row p n w) k (text_in w k) refl s

  pub comment_stands : (w : List ℕ) (k : Resolved) → Stands rows n p bs (comment_in w k) → (row_at rows n ≡ comment_row p n w) × Stands rows (n + 1) p bs k
  unfolding rows_from
  comment_stands w k s = leaf_stands (comment_row p n w) k (comment_in w k) refl s

  pub instruction_stands : (target w : List ℕ) (k : Resolved) → Stands rows n p bs (instruction_in target w k) → (row_at rows n ≡ instruction_row p n target w) × Stands rows (n + 1) p bs k
  unfolding rows_from
  instruction_stands target w k s = leaf_stands (instruction_row p n target w) k (instruction_in target w k) refl s

  module _ (tag : NamedTag) (inner : Resolved) (until : ℕ) (k : Resolved) (s : Stands rows n p bs (element_in tag inner until k)) where
    abbrev pub own : List Binding
    own = with_all bs tag.declared

    abbrev pub fields : List RowOf
    fields = field_rows n own tag.attributes

    abbrev pub first : ℕ
    first = n + 1 + length fields

    abbrev pub below : List RowOf
    below = rows_from first n own inner

    abbrev pub after : ℕ
    after = first + length below

    abbrev pub rest : List RowOf
    rest = rows_from after p bs k

    abbrev pub head : RowOf
    head = element_row p (n + length fields + length below) tag.name tag.from tag.body_from until tag.is_empty

    abbrev pub most : List RowOf
    most = s.front ++ head ∷ []

    pub split : rows ≡ most ++ (fields ++ (below ++ (rest ++ s.behind)))
    unfolding rows_from
    split = s.whole ∙ simp append_assoc refl

    pub most_long : length most ≡ n + 1
    most_long = one_more s.front head n s.long

    pub head_is : row_at rows n ≡ head
    unfolding rows_from
    head_is = here rows s.front _ head n s.whole s.long

    pub field_at : (j : ℕ) → n + 1 ≤ j → j < first → is_field (row_at rows j).kind ≡ true
    field_at j ge lt = each_at (λ r. is_field r.kind ≡ true) fields rows most (below ++ (rest ++ s.behind)) (n + 1) j (all_fields n own tag.attributes) split most_long ge lt

    pub inner_stands : Stands rows first n own inner
    inner_stands = record {
      front = most ++ fields;
      behind = rest ++ s.behind;
      whole = split ∙ sym (append_assoc most fields (below ++ (rest ++ s.behind)));
      long = omega (arith, length-append most fields, most_long);
    }

    pub rest_stands : Stands rows after p bs k
    rest_stands = record {
      front = (most ++ fields) ++ below;
      behind = s.behind;
      whole = split ∙ sym (append_assoc most fields (below ++ (rest ++ s.behind))) ∙ sym (append_assoc (most ++ fields) below (rest ++ s.behind));
      long = omega (arith, length-append (most ++ fields) below, length-append most fields, most_long);
    }

    pub size_is : n + length (rows_from n p bs (element_in tag inner until k)) ≡ after + length rest
    unfolding rows_from
    size_is = omega (arith, length-append fields (below ++ rest), length-append below rest)

    pub within : n < length rows
    within = omega (arith, ap length split, length-append most (fields ++ (below ++ (rest ++ s.behind))), most_long)

    pub last_is : (row_at rows n).last ≡ n + length fields + length below
    last_is = ap (λ (r : RowOf). r.last) head_is

    pub itself : ElementAt rows n tag inner
    itself = record { parent = p; bindings = bs; until = until; rest = k; stands = s }

-- ---- what the rows of nodes say
module _ (rows : List RowOf) where
  abbrev Row : ℕ → NamedTag → Resolved → Type 0
  Row = ElementAt rows

  told_as : (n : ℕ) (r : RowOf) (its : List Item) (ms : List Mark) → row_at rows n ≡ r → Told Row (told_before n r.kind r.value its) ms
      → Told Row (told_before n (row_at rows n).kind (row_at rows n).value its) ms
  told_as n r its ms is h = subst (λ (q : RowOf). Told Row (told_before n q.kind q.value its) ms) (sym is) h

  pub nodes_told : (k : Resolved) (n p : ℕ) (bs : List Binding) → Stands rows n p bs k → Told Row (items rows (tops n p bs k)) (marks k)
  nodes_told nothing_in n p bs s = tt
  nodes_told (text_in w k) n p bs s =
      let t = text_stands rows n p bs w k s in
      told_as n (text_row p n w) _ _ t.0 (told_letters Row w _ (marks k) (nodes_told k (n + 1) p bs t.1))
  nodes_told (comment_in w k) n p bs s =
      let t = comment_stands rows n p bs w k s in
      told_as n (comment_row p n w) _ _ t.0 (nodes_told k (n + 1) p bs t.1)
  nodes_told (instruction_in target w k) n p bs s =
      let t = instruction_stands rows n p bs target w k s in
      told_as n (instruction_row p n target w) _ _ t.0 (tt, nodes_told k (n + 1) p bs t.1)
  nodes_told (element_in tag inner until k) n p bs s =
      told_as n (head rows n p bs tag inner until k s) _ _ (head_is rows n p bs tag inner until k s)
      (itself rows n p bs tag inner until k s, nodes_told k (after rows n p bs tag inner until k s) p bs (rest_stands rows n p bs tag inner until k s))

-- ---- the children of a row
module _ (rows : List RowOf) (w : IsWellShaped rows) where
  child_is : (p j : ℕ) → 0 < j → (row_at rows j).parent ≡ p → is_field (row_at rows j).kind ≡ false → is_child rows p j ≡ true
  child_is p j pos up plain =
      and_from (nat_lt 0 j && eqb (row_at rows j).parent p) (not (is_field (row_at rows j).kind))
      (and_from (nat_lt 0 j) (eqb (row_at rows j).parent p) (lt-ltb 0 j pos) (eq-eqb (row_at rows j).parent p up)) (ap not plain)

  other_parent : (p j : ℕ) → ((row_at rows j).parent ≡ p → ⊥) → is_child rows p j ≡ false
  other_parent p j not_up = by (nat_lt 0 j) (not (is_field (row_at rows j).kind)) (ne_eqb (row_at rows j).parent p not_up)
    where
      by : (a c : Bool) → eqb (row_at rows j).parent p ≡ false → (a && eqb (row_at rows j).parent p && c) ≡ false
      by true c e = rw e refl
      by false c e = refl

  no_field_child : (p j : ℕ) → is_field (row_at rows j).kind ≡ true → is_child rows p j ≡ false
  no_field_child p j is = by (nat_lt 0 j) (eqb (row_at rows j).parent p) (is_field (row_at rows j).kind) is
    where
      by : (a b c : Bool) → c ≡ true → (a && b && not c) ≡ false
      by true true true e = refl
      by true true false e = absurd (false≢true e)
      by true false c e = refl
      by false b c e = refl

  next_passes : (q : ℕ → Bool) (n m : ℕ) (later : List ℕ) → n < m → q n ≡ true → passing q (n + 1) m ≡ later → passing q n m ≡ n ∷ later
  next_passes q n m later lt is e = passing-first q n m lt is ∙ ap (λ (t : List ℕ). n ∷ t) e

  pub tops_are : (k : Resolved) (n p : ℕ) (bs : List Binding) (m : ℕ) → p < n → Stands rows n p bs k → m ≡ n + length (rows_from n p bs k)
      → passing (is_child rows p) n m ≡ tops n p bs k
  unfolding rows_from
  tops_are nothing_in n p bs m lt s e = none_between (is_child rows p) n m (λ z ge less. absurd (omega (arith, ge, less, e)))
  tops_are (text_in v k) n p bs m lt s e =
      let t = text_stands rows n p bs v k s in
      next_passes (is_child rows p) n m _ (omega (arith, e)) (child_is p n (omega (arith, lt)) (ap (λ (r : RowOf). r.parent) t.0) (ap (λ (r : RowOf). is_field r.kind) t.0))
      (tops_are k (n + 1) p bs m (omega (arith, lt)) t.1 (omega (arith, e)))
  tops_are (comment_in v k) n p bs m lt s e =
      let t = comment_stands rows n p bs v k s in
      next_passes (is_child rows p) n m _ (omega (arith, e)) (child_is p n (omega (arith, lt)) (ap (λ (r : RowOf). r.parent) t.0) (ap (λ (r : RowOf). is_field r.kind) t.0))
      (tops_are k (n + 1) p bs m (omega (arith, lt)) t.1 (omega (arith, e)))
  tops_are (instruction_in target v k) n p bs m lt s e =
      let t = instruction_stands rows n p bs target v k s in
      next_passes (is_child rows p) n m _ (omega (arith, e)) (child_is p n (omega (arith, lt)) (ap (λ (r : RowOf). r.parent) t.0) (ap (λ (r : RowOf). is_field r.kind) t.0))
      (tops_are k (n + 1) p bs m (omega (arith, lt)) t.1 (omega (arith, e)))
  tops_are (element_in tag inner until k) n p bs m lt s e =
      let t = head_is rows n p bs tag inner until k s in
      let size = size_is rows n p bs tag inner until k s in
      let behind = after rows n p bs tag inner until k s in
      let last = last_is rows n p bs tag inner until k s in
      let there = within rows n p bs tag inner until k s in
      let end = last_below rows w n there in
      next_passes (is_child rows p) n m _ (omega (arith, e)) (child_is p n (omega (arith, lt)) (ap (λ (r : RowOf). r.parent) t) (ap (λ (r : RowOf). is_field r.kind) t))
      (skip_front (is_child rows p) (n + 1) behind m (omega arith)
      (λ j ge less. other_parent p j (λ up.
      let deep_in = (tree_of rows w).below n j (omega (arith, ge)) (omega (arith, less, last, end)) (omega (arith, less, last)) in absurd (omega (arith, up, deep_in, lt))))
      ∙ tops_are k behind p bs m (omega (arith, lt)) (rest_stands rows n p bs tag inner until k s) (e ∙ size))

  module _ (z : ℕ) (tag : NamedTag) (inner : Resolved) (at : ElementAt rows z tag inner) where
    abbrev pub inner_bindings : List Binding
    inner_bindings = own rows z at.parent at.bindings tag inner at.until at.rest at.stands

    abbrev pub from : ℕ
    from = first rows z at.parent at.bindings tag inner at.until at.rest at.stands

    abbrev to : ℕ
    to = after rows z at.parent at.bindings tag inner at.until at.rest at.stands

    none_before : NonePass (is_child rows z) 0 from
    none_before j ge less = elim (cases_lt z j) [
      | inl later ↦ no_field_child z j (field_at rows z at.parent at.bindings tag inner at.until at.rest at.stands j (omega (arith, later)) less)
      | inr le ↦ elim (cases_eq j 0) [
        | inl root ↦ ap (λ (b : Bool). b && eqb (row_at rows j).parent z && not (is_field (row_at rows j).kind)) (ap (nat_lt 0) root)
        | inr some ↦
            let there = within rows z at.parent at.bindings tag inner at.until at.rest at.stands in
            let up = w.nesting.parent_before j (omega (arith, some)) (omega (arith, le, there)) in
            other_parent z j (λ is. absurd (omega (arith, is, up, le)))
      ]
    ]

    none_behind : NonePass (is_child rows z) to (length rows)
    none_behind j ge less =
        other_parent z j (λ is.
        let reach = w.nesting.last_from j less in
        let nested = w.nesting.last_within j less in
        let same : (row_at rows (row_at rows j).parent).last ≡ (row_at rows z).last = ap (last_of rows) is in
        let last = last_is rows z at.parent at.bindings tag inner at.until at.rest at.stands in
        absurd (omega (arith, reach, nested, same, last, ge)))

    to_within : to ≤ length rows
    to_within =
        let there = within rows z at.parent at.bindings tag inner at.until at.rest at.stands in
        let last = last_is rows z at.parent at.bindings tag inner at.until at.rest at.stands in
        let end = last_below rows w z there in
        omega (arith, last, end)

    pub children_are : children rows z ≡ tops from z inner_bindings inner
    children_are =
        sym (whole_axis Child (on_axis Child rows z) from to (length rows) none_before none_behind to_within)
        ∙ tops_are inner from z inner_bindings to (omega arith) (inner_stands rows z at.parent at.bindings tag inner at.until at.rest at.stands) refl

    pub children_told : Told (ElementAt rows) (items rows (children rows z)) (marks inner)
    children_told = subst (λ (ys : List ℕ). Told (ElementAt rows) (items rows ys) (marks inner)) (sym children_are)
        (nodes_told rows inner from z inner_bindings (inner_stands rows z at.parent at.bindings tag inner at.until at.rest at.stands))

    pub element_row_is : row_at rows z ≡ head rows z at.parent at.bindings tag inner at.until at.rest at.stands
    element_row_is = head_is rows z at.parent at.bindings tag inner at.until at.rest at.stands

    pub element_within : z < length rows
    element_within = within rows z at.parent at.bindings tag inner at.until at.rest at.stands

-- ---- each element stands somewhere
module _ (rows : List RowOf) where
  pub element_found : (k : Resolved) (n p : ℕ) (bs : List Binding) (x : ℕ) → Stands rows n p bs k → n ≤ x → x < n + length (rows_from n p bs k) → (row_at rows x).kind ≡ kinds.Element
      → (tag : NamedTag) × (inner : Resolved) × ElementAt rows x tag inner × (deep inner + 1 ≤ deep k)
  unfolding rows_from
  element_found nothing_in n p bs x s ge lt is = absurd (omega (arith, ge, lt))
  element_found (text_in w k) n p bs x s ge lt is =
      let t = text_stands rows n p bs w k s in
      elim (cases_eq x n) [
        | inl e ↦ absurd (let no : kinds.Text ≡ kinds.Element = sym (ap (λ (r : RowOf). r.kind) (ap (row_at rows) e ∙ t.0)) ∙ is in cc)
        | inr ne ↦ element_found k (n + 1) p bs x t.1 (omega (arith, ge, ne)) (omega (arith, lt)) is
      ]
  element_found (comment_in w k) n p bs x s ge lt is =
      let t = comment_stands rows n p bs w k s in
      elim (cases_eq x n) [
        | inl e ↦ absurd (let no : kinds.Comment ≡ kinds.Element = sym (ap (λ (r : RowOf). r.kind) (ap (row_at rows) e ∙ t.0)) ∙ is in cc)
        | inr ne ↦ element_found k (n + 1) p bs x t.1 (omega (arith, ge, ne)) (omega (arith, lt)) is
      ]
  element_found (instruction_in target w k) n p bs x s ge lt is =
      let t = instruction_stands rows n p bs target w k s in
      elim (cases_eq x n) [
        | inl e ↦ absurd (let no : kinds.Instruction ≡ kinds.Element = sym (ap (λ (r : RowOf). r.kind) (ap (row_at rows) e ∙ t.0)) ∙ is in cc)
        | inr ne ↦ element_found k (n + 1) p bs x t.1 (omega (arith, ge, ne)) (omega (arith, lt)) is
      ]
  element_found (element_in tag inner until k) n p bs x s ge lt is =
      let size = size_is rows n p bs tag inner until k s in
      elim (cases_eq x n) [
        | inl e ↦ (tag, inner, subst (λ (q : ℕ). ElementAt rows q tag inner) (sym e) (itself rows n p bs tag inner until k s), omega arith)
        | inr ne ↦ elim (cases_lt x (first rows n p bs tag inner until k s)) [
          | inl early ↦ absurd (false≢true (ap is_field (sym is) ∙ field_at rows n p bs tag inner until k s x (omega (arith, ge, ne)) early))
          | inr late ↦ elim (cases_lt x (after rows n p bs tag inner until k s)) [
            | inl inside ↦
                let f = element_found inner (first rows n p bs tag inner until k s) n (own rows n p bs tag inner until k s) x (inner_stands rows n p bs tag inner until k s) late inside is in
                (f.0, f.1, f.2, omega (arith, f.3))
            | inr behind ↦
                let f = element_found k (after rows n p bs tag inner until k s) p bs x (rest_stands rows n p bs tag inner until k s) behind (omega (arith, lt, size)) is in
                (f.0, f.1, f.2, omega (arith, f.3))
          ]
        ]
      ]

-- ---- no field stands among nodes
module _ (rows : List RowOf) (w : IsWellShaped rows) where
  pub no_fields : (k : Resolved) (n p : ℕ) (bs : List Binding) (j : ℕ) → p < n → Stands rows n p bs k → n ≤ j → j < n + length (rows_from n p bs k) → (row_at rows j).parent ≡ p
      → is_field (row_at rows j).kind ≡ false
  unfolding rows_from
  no_fields nothing_in n p bs j above s ge lt up = absurd (omega (arith, ge, lt))
  no_fields (text_in v k) n p bs j above s ge lt up =
      let t = text_stands rows n p bs v k s in
      elim (cases_eq j n) [
        | inl e ↦ ap (λ (r : RowOf). is_field r.kind) (ap (row_at rows) e ∙ t.0)
        | inr ne ↦ no_fields k (n + 1) p bs j (omega (arith, above)) t.1 (omega (arith, ge, ne)) (omega (arith, lt)) up
      ]
  no_fields (comment_in v k) n p bs j above s ge lt up =
      let t = comment_stands rows n p bs v k s in
      elim (cases_eq j n) [
        | inl e ↦ ap (λ (r : RowOf). is_field r.kind) (ap (row_at rows) e ∙ t.0)
        | inr ne ↦ no_fields k (n + 1) p bs j (omega (arith, above)) t.1 (omega (arith, ge, ne)) (omega (arith, lt)) up
      ]
  no_fields (instruction_in target v k) n p bs j above s ge lt up =
      let t = instruction_stands rows n p bs target v k s in
      elim (cases_eq j n) [
        | inl e ↦ ap (λ (r : RowOf). is_field r.kind) (ap (row_at rows) e ∙ t.0)
        | inr ne ↦ no_fields k (n + 1) p bs j (omega (arith, above)) t.1 (omega (arith, ge, ne)) (omega (arith, lt)) up
      ]
  no_fields (element_in tag inner until k) n p bs j above s ge lt up =
      let size = size_is rows n p bs tag inner until k s in
      let behind = after rows n p bs tag inner until k s in
      let last = last_is rows n p bs tag inner until k s in
      let there = within rows n p bs tag inner until k s in
      let end = last_below rows w n there in
      elim (cases_eq j n) [
        | inl e ↦ ap (λ (r : RowOf). is_field r.kind) (ap (row_at rows) e ∙ head_is rows n p bs tag inner until k s)
        | inr ne ↦ elim (cases_lt j behind) [
          | inl inside ↦
              let deep_in = (tree_of rows w).below n j (omega (arith, ge, ne)) (omega (arith, inside, last, end)) (omega (arith, inside, last)) in
              absurd (omega (arith, up, deep_in, above))
          | inr later ↦ no_fields k behind p bs j (omega (arith, above)) (rest_stands rows n p bs tag inner until k s) later (omega (arith, lt, size)) up
        ]
      ]

pub tree_stands : (t : Resolved) → Stands (rows_of t) 1 0 first_bindings t
unfolding rows_of
tree_stands t =
    let X = rows_from 1 0 first_bindings t in
    record { front = root_row (length X) ∷ []; behind = []; whole = ap (λ (r : List RowOf). root_row (length X) ∷ r) (sym (append-nil X)); long = refl }
