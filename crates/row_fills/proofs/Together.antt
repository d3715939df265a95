-- Two documents that begin alike, in front of whose difference one element gets the same text.
use Rattle.std.proofs.Common.{◌≡◌, ℕ, suc, ◌+◌, ◌-◌, ◌<◌, ◌≤◌, ◌&&◌, Bool, true, ◌⊎◌, inl, inr, List, [], ◌∷◌, ◌++◌, length, sym, ap, subst, ◌∙◌, arith}
use Rattle.std.specs.Prelude.{bytes_eq}
use Rattle.std.proofs.lemmas.Bool.{cases_lt, and_parts, false≢true}
use Rattle.std.proofs.lemmas.Slice.Eq.{bytes_eq-Decides}
use Rattle.xml_doc.specs.Fits.{fields_fit, leaves_out, is_untagged}
use Rattle.xml_doc.specs.Kinds.{is_field, is_inner}
use Rattle.xml_doc.specs.Rows.{RowOf}
use Rattle.xml_doc.specs.Shape.{row_at, IsWellShaped}
use Rattle.xml_doc.specs.declared.row.Kind.TheVariants.{Element, Text}
use Rattle.xml_doc.proofs.ShapeLemmas.{leaf_last}
use Rattle.row_spans.specs.Alike.{renumbered, IsAlike, IsTextOf, IsRefilled}
use Rattle.xml_read.specs.Spelled.{Spells}
use Rattle.row_spans.proofs.Read.{read_rows}
use Rattle.canon_local.specs.Begin.{IsSameNode, BeginAlike}
use Rattle.row_spans.proofs.Within.{within_at}
use Rattle.row_spans.specs.RowSpans.{refilled}
use Rattle.row_spans.specs.TextAlone.{HasTextAlone}
use Rattle.row_fills.specs.Fillings.{Filling, CanFill, CanFillAll, EndTogether, AllStand, AreFilledAlike, Stands, first_of, filling, filled_in}
use Rattle.row_fills.proofs.Lasts as lasts
use Rattle.row_fills.proofs.Several.{passed, step, last_step}
use Rattle.row_fills.proofs.Texts.{back_of, front_long, front_of, later, refilled_parts, stands_behind}

abbrev pub EndAlike : ℕ → List RowOf → List RowOf → Type 0
EndAlike m rows others = (k : ℕ) → k < m → EndTogether m (row_at rows k).last (row_at others k).last

-- a text has no name
record IsNameless (r : RowOf) : Type 0 where
  prefix_text : r.prefix_text ≡ []
  local_name : r.local_name ≡ []
  uri : r.uri ≡ []

nameless : (r : RowOf) → r.kind ≡ Text → fields_fit r ≡ true → IsNameless r
nameless r e fit =
    let fits : leaves_out Text r ≡ true = ap (λ k. leaves_out k r) (sym e) ∙ fit in
    let one = and_parts (bytes_eq r.prefix_text [] && bytes_eq r.uri [] && bytes_eq r.local_name []) (is_untagged r) (regroup (bytes_eq r.prefix_text [] && bytes_eq r.uri []) (bytes_eq r.local_name []) (is_untagged r) fits) in
    let two = and_parts (bytes_eq r.prefix_text [] && bytes_eq r.uri []) (bytes_eq r.local_name []) one.0 in
    let three = and_parts (bytes_eq r.prefix_text []) (bytes_eq r.uri []) two.0 in
    record { prefix_text = (bytes_eq-Decides r.prefix_text []).0 three.0; local_name = (bytes_eq-Decides r.local_name []).0 two.1; uri = (bytes_eq-Decides r.uri []).0 three.1 }
  where
    regroup : (a b c : Bool) → (a && b && c) ≡ true → ((a && b) && c) ≡ true
    regroup a b c h = h

module _ (octets octets' : List ℕ) (rows rows' : List RowOf) (i : ℕ) (w : List ℕ) (r : IsRefilled octets rows i w) (r' : IsRefilled octets' rows' i w)
    (shape : IsWellShaped rows) (shape' : IsWellShaped rows') (now : IsWellShaped r.others) (now' : IsWellShaped r'.others)
    (m : ℕ) (begins : BeginAlike m rows rows') (ends : EndAlike m rows rows') (less : i < m) (stops : (row_at rows i).last < m) (same : row_at rows' i ≡ row_at rows i) where
  old_same : r'.old ≡ r.old
  old_same = r'.ends ∙ ap (λ (t : RowOf). t.last + 1) same ∙ sym r.ends

  old_low : r.old ≤ m
  old_low = omega (arith, r.ends, stops)

  below_same : r'.below ≡ r.below
  below_same = elim (cases_lt r.below r'.below) [
    | inl short ↦ absurd (not_both r.below
        ((begins.same r.below (omega (arith, short, r'.starts, old_same, old_low))).kind)
        (r.stood r.below (omega arith) (omega (arith, short, r'.starts, old_same))).kind
        (r'.own r.below r.inside short))
    | inr le ↦ elim (cases_lt r'.below r.below) [
      | inl short ↦ absurd (not_both' r'.below
          ((begins.same r'.below (omega (arith, short, r.starts, old_low))).kind)
          (r'.stood r'.below (omega arith) (omega (arith, short, r.starts, old_same))).kind
          (r.own r'.below r'.inside short))
      | inr ge ↦ omega (arith, le, ge)
    ]
  ]
    where
      not_both : (k : ℕ) → (row_at rows' k).kind ≡ (row_at rows k).kind → (row_at rows k).kind ≡ Text → is_field (row_at rows' k).kind ≡ true → ⊥
      not_both k e text field = false≢true (sym (ap is_field (e ∙ text)) ∙ field)

      not_both' : (k : ℕ) → (row_at rows' k).kind ≡ (row_at rows k).kind → (row_at rows' k).kind ≡ Text → is_field (row_at rows k).kind ≡ true → ⊥
      not_both' k e text field = false≢true (sym (ap is_field (sym e ∙ text)) ∙ field)

  new_same : r'.new ≡ r.new
  new_same = omega (arith, r'.grows, r.grows, below_same)

  abbrev f : ℕ → ℕ
  f = renumbered r.old r.new

  pub numbers_same : (k : ℕ) → renumbered r'.old r'.new k ≡ f k
  numbers_same k = ap (λ o. renumbered o r'.new k) old_same ∙ ap (λ n. renumbered r.old n k) new_same

  abbrev mark : ℕ
  mark = f m

  mark_is : mark ≡ (m + r.new) - r.old
  mark_is = lasts.moves octets rows i w r shape now m old_low

  longer : r.below ≤ r.new
  longer = lasts.longer octets rows i w r shape now

  at_mark : (rows : List RowOf) → IsWellShaped rows → (x : ℕ) → x < length rows → (row_at rows x).kind ≡ Text → (row_at rows x).last ≡ x
  at_mark rows w x lt e = leaf_last rows w x lt (ap is_inner e)

  alike_nodes : (k : ℕ) (s s' : RowOf) → k < m → IsAlike f r.below (row_at rows k) s → IsAlike f r.below (row_at rows' k) s' → IsSameNode s s'
  alike_nodes k s s' lt a b =
      let e = begins.same k lt in
      record {
        kind = b.kind ∙ e.kind ∙ sym a.kind;
        parent = b.parent ∙ ap f e.parent ∙ sym a.parent;
        prefix_text = b.prefix_text ∙ e.prefix_text ∙ sym a.prefix_text;
        local_name = b.local_name ∙ e.local_name ∙ sym a.local_name;
        uri = b.uri ∙ e.uri ∙ sym a.uri;
        value = b.value ∙ e.value ∙ sym a.value;
      }

  before' : (k : ℕ) → k < r.below → IsAlike f r.below (row_at rows' k) (row_at r'.others k)
  before' k lt =
      let P : ℕ → Type 0 = λ o. IsAlike (renumbered o r.new) r.below (row_at rows' k) (row_at r'.others k) in
      let Q : ℕ → Type 0 = λ n. IsAlike (renumbered r'.old n) r.below (row_at rows' k) (row_at r'.others k) in
      let R : ℕ → Type 0 = λ b. IsAlike (renumbered r'.old r'.new) b (row_at rows' k) (row_at r'.others k) in
      subst P old_same (subst Q new_same (subst R below_same (r'.alike.before k (omega (arith, lt, below_same)))))

  behind' : (k : ℕ) → r.old ≤ k → k < length rows' → IsAlike f r.below (row_at rows' k) (row_at r'.others (f k))
  behind' k le lt =
      let P : ℕ → Type 0 = λ o. IsAlike (renumbered o r.new) r.below (row_at rows' k) (row_at r'.others (renumbered o r.new k)) in
      let Q : ℕ → Type 0 = λ n. IsAlike (renumbered r'.old n) r.below (row_at rows' k) (row_at r'.others (renumbered r'.old n k)) in
      let R : ℕ → Type 0 = λ b. IsAlike (renumbered r'.old r'.new) b (row_at rows' k) (row_at r'.others (renumbered r'.old r'.new k)) in
      subst P old_same (subst Q new_same (subst R below_same (r'.alike.behind k (omega (arith, le, old_same)) lt)))

  -- where a row in front of the mark comes from
  record Came (x : ℕ) : Type 0 where
    from : ℕ
    here : f from ≡ x
    after : r.old ≤ from
    low : from < m

  places : (x : ℕ) → x < mark → (x < r.below) ⊎ (((r.below ≤ x) × (x < r.new)) ⊎ Came x)
  places x lt = elim (cases_lt x r.below) [
    | inl front ↦ inl front
    | inr past ↦ elim (cases_lt x r.new) [
      | inl text ↦ inr (inl (past, text))
      | inr far ↦
          let k : ℕ = (x + r.old) - r.new in
          let from : r.old ≤ k = omega (arith, far) in
          inr (inr (record { from = k; here = lasts.moves octets rows i w r shape now k from ∙ omega (arith, far); after = from; low = omega (arith, far, lt, mark_is, old_low) }))
    ]
  ]

  there : (x : ℕ) → x < mark → x < length r.others
  there x lt = let count = r.alike.count in let there = begins.there in omega (arith, lt, mark_is, count, there, old_low)

  there' : (x : ℕ) → x < mark → x < length r'.others
  there' x lt = let count = r'.alike.count in let there = begins.there_too in omega (arith, lt, mark_is, count, there, old_low, old_same, new_same)

  fresh : (x : ℕ) → r.below ≤ x → x < r.new → IsTextOf r.others x i w
  fresh x ge lt = (lasts.fresh octets rows i w r shape now x ge lt).1

  fresh' : (x : ℕ) → r.below ≤ x → x < r.new → IsTextOf r'.others x i w
  fresh' x ge lt = (lasts.fresh octets' rows' i w r' shape' now' x (omega (arith, ge, below_same)) (omega (arith, lt, new_same))).1

  same_text : (x : ℕ) → x < mark → r.below ≤ x → x < r.new → IsSameNode (row_at r.others x) (row_at r'.others x)
  same_text x low ge lt =
      let one = fresh x ge lt in
      let two = fresh' x ge lt in
      let a = nameless (row_at r.others x) one.kind (now.fit x (there x low)) in
      let b = nameless (row_at r'.others x) two.kind (now'.fit x (there' x low)) in
      record {
        kind = two.kind ∙ sym one.kind;
        parent = two.parent ∙ sym one.parent;
        prefix_text = b.prefix_text ∙ sym a.prefix_text;
        local_name = b.local_name ∙ sym a.local_name;
        uri = b.uri ∙ sym a.uri;
        value = two.value ∙ sym one.value;
      }

  same_nodes : (x : ℕ) → x < mark → IsSameNode (row_at r.others x) (row_at r'.others x)
  same_nodes x lt = elim (places x lt) [
    | inl front ↦ alike_nodes x (row_at r.others x) (row_at r'.others x) (omega (arith, front, r.starts, old_low)) (r.alike.before x front) (before' x front)
    | inr more ↦ elim more [
      | inl text ↦ same_text x lt text.0 text.1
      | inr came ↦
          subst (λ n. IsSameNode (row_at r.others n) (row_at r'.others n)) came.here
          (alike_nodes came.from (row_at r.others (f came.from)) (row_at r'.others (f came.from)) came.low (r.alike.behind came.from came.after (omega (arith, came.low, begins.there))) (behind' came.from came.after (omega (arith, came.low, begins.there_too))))
    ]
  ]

  pub begin_again : BeginAlike mark r.others r'.others
  begin_again = record {
    there = let count = r.alike.count in let t = begins.there in omega (arith, mark_is, count, t, old_low);
    element = (r.alike.behind m old_low begins.there).kind ∙ begins.element;
    there_too = let count = r'.alike.count in let t = begins.there_too in omega (arith, mark_is, count, t, old_low, old_same, new_same);
    element_too = (behind' m old_low begins.there_too).kind ∙ begins.element_too;
    same = same_nodes;
  }

  -- ---- where subtrees end
  -- the row behind a subtree moves as the mark does
  moved_ends : (a b s t : ℕ) → r.old ≤ a + 1 → EndTogether m a b → s + 1 ≡ f (a + 1) → t + 1 ≡ f (b + 1) → EndTogether mark s t
  moved_ends a b s t far (inl both) e g =
      let same_end : s ≡ t = let h : s + 1 ≡ t + 1 = e ∙ ap (λ n. f (n + 1)) (sym both.1) ∙ sym g in omega (arith, h) in
      let k = lasts.moves octets rows i w r shape now (a + 1) far in
      inl (omega (arith, e, k, mark_is, both.0, far), sym same_end)
  moved_ends a b s t far (inr past) e g =
      let k = lasts.moves octets rows i w r shape now (a + 1) (omega (arith, past.0, old_low)) in
      let l = lasts.moves octets rows i w r shape now (b + 1) (omega (arith, past.1, old_low)) in
      inr (omega (arith, e, k, mark_is, past.0, old_low), omega (arith, g, l, mark_is, past.1, old_low))

  still_ends : (a b s t : ℕ) → EndTogether m a b → a < r.old → b < r.old → a < mark → s ≡ a → t ≡ b → EndTogether mark s t
  still_ends a b s t (inl both) la lb low e g = inl (omega (arith, e, low), g ∙ both.1 ∙ sym e)
  still_ends a b s t (inr past) la lb low e g = absurd (omega (arith, past.0, la, old_low))

  below_mark : (a : ℕ) → a < r.below → a < mark
  below_mark a lt = omega (arith, lt, mark_is, old_low, longer, r.starts)

  front_ends : (k : ℕ) → k < r.below → EndTogether mark (row_at r.others k).last (row_at r'.others k).last
  front_ends k lt =
      let both = ends k (omega (arith, lt, r.starts, old_low)) in
      let inside_rows : k < length rows = omega (arith, lt, r.starts, r.alike.enough) in
      let inside_rows' : k < length rows' = omega (arith, lt, r.starts, r'.alike.enough, old_same) in
      elim (cases_lt i k) [
        | inl own ↦
            let e = lasts.outside octets rows i w r shape now k lt (inl own) in
            let g = lasts.outside octets' rows' i w r' shape' now' k (omega (arith, lt, below_same)) (inl own) in
            let field = r.own k own lt in
            let leaf = leaf_last rows shape k inside_rows (lasts.no_inner (row_at rows k).kind field) in
            let leaf' = leaf_last rows' shape' k inside_rows' (lasts.no_inner (row_at rows' k).kind (r'.own k own (omega (arith, lt, below_same)))) in
            still_ends (row_at rows k).last (row_at rows' k).last (row_at r.others k).last (row_at r'.others k).last both (omega (arith, leaf, lt, r.starts)) (omega (arith, leaf', lt, r.starts)) (omega (arith, leaf, below_mark k lt)) e g
        | inr le ↦ elim (cases_lt (row_at rows k).last i) [
          | inl ended ↦ front_ended k lt both ended
          | inr in_it ↦
              let e = lasts.inside octets rows i w r shape now k le in_it in
              let g = lasts.inside octets' rows' i w r' shape' now' k le (in_it' k both in_it) in
              let over = lasts.nested rows shape (suc i) i k (omega arith) (omega (arith, r.inside, r.starts, r.alike.enough)) le in_it in
              moved_ends (row_at rows k).last (row_at rows' k).last (row_at r.others k).last (row_at r'.others k).last (omega (arith, over, r.ends)) both e (g ∙ numbers_same ((row_at rows' k).last + 1))
        ]
      ]
    where
      in_it' : (k : ℕ) → EndTogether m (row_at rows k).last (row_at rows' k).last → i ≤ (row_at rows k).last → i ≤ (row_at rows' k).last
      in_it' k (inl both) le = omega (arith, both.1, le)
      in_it' k (inr past) le = omega (arith, past.1, less)

      front_ended : (k : ℕ) → k < r.below → EndTogether m (row_at rows k).last (row_at rows' k).last → (row_at rows k).last < i → EndTogether mark (row_at r.others k).last (row_at r'.others k).last
      front_ended k lt (inl both) ended =
          let e = lasts.outside octets rows i w r shape now k lt (inr ended) in
          let g = lasts.outside octets' rows' i w r' shape' now' k (omega (arith, lt, below_same)) (inr (omega (arith, ended, both.1))) in
          inl (omega (arith, e, below_mark (row_at rows k).last (omega (arith, ended, r.inside))), g ∙ both.1 ∙ sym e)
      front_ended k lt (inr past) ended = absurd (omega (arith, past.0, ended, less))

  text_ends : (x : ℕ) → x < mark → r.below ≤ x → x < r.new → EndTogether mark (row_at r.others x).last (row_at r'.others x).last
  text_ends x low ge lt =
      let e = at_mark r.others now x (there x low) (fresh x ge lt).kind in
      let g = at_mark r'.others now' x (there' x low) (fresh' x ge lt).kind in
      inl (omega (arith, e, low), g ∙ sym e)

  came_ends : (x : ℕ) → Came x → EndTogether mark (row_at r.others x).last (row_at r'.others x).last
  came_ends x came =
      let k = came.from in
      let e = lasts.behind octets rows i w r shape now k came.after (omega (arith, came.low, begins.there)) in
      let g = lasts.behind octets' rows' i w r' shape' now' k (omega (arith, came.after, old_same)) (omega (arith, came.low, begins.there_too)) in
      let g' : (row_at r'.others (f k)).last + 1 ≡ f ((row_at rows' k).last + 1) = ap (λ n. (row_at r'.others n).last + 1) (sym (numbers_same k)) ∙ g ∙ numbers_same ((row_at rows' k).last + 1) in
      subst (λ n. EndTogether mark (row_at r.others n).last (row_at r'.others n).last) came.here
      (moved_ends (row_at rows k).last (row_at rows' k).last (row_at r.others (f k)).last (row_at r'.others (f k)).last (omega (arith, shape.nesting.last_from k (omega (arith, came.low, begins.there)), came.after)) (ends k came.low) e g')

  pub end_again : EndAlike mark r.others r'.others
  end_again x lt = elim (places x lt) [ inl front ↦ front_ends x front | inr more ↦ elim more [ inl text ↦ text_ends x lt text.0 text.1 | inr came ↦ came_ends x came ] ]

-- ---- all of them

same_nodes_then : (m : ℕ) (rows one other : List RowOf) → BeginAlike m rows one → BeginAlike m rows other → BeginAlike m one other
same_nodes_then m rows one other a b = record {
  there = a.there_too;
  element = a.element_too;
  there_too = b.there_too;
  element_too = b.element_too;
  same = λ k lt.
      let p = a.same k lt in
      let q = b.same k lt in
      record { kind = q.kind ∙ sym p.kind; parent = q.parent ∙ sym p.parent; prefix_text = q.prefix_text ∙ sym p.prefix_text; local_name = q.local_name ∙ sym p.local_name; uri = q.uri ∙ sym p.uri; value = q.value ∙ sym p.value };
}

-- the last element, with either text
module _ (octets : List ℕ) (rows : List RowOf) (i : ℕ) (w w' : List ℕ) (r : IsRefilled octets rows i w) (r' : IsRefilled octets rows i w') (shape : IsWellShaped rows) (now : IsWellShaped r.others) (now' : IsWellShaped r'.others) where
  late : (v : List ℕ) (s : IsRefilled octets rows i v) (now : IsWellShaped s.others) (k : ℕ) → k < i → i ≤ (row_at rows k).last → i ≤ (row_at s.others k).last
  late v s now k lt le =
      let e = lasts.inside octets rows i v s shape now k (omega (arith, lt)) le in
      let over = lasts.nested rows shape (suc i) i k (omega arith) (omega (arith, s.inside, s.starts, s.alike.enough)) (omega (arith, lt)) le in
      let go = lasts.moves octets rows i v s shape now ((row_at rows k).last + 1) (omega (arith, over, s.ends)) in
      omega (arith, e, go, over, s.ends, s.inside, lasts.longer octets rows i v s shape now)

  pub last_ends : EndAlike i r.others r'.others
  last_ends k lt = elim (cases_lt (row_at rows k).last i) [
    | inl ended ↦
        let e = r.same k lt ended in
        let g = r'.same k lt ended in
        inl (omega (arith, ended, ap (λ (t : RowOf). t.last) e), ap (λ (t : RowOf). t.last) (g ∙ sym e))
    | inr in_it ↦ inr (late w r now k lt in_it, late w' r' now' k lt in_it)
  ]

pub last_stands : (octets : List ℕ) (rows : List RowOf) (number : ℕ → ℕ) (from : ℕ) (fs : List Filling) (w : Filling) → AllStand octets rows number from (fs ++ w ∷ []) → Stands octets rows (number w.row) w.text
last_stands octets rows number from [] w all = all.1
last_stands octets rows number from (g ∷ fs) w all = last_stands octets rows number (number g.row + 1) fs w all.2

-- the last one, with either text
last_pair : (octets : List ℕ) (rows : List RowOf) (spells : Spells octets rows) (row : ℕ) (t o t' o' : List ℕ) → CanFill rows (filling row t o) → CanFill rows (filling row t' o')
    → AreFilledAlike octets rows row [] (filling row t o) (filling row t' o')
last_pair octets rows spells row t o t' o' can can' =
    let a = last_step octets rows spells (filling row t o) can in
    let b = last_step octets rows spells (filling row t' o') can' in
    let shape = (read_rows octets rows spells).shape in
    let ends : EndAlike row a.refilled.others b.refilled.others = last_ends octets rows row t t' a.refilled b.refilled shape a.other_shape b.other_shape in
    record {
      one = a.all;
      other = b.all;
      mark = row;
      far = omega arith;
      in_one = a.numbers row ∙ lasts.stays octets rows row t a.refilled shape a.other_shape row (omega (arith, a.refilled.inside, a.refilled.starts));
      in_other = b.numbers row ∙ lasts.stays octets rows row t' b.refilled shape b.other_shape row (omega (arith, b.refilled.inside, b.refilled.starts));
      begins = same_nodes_then row rows a.all.others b.all.others a.all.begins b.all.begins;
      ends = subst (λ x. EndAlike row x b.all.others) (sym a.rows_are) (subst (λ y. EndAlike row a.refilled.others y) (sym b.rows_are) ends);
      ahead = front_of octets (row_at rows row);
      back = back_of octets (row_at rows row);
      one_parts = refilled_parts octets (row_at rows row) t;
      other_parts = refilled_parts octets (row_at rows row) t';
      text_from = ap (λ os. (row_at os row).body_from) b.rows_are ∙ ap (λ (s : RowOf). s.body_from) b.refilled.row ∙ sym (front_long octets (row_at rows row) (within_at octets rows row spells can.alone.within).0);
    }

more_pair : (octets : List ℕ) (rows : List RowOf) (spells : Spells octets rows) (f : Filling) (first : ℕ) (fs : List Filling) (row : ℕ) (t o t' o' : List ℕ)
    → AreFilledAlike octets rows first fs (filling row t o) (filling row t' o') → CanFill rows f → f.row < first → (row_at rows f.row).last < first
    → AreFilledAlike octets rows f.row (f ∷ fs) (filling row t o) (filling row t' o')
more_pair octets rows spells f first fs row t o t' o' p can less stops =
    let v = filling row t o in
    let w = filling row t' o' in
    let shape = (read_rows octets rows spells).shape in
    let a = step octets rows shape first (fs ++ v ∷ []) (passed octets rows first (fs ++ v ∷ []) p.one) f can less stops in
    let b = step octets rows shape first (fs ++ w ∷ []) (passed octets rows first (fs ++ w ∷ []) p.other) f can less stops in
    let one = filled_in octets rows (fs ++ v ∷ []) in
    let two = filled_in octets rows (fs ++ w ∷ []) in
    let same : row_at p.other.others f.row ≡ row_at p.one.others f.row = b.row_is ∙ sym a.row_is in
    let far = p.far in
    let before : f.row < p.mark = omega (arith, less, far) in
    let stopped : (row_at p.one.others f.row).last < p.mark = omega (arith, ap (λ (r : RowOf). r.last) a.row_is, stops, far) in
    let begins = begin_again one two p.one.others p.other.others f.row f.text a.refilled b.refilled a.one_shape b.one_shape a.other_shape b.other_shape p.mark p.begins p.ends before stopped same in
    let ends = end_again one two p.one.others p.other.others f.row f.text a.refilled b.refilled a.one_shape b.one_shape a.other_shape b.other_shape p.mark p.begins p.ends before stopped same in
    let numbers = numbers_same one two p.one.others p.other.others f.row f.text a.refilled b.refilled a.one_shape b.one_shape a.other_shape b.other_shape p.mark p.begins p.ends before stopped same in
    let mark : ℕ = renumbered a.refilled.old a.refilled.new p.mark in
    let goes = lasts.moves one p.one.others f.row f.text a.refilled a.one_shape a.other_shape p.mark (omega (arith, stopped, a.refilled.ends)) in
    let at_mark : HasTextAlone p.other.others p.mark = subst (λ n. HasTextAlone p.other.others n) p.in_other (last_stands two p.other.others p.other.number first fs w p.other.texts).alone in
    let l = later two p.other.others f.row f.text p.other.spells b.alone b.refilled p.mark p.ahead before at_mark p.text_from in
    let parts : (rest : List ℕ) → refilled (p.ahead ++ rest) (row_at rows f.row) f.text ≡ refilled p.ahead (row_at rows f.row) f.text ++ rest = λ rest.
    subst (λ s. refilled (p.ahead ++ rest) s f.text ≡ refilled p.ahead s f.text ++ rest) b.row_is (l.parts rest) in
    record {
      one = a.all;
      other = b.all;
      mark = mark;
      far = omega (arith, goes, stopped, a.refilled.ends, a.refilled.inside, lasts.longer one p.one.others f.row f.text a.refilled a.one_shape a.other_shape);
      in_one = a.numbers row ∙ ap (renumbered a.refilled.old a.refilled.new) p.in_one;
      in_other = b.numbers row ∙ ap (renumbered b.refilled.old b.refilled.new) p.in_other ∙ numbers p.mark;
      begins = subst (λ x. BeginAlike mark x b.all.others) (sym a.rows_are) (subst (λ y. BeginAlike mark a.refilled.others y) (sym b.rows_are) begins);
      ends = subst (λ x. EndAlike mark x b.all.others) (sym a.rows_are) (subst (λ y. EndAlike mark a.refilled.others y) (sym b.rows_are) ends);
      ahead = refilled p.ahead (row_at rows f.row) f.text;
      back = p.back;
      one_parts = ap (λ o. refilled o (row_at rows f.row) f.text) p.one_parts ∙ parts (t ++ p.back);
      other_parts = ap (λ o. refilled o (row_at rows f.row) f.text) p.other_parts ∙ parts (t' ++ p.back);
      text_from = ap (λ os. (row_at os mark).body_from) b.rows_are ∙ ap (λ n. (row_at b.refilled.others n).body_from) (sym (numbers p.mark)) ∙ l.begins ∙ ap (λ s. length (refilled p.ahead s f.text)) b.row_is;
    }

first_less : (rows : List RowOf) (i : ℕ) (fs : List Filling) (row : ℕ) (t o : List ℕ) → CanFillAll rows (i + 1) (fs ++ filling row t o ∷ []) → i < first_of fs row
first_less rows i [] row t o can = omega (arith, can.0)
first_less rows i (g ∷ fs) row t o can = omega (arith, can.0)

first_element : (rows : List RowOf) (i : ℕ) (fs : List Filling) (row : ℕ) (t o : List ℕ) → CanFillAll rows (i + 1) (fs ++ filling row t o ∷ []) → (row_at rows (first_of fs row)).kind ≡ Element
first_element rows i [] row t o can = can.1.alone.element
first_element rows i (g ∷ fs) row t o can = can.1.alone.element

pub all_together : (octets : List ℕ) (rows : List RowOf) (from : ℕ) (fs : List Filling) (row : ℕ) (t o t' o' : List ℕ) → Spells octets rows
    → CanFillAll rows from (fs ++ filling row t o ∷ []) → CanFillAll rows from (fs ++ filling row t' o' ∷ []) → AreFilledAlike octets rows (first_of fs row) fs (filling row t o) (filling row t' o')
all_together octets rows from [] row t o t' o' spells can can' = last_pair octets rows spells row t o t' o' can.1 can'.1
all_together octets rows from (f ∷ fs) row t o t' o' spells can can' =
    let less = first_less rows f.row fs row t o can.2 in
    more_pair octets rows spells f (first_of fs row) fs row t o t' o' (all_together octets rows (f.row + 1) fs row t o t' o' spells can.2 can'.2) can.1 less
    (stands_behind rows f.row (first_of fs row) can.1.alone less (first_element rows f.row fs row t o can.2))
