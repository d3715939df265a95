-- Where subtrees end after one element got another text.
use Rattle.std.proofs.Common.{◌≡◌, ℕ, zero, suc, ◌+◌, ◌-◌, ◌<◌, ◌≤◌, true, false, ◌⊎◌, inl, inr, List, [], ◌∷◌, length, refl, sym, ap, subst, ◌∙◌, arith}
use Rattle.std.proofs.lemmas.Bool.{cases_lt, cases_eq, lt-ltb, le-ltb, false≢true}
use Rattle.std.specs.Prelude.{if◌then◌else◌}
use Rattle.xml_doc.specs.Rows.{RowOf}
use Rattle.xml_doc.specs.Shape.{row_at, IsWellShaped}
use Rattle.xml_doc.specs.Kinds.{is_field, is_inner}
use Rattle.xml_doc.specs.declared.row.Kind.{Kind}
use Rattle.xml_doc.specs.declared.row.Kind.TheVariants.{Root, Element, Namespace, Attribute, Text, Comment, Instruction}
use Rattle.xml_doc.proofs.ShapeLemmas.{leaf_last}
use Rattle.row_spans.specs.Alike.{renumbered, IsTextOf, text_count, IsRefilled}

-- a subtree lies in each one that it begins in
pub nested : (rows : List RowOf) → IsWellShaped rows → (n i k : ℕ) → i < n → i < length rows → k ≤ i → i ≤ (row_at rows k).last → (row_at rows i).last ≤ (row_at rows k).last
nested rows w zero i k lt there le inside = absurd (omega (arith, lt))
nested rows w (suc n) i k lt there le inside = elim (cases_eq k i) [
  | inl same ↦ let e : (row_at rows k).last ≡ (row_at rows i).last = ap (λ j. (row_at rows j).last) same in omega (arith, e)
  | inr other ↦
      let up = w.nesting.parent_before i (omega (arith, le, other)) there in
      let above : k ≤ (row_at rows i).parent = elim (cases_lt (row_at rows i).parent k) [
        | inl higher ↦ let gone = w.nesting.ended i k there higher (omega (arith, le, other)) in omega (arith, gone, inside)
        | inr h ↦ h
      ] in
      let outer = nested rows w n (row_at rows i).parent k (omega (arith, up, lt)) (omega (arith, up, there)) above (omega (arith, up, inside)) in
      let within = w.nesting.last_within i there in
      omega (arith, outer, within)
]

pub no_inner : (k : Kind) → is_field k ≡ true → is_inner k ≡ false
no_inner Root e = absurd (false≢true e)
no_inner Element e = absurd (false≢true e)
no_inner Namespace e = refl
no_inner Attribute e = refl
no_inner Text e = refl
no_inner Comment e = refl
no_inner Instruction e = refl

pub renumbered_behind : (old new k : ℕ) → old ≤ k → renumbered old new k ≡ (k + new) - old
renumbered_behind old new k le = ap (λ b. if b then k else (k + new) - old) (le-ltb k old le)

module _ (octets : List ℕ) (rows : List RowOf) (i : ℕ) (w : List ℕ) (r : IsRefilled octets rows i w) (shape : IsWellShaped rows) (shape' : IsWellShaped r.others) where
  pub stays : (k : ℕ) → k < r.old → renumbered r.old r.new k ≡ k
  stays k lt = ap (λ b. if b then k else (k + r.new) - r.old) (lt-ltb k r.old lt)

  pub moves : (k : ℕ) → r.old ≤ k → renumbered r.old r.new k ≡ (k + r.new) - r.old
  moves k le = renumbered_behind r.old r.new k le

  pub longer : r.below ≤ r.new
  longer = let grows = r.grows in omega arith

  pub there_now : (k : ℕ) → k < r.below → k < length r.others
  there_now k lt = let count = r.alike.count in let enough = r.alike.enough in let starts = r.starts in let long = longer in omega arith

  pub inside : (k : ℕ) → k ≤ i → i ≤ (row_at rows k).last → (row_at r.others k).last + 1 ≡ renumbered r.old r.new ((row_at rows k).last + 1)
  inside k le in_it = elim (r.alike.before k (omega (arith, le, r.inside))).last [
    | inl moved ↦ moved
    | inr still ↦
        let now : (row_at r.others i).last ≡ r.new - 1 = ap (λ (t : RowOf). t.last) r.row in
        let at : i < length r.others = there_now i r.inside in
        let over = nested r.others shape' (suc i) i k (omega arith) at le (omega (arith, in_it, still.1)) in
        let end : r.old ≤ (row_at rows k).last + 1 = let n = nested rows shape (suc i) i k (omega arith) (omega (arith, r.inside, r.starts, r.alike.enough)) le in_it in omega (arith, n, r.ends) in
        let go = moves ((row_at rows k).last + 1) end in
        omega (arith, go, over, now, still.0, still.1, end, r.starts, longer, r.inside)
  ]

  pub outside : (k : ℕ) → k < r.below → (i < k) ⊎ ((row_at rows k).last < i) → (row_at r.others k).last ≡ (row_at rows k).last
  outside k lt (inl own) =
      let field = r.own k own lt in
      let field' : is_field (row_at r.others k).kind ≡ true = ap is_field (r.alike.before k lt).kind ∙ field in
      leaf_last r.others shape' k (there_now k lt) (no_inner (row_at r.others k).kind field') ∙ sym (leaf_last rows shape k (omega (arith, lt, r.starts, r.alike.enough)) (no_inner (row_at rows k).kind field))
  outside k lt (inr ended) = elim (cases_lt k i) [
    | inl front ↦ ap (λ (t : RowOf). t.last) (r.same k front ended)
    | inr no_front ↦ let reach = shape.nesting.last_from k (omega (arith, lt, r.starts, r.alike.enough)) in omega (arith, reach, ended, no_front)
  ]

  pub behind : (k : ℕ) → r.old ≤ k → k < length rows → (row_at r.others (renumbered r.old r.new k)).last + 1 ≡ renumbered r.old r.new ((row_at rows k).last + 1)
  behind k le lt = elim (r.alike.behind k le lt).last [
    | inl moved ↦ moved
    | inr still ↦ let reach = shape.nesting.last_from k lt in omega (arith, reach, still.0, le, r.starts)
  ]

  -- the text that is new, if one is
  pub fresh : (k : ℕ) → r.below ≤ k → k < r.new → (k ≡ r.below) × IsTextOf r.others k i w
  fresh k ge lt = by w refl
    where
      by : (v : List ℕ) → w ≡ v → (k ≡ r.below) × IsTextOf r.others k i w
      by [] is = absurd (omega (arith, ge, lt, r.grows, ap text_count is))
      by (c ∷ v) is =
          let here : r.below ≡ k = omega (arith, ge, lt, r.grows, ap text_count is) in
          (sym here, subst (λ n. IsTextOf r.others n i w) here (r.stands (λ none. not_nil c v (sym none ∙ is))))
        where
          not_nil : (c : ℕ) (v : List ℕ) → [] ≡ c ∷ v → ⊥
          not_nil c v e = cc
