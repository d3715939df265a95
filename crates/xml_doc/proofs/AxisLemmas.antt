-- Where the rows of an axis stand.
use Rattle.std.proofs.Common.{◌≡◌, ℕ, ◌<◌, ◌≤◌, ◌-◌, ◌+◌, ◌==◌, ◌&&◌, Bool, true, false, not, nat_lt, nat_le, List, [], ◌∷◌, length, reverse, sym, ◌∙◌, ap, arith, ◌⊎◌, inl, inr}
use Rattle.std.specs.List.{filter, range_with_len}
use Rattle.std.proofs.lemmas.Bool.{false_from_ne_true, and_parts, or_cases, ltb-true, leb-true, eqb-true, cases_Bool}
use Rattle.std.proofs.lemmas.List.{reverse-append, length-reverse}
use Rattle.xml_doc.specs.declared.axis.Axis.{Axis}
use Rattle.xml_doc.specs.declared.axis.Axis.TheVariants.{Child, FollowingSibling, PrecedingSibling, Preceding, Ancestor, AncestorOrSelf}
use Rattle.xml_doc.specs.Axes.{in_axis_order, on_axis, are_siblings, is_ancestor, is_child, is_field_at, is_reverse}
use Rattle.xml_doc.specs.Rows.{RowOf}
use Rattle.xml_doc.specs.Searches.{passing, NonePass, IsFirst, IsLast}
use Rattle.xml_doc.specs.Shape.{row_at, IsWellShaped}
use Rattle.xml_doc.proofs.SearchLemmas.{none_between, skip_front, skip_back, from_first, up_to_last, few_passing}
use Rattle.xml_doc.proofs.ShapeLemmas.{last_below}

-- ---- in the order of the axis
module _ (a : Axis) (p : ℕ → Bool) (at until y m : ℕ) where
  pub forward_step : is_reverse a ≡ false → IsFirst p at until y → y < m → NonePass p (y + 1) m → in_axis_order a (passing p at until) ≡ y ∷ in_axis_order a (passing p m until)
  forward_step e first h none = rw e (from_first p at until y m first h none)

  pub reverse_step : is_reverse a ≡ true → IsLast p at until y → m ≤ y → NonePass p m y → in_axis_order a (passing p at until) ≡ y ∷ in_axis_order a (passing p at m)
  reverse_step e last h none = rw e (ap reverse (up_to_last p at until y m last h none) ∙ reverse-append (passing p at m) (y ∷ []))

pub no_step : (a : Axis) (p : ℕ → Bool) (at until : ℕ) → NonePass p at until → in_axis_order a (passing p at until) ≡ []
no_step a p at until none = ap (in_axis_order a) (none_between p at until none) ∙ elim (cases_Bool (is_reverse a)) [ inl e ↦ rw e | inr e ↦ rw e ]

-- the whole axis stands between its bounds
pub whole_axis : (a : Axis) (p : ℕ → Bool) (at until n : ℕ) → NonePass p 0 at → NonePass p until n → until ≤ n → in_axis_order a (passing p at until) ≡ in_axis_order a (filter p (range_with_len 0 n))
whole_axis a p at until n before behind h =
    let all : n - 0 ≡ n = omega arith in
    ap (in_axis_order a) (sym (skip_front p 0 at n (omega arith) before ∙ skip_back p at until n h behind) ∙ ap (λ (k : ℕ). filter p (range_with_len 0 k)) all)

pub few_on_axis : (a : Axis) (p : ℕ → Bool) (at until : ℕ) → length (in_axis_order a (passing p at until)) ≤ until
few_on_axis a p at until =
    let h = few_passing p at until in
    elim (cases_Bool (is_reverse a)) [
      | inl e ↦ rw e (let r = length-reverse (passing p at until) in omega arith)
      | inr e ↦ rw e (omega arith)
    ]

module _ (rows : List RowOf) (w : IsWellShaped rows) where
  -- ---- where a walk goes on
  child_parts : (x y : ℕ) → is_child rows x y ≡ true → (0 < y) × ((row_at rows y).parent ≡ x)
  child_parts x y t =
      let p = and_parts (nat_lt 0 y && ((row_at rows y).parent == x)) (not (is_field_at rows y)) t in
      let q = and_parts (nat_lt 0 y) ((row_at rows y).parent == x) p.0 in
      (ltb-true 0 y q.0, eqb-true (row_at rows y).parent x q.1)

  -- no row below y has the parent of y
  no_sibling_below : (y z : ℕ) → 0 < y → y < z → z ≤ (row_at rows y).last → y < length rows → (row_at rows z).parent ≡ (row_at rows y).parent → ⊥
  no_sibling_below y z h k l n e =
      let b = last_below rows w y n in
      let p = w.nesting.parent_before y h n in
      let f = w.nesting.ended z y (omega arith) (omega arith) k in
      omega arith

  none_below_child : (x y z : ℕ) → on_axis Child rows x y ≡ true → y < length rows → y + 1 ≤ z → z < (row_at rows y).last + 1 → on_axis Child rows x z ≡ false
  none_below_child x y z on n h l = false_from_ne_true _ (λ t.
      let p = child_parts x y on in
      no_sibling_below y z p.0 (omega arith) (omega arith) n ((child_parts x z t).1 ∙ sym p.1))

  sibling_parts : (x y : ℕ) → are_siblings rows x y ≡ true → (0 < x) × (0 < y) × ((row_at rows x).parent ≡ (row_at rows y).parent)
  sibling_parts x y t =
      let up = (row_at rows x).parent in
      let p = and_parts (is_child rows up x) (is_child rows up y) t in
      let q = child_parts up y p.1 in
      ((child_parts up x p.0).0, q.0, sym q.1)

  none_below_sibling : (x y z : ℕ) → on_axis FollowingSibling rows x y ≡ true → y < length rows → y + 1 ≤ z → z < (row_at rows y).last + 1 → on_axis FollowingSibling rows x z ≡ false
  none_below_sibling x y z on n h l = false_from_ne_true _ (λ t.
      let p = sibling_parts x y (and_parts (nat_lt x y) (are_siblings rows x y) on).1 in
      let q = sibling_parts x z (and_parts (nat_lt x z) (are_siblings rows x z) t).1 in
      no_sibling_below y z p.1 (omega arith) (omega arith) n (sym q.2 ∙ p.2))

  pub none_below : (a : Axis) (x y z : ℕ) → (a ≡ Child) ⊎ (a ≡ FollowingSibling) → on_axis a rows x y ≡ true → y < length rows → y + 1 ≤ z → z < (row_at rows y).last + 1 → on_axis a rows x z ≡ false
  none_below a x y z which on n h l = elim which [
    | inl e ↦ rw e (none_below_child x y z (rw e at on) n h l)
    | inr e ↦ rw e (none_below_sibling x y z (rw e at on) n h l)
  ]

  -- between an ancestor and its parent there is no other
  no_ancestor_between : (x y z : ℕ) → y ≤ x → y < length rows → (row_at rows y).parent < z → z < y → is_ancestor rows x z ≡ true → ⊥
  no_ancestor_between x y z h n k l t =
      let p = and_parts (nat_lt z x) (nat_le x (row_at rows z).last) t in
      let q = leb-true x (row_at rows z).last p.1 in
      let e = w.nesting.ended y z n k l in
      omega arith

  ancestor_below : (x y : ℕ) → is_ancestor rows x y ≡ true → y ≤ x
  ancestor_below x y t = let q = ltb-true y x (and_parts (nat_lt y x) (nat_le x (row_at rows y).last) t).0 in omega arith

  none_above_strict : (x y z : ℕ) → on_axis Ancestor rows x y ≡ true → y < length rows → (row_at rows y).parent + 1 ≤ z → z < y → on_axis Ancestor rows x z ≡ false
  none_above_strict x y z on n h l = false_from_ne_true _ (λ t. no_ancestor_between x y z (ancestor_below x y on) n (omega arith) l t)

  none_above_self : (x y z : ℕ) → on_axis AncestorOrSelf rows x y ≡ true → y < length rows → (row_at rows y).parent + 1 ≤ z → z < y → on_axis AncestorOrSelf rows x z ≡ false
  none_above_self x y z on n h l =
      let b : y ≤ x = elim (or_cases (x == y) (is_ancestor rows x y) on) [ inl e ↦ (let q = eqb-true x y e in omega arith) | inr t ↦ ancestor_below x y t ] in
      false_from_ne_true _ (λ t. elim (or_cases (x == z) (is_ancestor rows x z) t) [
        | inl e ↦ (let q = eqb-true x z e in absurd (omega arith))
        | inr u ↦ no_ancestor_between x y z b n (omega arith) l u
      ])

  pub none_above : (a : Axis) (x y z : ℕ) → (a ≡ Ancestor) ⊎ (a ≡ AncestorOrSelf) → on_axis a rows x y ≡ true → y < length rows → (row_at rows y).parent + 1 ≤ z → z < y → on_axis a rows x z ≡ false
  none_above a x y z which on n h l = elim which [
    | inl e ↦ rw e (none_above_strict x y z (rw e at on) n h l)
    | inr e ↦ rw e (none_above_self x y z (rw e at on) n h l)
  ]

  -- ---- where a walk begins and ends
  pub no_child_before : (x z : ℕ) → x < length rows → z < x + 1 → on_axis Child rows x z ≡ false
  no_child_before x z h l = false_from_ne_true _ (λ t.
      let p = child_parts x z t in
      let up = p.1 in
      let b = w.nesting.parent_before z p.0 (omega arith) in
      omega arith)

  pub no_ancestor_behind : (x z : ℕ) → x < length rows → (row_at rows x).parent + 1 ≤ z → on_axis Ancestor rows x z ≡ false
  no_ancestor_behind x z h l = false_from_ne_true _ (λ t.
      let q = ltb-true z x (and_parts (nat_lt z x) (nat_le x (row_at rows z).last) t).0 in
      no_ancestor_between x x z (omega arith) h (omega arith) q t)

  pub no_following_before : (x z : ℕ) → x < length rows → z < (row_at rows x).last + 1 → on_axis FollowingSibling rows x z ≡ false
  no_following_before x z h l = false_from_ne_true _ (λ t.
      let p = and_parts (nat_lt x z) (are_siblings rows x z) t in
      let q = sibling_parts x z p.1 in
      no_sibling_below x z q.0 (ltb-true x z p.0) (omega arith) h (sym q.2))

  pub no_following_behind : (x z : ℕ) → z < length rows → (row_at rows (row_at rows x).parent).last + 1 ≤ z → on_axis FollowingSibling rows x z ≡ false
  no_following_behind x z h l = false_from_ne_true _ (λ t.
      let q = sibling_parts x z (and_parts (nat_lt x z) (are_siblings rows x z) t).1 in
      let b = w.nesting.last_from z h in
      let i : (row_at rows z).last ≤ (row_at rows (row_at rows x).parent).last = rw q.2 (w.nesting.last_within z h) in
      omega arith)

  pub no_preceding_before : (x z : ℕ) → x < length rows → z < (row_at rows x).parent + 1 → on_axis PrecedingSibling rows x z ≡ false
  no_preceding_before x z h l = false_from_ne_true _ (λ t.
      let p = and_parts (nat_lt z x) (are_siblings rows x z) t in
      let q = sibling_parts x z p.1 in
      let lt = ltb-true z x p.0 in
      let b = w.nesting.parent_before z q.1 (omega arith) in
      let e = q.2 in
      omega arith)

  pub no_preceding_behind : (x z : ℕ) → x ≤ z → z < length rows → on_axis Preceding rows x z ≡ false
  no_preceding_behind x z h l = false_from_ne_true _ (λ t.
      let p = ltb-true (row_at rows z).last x (and_parts (nat_lt (row_at rows z).last x) (not (is_field_at rows z)) t).0 in
      let b = w.nesting.last_from z l in
      omega arith)
