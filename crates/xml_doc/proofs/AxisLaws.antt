-- The laws of the axes.
use Rattle.std.proofs.Common.{◌≡◌, ℕ, zero, suc, ◌<◌, ◌≤◌, ltb, leb, List, length, refl, sym, arith, inl, inr}
use Rattle.std.proofs.lemmas.Bool.{and_parts, and_from, ltb-true, leb-true, lt-ltb, le-ltb, lt-leb, le-leb, eq-eqb, ne_eqb, cases_lt, cases_order}
use Rattle.xml_doc.specs.AxisLaws.{climbed, AncestorsAreParents, FiveAxesPartition}
use Rattle.xml_doc.specs.Rows.{RowOf}
use Rattle.xml_doc.specs.Shape.{row_at, IsWellShaped}

module _ (rows : List RowOf) (w : IsWellShaped rows) where
  parent_below : (x : ℕ) → x < length rows → (row_at rows x).parent ≤ x
  parent_below zero h = let e = w.root_parent in omega arith
  parent_below (suc x) h = let b = w.nesting.parent_before (suc x) (omega arith) h in omega arith

  -- a subtree lies in that of each row above
  climbed_above : (n x : ℕ) → x < length rows → (climbed rows n x ≤ x) × ((row_at rows x).last ≤ (row_at rows (climbed rows n x)).last)
  unfolding climbed
  climbed_above zero x h = (omega arith, omega arith)
  climbed_above (suc n) x h =
      let p = (row_at rows x).parent in
      let below = parent_below x h in
      let above = climbed_above n p (omega arith) in
      let from = above.0 in
      let up = above.1 in
      let within = w.nesting.last_within x h in
      (omega arith, omega arith)

  -- whoever is an ancestor is found by climbing. m bounds x
  found_to : (m x y : ℕ) → x ≤ m → x < length rows → y < x → x ≤ (row_at rows y).last → (n : ℕ) × (climbed rows n x ≡ y)
  unfolding climbed
  found_to zero x y le h lt within = absurd (omega arith)
  found_to (suc m) x y le h lt within =
      let p = (row_at rows x).parent in
      let before = w.nesting.parent_before x (omega arith) h in
      elim (cases_order y p) [
        | inl same ↦ (1, sym same)
        | inr (inl below) ↦ (let found = found_to m p y (omega arith) (omega arith) below (omega arith) in (suc found.0, found.1))
        | inr (inr above) ↦ (let gone = w.nesting.ended x y h above lt in absurd (omega arith))
      ]

  pub ancestors_are : AncestorsAreParents rows
  ancestors_are x y h = (
    (λ t.
        let parts = and_parts (ltb y x) (leb x (row_at rows y).last) t in
        let lt = ltb-true y x parts.0 in
        let within = leb-true x (row_at rows y).last parts.1 in
        ((λ e. omega arith), found_to x x y (omega arith) h lt within)),
    (λ up.
        let apart = up.0 in
        let n = up.1.0 in
        let is = up.1.1 in
        let above = climbed_above n x h in
        let le : y ≤ x = rw (← is) above.0 in
        let last : (row_at rows x).last ≤ (row_at rows y).last = rw (← is) above.1 in
        let from = w.nesting.last_from x h in
        and_from _ _ (lt-ltb y x (omega arith)) (le-leb x (row_at rows y).last (omega arith))),
  )

  pub five_partition : FiveAxesPartition rows
  five_partition x y here there plain =
      let x_from = w.nesting.last_from x here in
      let y_from = w.nesting.last_from y there in
      let lx = (row_at rows x).last in
      let ly = (row_at rows y).last in
      elim (cases_order x y) [
        | inl same ↦ rw (le-ltb y x (omega arith), le-ltb x y (omega arith), le-ltb lx y (omega arith), le-ltb ly x (omega arith), eq-eqb x y same) refl
        | inr (inl before) ↦ elim (cases_lt lx y) [
          | inl behind ↦ rw (le-ltb y x (omega arith), lt-ltb x y before, lt-leb y lx behind, lt-ltb lx y behind, le-ltb ly x (omega arith), ne_eqb x y (λ e. omega arith), plain) refl
          | inr inside ↦ rw (le-ltb y x (omega arith), lt-ltb x y before, le-leb y lx inside, le-ltb lx y inside, le-ltb ly x (omega arith), ne_eqb x y (λ e. omega arith), plain) refl
        ]
        | inr (inr after) ↦ elim (cases_lt ly x) [
          | inl ended ↦ rw (lt-ltb y x after, le-ltb x y (omega arith), lt-leb x ly ended, le-ltb lx y (omega arith), lt-ltb ly x ended, ne_eqb x y (λ e. omega arith), plain) refl
          | inr above ↦ rw (lt-ltb y x after, le-ltb x y (omega arith), le-leb x ly above, le-ltb lx y (omega arith), le-ltb ly x above, ne_eqb x y (λ e. omega arith)) refl
        ]
      ]
