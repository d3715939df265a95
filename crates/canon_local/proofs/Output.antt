-- What two trees write that begin alike, and write nothing from node m on.
use Rattle.std.proofs.Common.{◌≡◌, ℕ, ◌+◌, ◌-◌, ◌<◌, ◌≤◌, Bool, true, false, cond, ◌&&◌, eqb, List, [], ◌∷◌, ◌++◌, zero, suc, refl, sym, ap, ◌∙◌, arith, append-nil}
use Rattle.std.specs.List.{flat_map, filter, range_with_len}
use Rattle.std.proofs.lemmas.List.Elements.{filter-append}
use Rattle.std.proofs.lemmas.Grind.{flat_map-append}
use Rattle.xml_doc.proofs.Numbers.{range-append}
use Rattle.c14n_text.specs.Code.Tree.{IsTree}
use Rattle.c14n_text.specs.Walk as walk
use Rattle.c14n_text.proofs.TreeLemmas.{whole_output-is, children_of}
use Rattle.c14n_text.proofs.QuietLemmas.{quiet_children}

-- numbers that pass the one test or the other, where these agree
same_passing : (f h : ℕ → List ℕ) (p q : ℕ → Bool) (a k : ℕ) → ((j : ℕ) → a ≤ j → j < a + k → p j ≡ q j) → ((j : ℕ) → a ≤ j → j < a + k → p j ≡ true → f j ≡ h j)
    → flat_map f (filter p (range_with_len a k)) ≡ flat_map h (filter q (range_with_len a k))
same_passing f h p q a zero pass same = refl
same_passing f h p q a (suc k) pass same =
    go (p a) refl (same_passing f h p q (a + 1) k (λ (j : ℕ) ge lt. pass j (omega arith) (omega arith)) (λ (j : ℕ) ge lt passes. same j (omega arith) (omega arith) passes))
    ∙ ap (λ b. flat_map h (cond b (a ∷ filter q (range_with_len (a + 1) k)) (filter q (range_with_len (a + 1) k)))) (pass a (omega arith) (omega arith))
  where
    go : (b : Bool) → p a ≡ b → flat_map f (filter p (range_with_len (a + 1) k)) ≡ flat_map h (filter q (range_with_len (a + 1) k))
        → flat_map f (cond b (a ∷ filter p (range_with_len (a + 1) k)) (filter p (range_with_len (a + 1) k))) ≡ flat_map h (cond b (a ∷ filter q (range_with_len (a + 1) k)) (filter q (range_with_len (a + 1) k)))
    go true is later = let here : f a ≡ h a = same a (omega arith) (omega arith) is in cc
    go false is later = later

module _ (m size : ℕ) (parent last : ℕ → ℕ) (counts : ℕ → Bool) (opening closing : ℕ → List ℕ) (tree : IsTree size parent last) (pos : 0 < m) (within : m ≤ size)
    (no_opening : (x : ℕ) → m ≤ x → opening x ≡ []) (no_closing : (x : ℕ) → m ≤ x → closing x ≡ []) where
  abbrev whole : ℕ → List ℕ
  whole = walk.whole_output size parent last counts opening closing

  abbrev passes : ℕ → ℕ → Bool
  passes x y = counts y && eqb (parent y) x

  -- the children in front of m alone write
  pub front_writes : (x : ℕ) → x < size → whole x ≡ opening x ++ flat_map whole (filter (passes x) (range_with_len 1 (m - 1))) ++ closing x
  front_writes x lt =
      let e : size - 1 ≡ (m - 1) + (size - m) = omega arith in
      let f : 1 + (m - 1) ≡ m = omega arith in
      let cut : filter (passes x) (range_with_len 1 (size - 1)) ≡ filter (passes x) (range_with_len 1 (m - 1)) ++ filter (passes x) (range_with_len m (size - m)) =
      ap (λ k. filter (passes x) (range_with_len 1 k)) e
      ∙ ap (filter (passes x)) (range-append 1 (m - 1) (size - m) ∙ ap (λ k. range_with_len 1 (m - 1) ++ range_with_len k (size - m)) f)
      ∙ filter-append (passes x) (range_with_len 1 (m - 1)) (range_with_len m (size - m)) in
      let none = quiet_children size parent last counts opening closing tree m no_opening no_closing x m (omega arith) in
      whole_output-is size parent last counts opening closing tree x lt
      ∙ ap (λ t. opening x ++ flat_map whole t ++ closing x) cut
      ∙ ap (λ t. opening x ++ t ++ closing x) (flat_map-append whole (filter (passes x) (range_with_len 1 (m - 1))) (filter (passes x) (range_with_len m (size - m))) ∙ ap (λ t. flat_map whole (filter (passes x) (range_with_len 1 (m - 1))) ++ t) none ∙ append-nil (flat_map whole (filter (passes x) (range_with_len 1 (m - 1)))))

module _ (m size size' : ℕ) (parent parent' last last' : ℕ → ℕ) (counts counts' : ℕ → Bool) (opening opening' closing closing' : ℕ → List ℕ)
    (tree : IsTree size parent last) (tree' : IsTree size' parent' last') (pos : 0 < m) (within : m ≤ size) (within' : m ≤ size')
    (no_opening : (x : ℕ) → m ≤ x → opening x ≡ []) (no_closing : (x : ℕ) → m ≤ x → closing x ≡ [])
    (no_opening' : (x : ℕ) → m ≤ x → opening' x ≡ []) (no_closing' : (x : ℕ) → m ≤ x → closing' x ≡ [])
    (same_parent : (x : ℕ) → x < m → parent x ≡ parent' x) (same_counts : (x : ℕ) → x < m → counts x ≡ counts' x)
    (same_opening : (x : ℕ) → x < m → opening x ≡ opening' x) (same_closing : (x : ℕ) → x < m → closing x ≡ closing' x) where
  abbrev one : ℕ → List ℕ
  one = walk.whole_output size parent last counts opening closing

  abbrev other : ℕ → List ℕ
  other = walk.whole_output size' parent' last' counts' opening' closing'

  same_child : (x j : ℕ) → j < m → (counts j && eqb (parent j) x) ≡ (counts' j && eqb (parent' j) x)
  same_child x j lt = ap (λ t. t && eqb (parent j) x) (same_counts j lt) ∙ ap (λ t. counts' j && eqb t x) (same_parent j lt)

  same_output : (n x : ℕ) → x < m → m ≤ x + n → one x ≡ other x
  same_output zero x lt le = absurd (omega arith)
  same_output (suc n) x lt le =
      let inner = same_passing one other (λ y. counts y && eqb (parent y) x) (λ y. counts' y && eqb (parent' y) x) 1 (m - 1)
      (λ j ge below. same_child x j (omega arith))
      (λ j ge below child.
      let up : parent j ≡ x = (children_of parent counts x j child).1 in
      let before = tree.above j (omega arith) (omega arith) in
      same_output n j (omega arith) (omega arith)) in
      front_writes m size parent last counts opening closing tree pos within no_opening no_closing x (omega arith)
      ∙ ap (λ t. t ++ flat_map one (filter (λ y. counts y && eqb (parent y) x) (range_with_len 1 (m - 1))) ++ closing x) (same_opening x lt)
      ∙ ap (λ t. opening' x ++ t ++ closing x) inner
      ∙ ap (λ t. opening' x ++ flat_map other (filter (λ y. counts' y && eqb (parent' y) x) (range_with_len 1 (m - 1))) ++ t) (same_closing x lt)
      ∙ sym (front_writes m size' parent' last' counts' opening' closing' tree' pos within' no_opening' no_closing' x (omega arith))

  pub outputs_agree : one 0 ≡ other 0
  outputs_agree = same_output m 0 pos (omega arith)
