-- The walk that puts the subtrees of a set's rows into it.
use Rattle.std.proofs.Common.{◌≡◌, ℕ, zero, suc, ◌+◌, ◌<◌, ◌≤◌, ◌&&◌, ◌||◌, Bool, true, false, nat_lt, nat_le, cond, List, [], ◌∷◌, ◌++◌, length, refl, ap, sym, ◌∙◌, arith, inl, inr}
use Rattle.std.specs.List.{list_any, range_with_len}
use Rattle.std.proofs.lemmas.Bool.{lt-ltb, le-ltb, ltb-true, leb-true, le-leb, lt-leb, and_parts, and_from, or_cases, or_left, or_right, cases_eq, cases_lt, cases_Bool, false_from_ne_true, both_ways}
use Rattle.xml_doc.specs.Rows.{RowOf}
use Rattle.xml_doc.specs.Shape.{IsWellShaped, row_at}
use Rattle.node_sets.specs.Members.{in_subtree}
use Rattle.filter2.specs.Filters.{with_subtrees}
use Rattle.filter2.specs.Code.Covered.{Reached, covered}

-- ---- one subtree in another
module _ (rows : List RowOf) (w : IsWellShaped rows) where
  -- n bounds x
  last_within_to : (n x y : ℕ) → x ≤ n → x < length rows → y ≤ x → x ≤ (row_at rows y).last → (row_at rows x).last ≤ (row_at rows y).last
  last_within_to zero x y le lt from within = let e : x ≡ y = omega arith in rw e (omega arith)
  last_within_to (suc n) x y le lt from within = elim (cases_eq x y) [
    | inl same ↦ rw same (omega arith)
    | inr other ↦
        let p = (row_at rows x).parent in
        let before = w.nesting.parent_before x (omega arith) lt in
        let inside = w.nesting.last_within x lt in
        elim (cases_lt p y) [
          | inl outside ↦ let gone = w.nesting.ended x y lt outside (omega arith) in omega arith
          | inr up ↦ let further = last_within_to n p y (omega arith) (omega arith) up (omega arith) in omega arith
        ]
  ]

  -- what is below a row that is below another is below that
  pub subtree_within : (x i k : ℕ) → i < length rows → in_subtree rows x i ≡ true → in_subtree rows i k ≡ true → in_subtree rows x k ≡ true
  subtree_within x i k lt t u =
      let xi = and_parts (nat_le x i) (nat_lt i ((row_at rows x).last + 1)) t in
      let ik = and_parts (nat_le i k) (nat_lt k ((row_at rows i).last + 1)) u in
      let a : x ≤ i = leb-true x i xi.0 in let b : i < (row_at rows x).last + 1 = ltb-true i ((row_at rows x).last + 1) xi.1 in
      let c : i ≤ k = leb-true i k ik.0 in let d : k < (row_at rows i).last + 1 = ltb-true k ((row_at rows i).last + 1) ik.1 in
      let e = last_within_to i i x (omega arith) lt a (omega arith) in
      and_from (nat_le x k) (nat_lt k ((row_at rows x).last + 1)) (le-leb x k (omega arith)) (lt-ltb k ((row_at rows x).last + 1) (omega arith))

-- ---- tests of the members of a list
list_any-implies : (p q : ℕ → Bool) (xs : List ℕ) → ((x : ℕ) → p x ≡ true → q x ≡ true) → list_any p xs ≡ true → list_any q xs ≡ true
list_any-implies p q [] h t = t
list_any-implies p q (x ∷ xs) h t = elim (or_cases (p x) (list_any p xs) t) [
  | inl here ↦ or_left _ _ (h x here)
  | inr later ↦ or_right _ _ (list_any-implies p q xs h later)
]

list_any-append : (p : ℕ → Bool) (xs ys : List ℕ) → list_any p (xs ++ ys) ≡ (list_any p xs || list_any p ys)
list_any-append p [] ys = refl
list_any-append p (x ∷ xs) ys = ap (λ (t : Bool). p x || t) (list_any-append p xs ys) ∙ assoc (p x) (list_any p xs) (list_any p ys)
  where
    assoc : (a b c : Bool) → (a || (b || c)) ≡ ((a || b) || c)
    assoc true b c = refl
    assoc false b c = refl

range-more : (a n : ℕ) → range_with_len a (suc n) ≡ range_with_len a n ++ (a + n) ∷ []
range-more a zero = let e : a ≡ a + 0 = omega arith in ap (λ (k : ℕ). k ∷ []) e
range-more a (suc n) =
    let e : a + 1 + n ≡ a + suc n = omega arith in
    ap (λ (l : List ℕ). a ∷ l) (range-more (a + 1) n) ∙ ap (λ (k : ℕ). a ∷ (range_with_len (a + 1) n ++ k ∷ [])) e

pub or-false : (a : Bool) → (a || false) ≡ a
or-false true = refl
or-false false = refl

-- ---- the rows that are covered
module _ (rows : List RowOf) (w : IsWellShaped rows) (nodes : ℕ → Bool) where
  covered-more : (i k : ℕ) → covered rows nodes (i + 1) k ≡ (covered rows nodes i k || (nodes i && in_subtree rows i k))
  covered-more i k =
      let e : i + 1 ≡ suc i = omega arith in
      let z : 0 + i ≡ i = omega arith in
      let test = λ (x : ℕ). nodes x && in_subtree rows x k in
      ap (λ (n : ℕ). list_any test (range_with_len 0 n)) e ∙ ap (list_any test) (range-more 0 i) ∙ list_any-append test (range_with_len 0 i) ((0 + i) ∷ []) ∙ ap (λ (n : ℕ). list_any test (range_with_len 0 i) || (test n || false)) z ∙ last (covered rows nodes i k) (test i)
    where
      last : (a b : Bool) → (a || (b || false)) ≡ (a || b)
      last true b = refl
      last false true = refl
      last false false = refl

  -- row i is passed over: it is covered, and what is below it too
  passed : (i k : ℕ) → i < length rows → covered rows nodes i i ≡ true → covered rows nodes (i + 1) k ≡ covered rows nodes i k
  passed i k lt t = covered-more i k ∙ absorbed (covered rows nodes i k) (nodes i && in_subtree rows i k) (λ u. through (and_parts _ _ u).1)
    where
      through : in_subtree rows i k ≡ true → covered rows nodes i k ≡ true
      through u = list_any-implies (λ x. nodes x && in_subtree rows x i) (λ x. nodes x && in_subtree rows x k) (range_with_len 0 i)
          (λ x p. let both = and_parts _ _ p in and_from _ _ both.0 (subtree_within rows w x i k lt both.1 u)) t

      absorbed : (a b : Bool) → (b ≡ true → a ≡ true) → (a || b) ≡ a
      absorbed true b h = refl
      absorbed false true h = sym (h refl)
      absorbed false false h = refl

  pub reached-begin : Reached rows nodes 0 0
  reached-begin k le = sym (le-ltb k 0 (omega arith))

  pub reached-passed : (i until : ℕ) → Reached rows nodes i until → i < length rows → i < until → Reached rows nodes (i + 1) until
  reached-passed i until r lt inside k le = passed i k lt (r i (omega arith) ∙ lt-ltb i until inside) ∙ r k (omega arith)

  pub members-passed : (i until k : ℕ) → Reached rows nodes i until → i < length rows → i < until → covered rows nodes (i + 1) k ≡ covered rows nodes i k
  members-passed i until k r lt inside = passed i k lt (r i (omega arith) ∙ lt-ltb i until inside)

  -- row i is no member
  pub members-none : (i k : ℕ) → nodes i ≡ false → covered rows nodes (i + 1) k ≡ covered rows nodes i k
  members-none i k out = covered-more i k ∙ ap (λ (t : Bool). covered rows nodes i k || (t && in_subtree rows i k)) out ∙ nothing (covered rows nodes i k)
    where
      nothing : (a : Bool) → (a || false) ≡ a
      nothing true = refl
      nothing false = refl

  pub reached-none : (i until : ℕ) → Reached rows nodes i until → nodes i ≡ false → Reached rows nodes (i + 1) until
  reached-none i until r out k le = members-none i k out ∙ r k (omega arith)

  -- row i is a member that out other covers
  pub members-one : (i k : ℕ) → nodes i ≡ true → covered rows nodes (i + 1) k ≡ (covered rows nodes i k || in_subtree rows i k)
  members-one i k member = covered-more i k ∙ ap (λ (t : Bool). covered rows nodes i k || (t && in_subtree rows i k)) member

  pub reached-one : (i until behind : ℕ) → Reached rows nodes i until → nodes i ≡ true → until ≤ i → behind ≡ (row_at rows i).last + 1 → Reached rows nodes (i + 1) behind
  reached-one i until behind r member past is k le =
      members-one i k member ∙ ap (λ (t : Bool). t || in_subtree rows i k) (r k (omega arith) ∙ le-ltb k until (omega arith))
      ∙ ap (λ (t : Bool). t && nat_lt k ((row_at rows i).last + 1)) (le-leb i k (omega arith)) ∙ ap (nat_lt k) (sym is)

  -- a row that the walk comes to behind what is covered is a member now where it was one
  pub was_member : (i until : ℕ) (now : Bool) → Reached rows nodes i until → until ≤ i → now ≡ (nodes i || covered rows nodes i i) → now ≡ nodes i
  was_member i until now r past is = is ∙ ap (λ (t : Bool). nodes i || t) (r i (omega arith) ∙ le-ltb i until past) ∙ nothing (nodes i)
    where
      nothing : (a : Bool) → (a || false) ≡ a
      nothing true = refl
      nothing false = refl

-- ---- the walk, by what is in the set now
module _ (rows : List RowOf) (w : IsWellShaped rows) (nodes : ℕ → Bool) (now later : ℕ → Bool) (i until : ℕ) (lt : i < length rows) (r : Reached rows nodes i until) (is : (k : ℕ) → now k ≡ (nodes k || covered rows nodes i k)) where
  -- a row that is covered
  pub walked-past : i < until → (k : ℕ) → now k ≡ (nodes k || covered rows nodes (i + 1) k)
  walked-past inside k = is k ∙ ap (λ (t : Bool). nodes k || t) (sym (members-passed rows w nodes i until k r lt inside))

  -- another one: its subtree comes in where it is a member
  pub walked-on : until ≤ i → ((k : ℕ) → later k ≡ ((now i && in_subtree rows i k) || now k)) → (k : ℕ) → later k ≡ (nodes k || covered rows nodes (i + 1) k)
  walked-on past change k =
      change k ∙ ap (λ (t : Bool). (t && in_subtree rows i k) || now k) (was_member rows w nodes i until (now i) r past (is i))
      ∙ ap (λ (t : Bool). (nodes i && in_subtree rows i k) || t) (is k)
      ∙ turned (nodes i && in_subtree rows i k) (nodes k) (covered rows nodes i k)
      ∙ ap (λ (t : Bool). nodes k || t) (sym (covered-more rows w nodes i k))
    where
      turned : (a b c : Bool) → (a || (b || c)) ≡ (b || (c || a))
      turned true true c = refl
      turned true false true = refl
      turned true false false = refl
      turned false true c = refl
      turned false false true = refl
      turned false false false = refl

  pub reached-on : (behind : ℕ) → until ≤ i → behind ≡ cond (now i) ((row_at rows i).last + 1) until → Reached rows nodes (i + 1) behind
  reached-on behind past e = go (nodes i) refl
    where
      go : (b : Bool) → nodes i ≡ b → Reached rows nodes (i + 1) behind
      go true member = reached-one rows w nodes i until behind r member past (e ∙ ap (λ (t : Bool). cond t ((row_at rows i).last + 1) until) (was_member rows w nodes i until (now i) r past (is i) ∙ member))
      go false out = λ (k : ℕ) le.
          reached-none rows w nodes i until r out k le
          ∙ ap (nat_lt k) (sym (e ∙ ap (λ (t : Bool). cond t ((row_at rows i).last + 1) until) (was_member rows w nodes i until (now i) r past (is i) ∙ out)))
