-- One element that gets another text: the rows of the document afterwards stand for those before.
use Rattle.std.proofs.Common.{◌≡◌, ◌≢◌, ℕ, zero, suc, ◌+◌, ◌-◌, ◌<◌, ◌≤◌, ◌==◌, ◌&&◌, ◌||◌, Bool, true, false, not, cond, if◌then◌else◌, eqb, nat_lt, nat_le, ◌⊎◌, inl, inr, List, [], ◌∷◌, ◌++◌, length, Some, None, Option, Result, Ok, Err, refl, sym, ap, subst, ◌∙◌, arith, append-nil}
use Rattle.std.specs.Prelude.{option_map, bytes_eq}
use Rattle.std.specs.List.{filter, find, range_with_len}
use Rattle.std.proofs.lemmas.Bool.{cases_lt, cases_eq, eqb-true, eq-eqb, lt-ltb, le-ltb, ltb-true, leb-true, le-leb, and_parts, and_from, false≢true}
use Rattle.dsig_base64.specs.Loose.{octets_in}
use Rattle.xml_doc.specs.Rows.{RowOf}
use Rattle.xml_doc.specs.Shape.{row_at, IsWellShaped}
use Rattle.xml_doc.specs.Axes.{is_child}
use Rattle.xml_doc.specs.Fields.{is_attribute_of, attribute_rows}
use Rattle.xml_doc.specs.Kinds.{is_element, is_field, is_inner, is_attribute}
use Rattle.xml_doc.specs.declared.row.Kind.{Kind}
use Rattle.xml_doc.specs.declared.row.Kind.TheVariants.{Element, Text}
use Rattle.xml_doc.specs.declared.row.Kind.TheVariants as kinds
use Rattle.xml_doc.proofs.Numbers.{passing-cut, passing_none}
use Rattle.row_spans.specs.TextAlone.{HasTextAlone}
use Rattle.row_spans.specs.Alike.{renumbered, IsAlike, text_count, IsTextOf, IsRefilled}
use Rattle.dsig_fields.specs.Reading.{◌>>=◌, or_refusal, attribute, is_attribute_named, children, is_named}
use Rattle.dsig_fields.specs.Simple.{added_by, joined, simple_text, simple_octets}
use Rattle.dsig_fields.specs.Names.{local_name, namespace_of}
use Rattle.dsig_fields.specs.Signatures.{signatures}
use Rattle.dsig_fields.specs.declared.names.ElementName.TheVariants.{Signature}
use Rattle.dsig_fields.specs.declared.refusal.FieldRefusal.{FieldRefusal}
use Rattle.dsig_fields.specs.declared.refusal.FieldRefusal.TheVariants.{BadBase64}
use Rattle.moved_fields.specs.Moved.{Pairwise, is_value, moved_by, StandsFor}

pub pairs_append : {A B : Type 0} (R : A → B → Type 0) (xs xs' : List A) (ys ys' : List B) → Pairwise R xs ys → Pairwise R xs' ys' → Pairwise R (xs ++ xs') (ys ++ ys')
pairs_append R [] xs' [] ys' p q = q
pairs_append R [] xs' (y ∷ ys) ys' p q = absurd p
pairs_append R (x ∷ xs) xs' [] ys' p q = absurd p
pairs_append R (x ∷ xs) xs' (y ∷ ys) ys' p q = (p.0, pairs_append R xs xs' ys ys' p.1 q)

-- numbers that pass, from two ranges that go together
pairs_pass : (R : ℕ → ℕ → Type 0) (p q : ℕ → Bool) (n a b : ℕ) → ((j : ℕ) → j < n → (k l : ℕ) → k ≡ a + j → l ≡ b + j → (p k ≡ q l) × R k l) → Pairwise R (filter p (range_with_len a n)) (filter q (range_with_len b n))
pairs_pass R p q zero a b h = tt
pairs_pass R p q (suc n) a b h =
    let first = h 0 (omega arith) a b (omega arith) (omega arith) in
    go (p a) first.0 first.1 (pairs_pass R p q n (a + 1) (b + 1) (λ j lt k l e f. h (j + 1) (omega (arith, lt)) k l (omega (arith, e)) (omega (arith, f))))
  where
    go : (t : Bool) → t ≡ q b → R a b → Pairwise R (filter p (range_with_len (a + 1) n)) (filter q (range_with_len (b + 1) n))
        → Pairwise R (cond t (a ∷ filter p (range_with_len (a + 1) n)) (filter p (range_with_len (a + 1) n))) (cond (q b) (b ∷ filter q (range_with_len (b + 1) n)) (filter q (range_with_len (b + 1) n)))
    go true e r rest = subst (λ s. Pairwise R (a ∷ filter p (range_with_len (a + 1) n)) (cond s (b ∷ filter q (range_with_len (b + 1) n)) (filter q (range_with_len (b + 1) n)))) e (r, rest)
    go false e r rest = subst (λ s. Pairwise R (filter p (range_with_len (a + 1) n)) (cond s (b ∷ filter q (range_with_len (b + 1) n)) (filter q (range_with_len (b + 1) n)))) e rest

eqb_same : (a b c d : ℕ) → (a ≡ b → c ≡ d) → (c ≡ d → a ≡ b) → eqb a b ≡ eqb c d
eqb_same a b c d to from = by (eqb a b) (eqb c d) refl refl
  where
    by : (s t : Bool) → eqb a b ≡ s → eqb c d ≡ t → s ≡ t
    by true true e f = refl
    by false false e f = refl
    by true false e f = absurd (false≢true (sym f ∙ eq-eqb c d (to (eqb-true a b e))))
    by false true e f = absurd (false≢true (sym e ∙ eq-eqb a b (from (eqb-true c d f))))

pub not_equal : (a b : ℕ) → a ≢ b → eqb a b ≡ false
not_equal a b ne = by (eqb a b) refl
  where
    by : (t : Bool) → eqb a b ≡ t → t ≡ false
    by false e = refl
    by true e = absurd (ne (eqb-true a b e))

minus_none : (n : ℕ) → n - 0 ≡ n
minus_none n = omega arith

text_no_inner : (k : Kind) → k ≡ Text → is_inner k ≡ true → ⊥
text_no_inner k e i = false≢true (sym (ap is_inner e) ∙ i)

joined_nil : (all : List RowOf) → joined all [] ≡ Ok []
unfolding joined
joined_nil all = refl

joined_one : (all : List RowOf) (k : ℕ) (w : List ℕ) → (row_at all k).kind ≡ Text → (row_at all k).value ≡ w → joined all (k ∷ []) ≡ Ok w
unfolding joined
joined_one all k w kind value =
    ap (λ t. added_by k t (row_at all k).value >>= (λ first. joined all [] >>= (λ others. Ok (first ++ others)))) kind
    ∙ ap Ok (append-nil (row_at all k).value ∙ value)

octets_spelled : (all : List RowOf) (x : ℕ) (w o : List ℕ) → simple_text all x ≡ Ok w → octets_in w ≡ Some o → simple_octets all x ≡ Ok o
unfolding simple_octets
octets_spelled all x w o text spelled = ap (λ t. t >>= (λ v. or_refusal (BadBase64 x) (octets_in v))) text ∙ ap (or_refusal (BadBase64 x)) spelled

-- what gives octets has a text that spells them
text_of_octets : (all : List RowOf) (x : ℕ) (o : List ℕ) → simple_octets all x ≡ Ok o → (w : List ℕ) × (simple_text all x ≡ Ok w) × (octets_in w ≡ Some o)
unfolding simple_octets
text_of_octets all x o e = by (simple_text all x) e
  where
    some : (w : List ℕ) (t : Option (List ℕ)) → or_refusal (BadBase64 x) t ≡ Ok o → t ≡ Some o
    some w None f = absurd cc
    some w (Some v) f = let same : v ≡ o = cc in ap Some same

    by : (t : Result (List ℕ) FieldRefusal) → (t >>= (λ v. or_refusal (BadBase64 x) (octets_in v))) ≡ Ok o → (w : List ℕ) × (t ≡ Ok w) × (octets_in w ≡ Some o)
    by (Ok w) f = (w, refl, some w (octets_in w) f)
    by (Err refusal) f = absurd cc

joined_moves : (all others : List RowOf) (moves : ℕ → ℕ → Type 0) → ((x y : ℕ) → moves x y → (row_at others y).kind ≡ (row_at all x).kind) → ((x y : ℕ) → moves x y → (row_at others y).value ≡ (row_at all x).value)
    → (xs ys : List ℕ) → Pairwise moves xs ys → (v : List ℕ) → joined all xs ≡ Ok v → joined others ys ≡ Ok v
unfolding joined
joined_moves all others moves kind value [] [] h v e = e
joined_moves all others moves kind value [] (y ∷ ys) h v e = absurd h
joined_moves all others moves kind value (x ∷ xs) [] h v e = absurd h
joined_moves all others moves kind value (x ∷ xs) (y ∷ ys) h v e =
    rw (kind x y h.0, value x y h.0) (by (row_at all x).kind (row_at all x).value (joined all xs) (joined others ys) (joined_moves all others moves kind value xs ys h.1) e)
  where
    added : (k : Kind) (t : List ℕ) (a : List ℕ) → added_by x k t ≡ Ok a → added_by y k t ≡ Ok a
    added kinds.Root t a f = absurd cc
    added kinds.Element t a f = absurd cc
    added kinds.Namespace t a f = absurd cc
    added kinds.Attribute t a f = absurd cc
    added kinds.Text t a f = f
    added kinds.Comment t a f = f
    added kinds.Instruction t a f = absurd cc

    then_ok : (a b : Result (List ℕ) FieldRefusal) (c d : Result (List ℕ) FieldRefusal) → ((u : List ℕ) → a ≡ Ok u → b ≡ Ok u) → ((u : List ℕ) → c ≡ Ok u → d ≡ Ok u)
        → (a >>= (λ first. c >>= (λ rest. Ok (first ++ rest)))) ≡ Ok v → (b >>= (λ first. d >>= (λ rest. Ok (first ++ rest)))) ≡ Ok v
    then_ok (Ok u) b (Ok u') d p q f = rw (p u refl, q u' refl) f
    then_ok (Ok u) b (Err refusal) d p q f = absurd cc
    then_ok (Err refusal) b c d p q f = absurd cc

    by : (k : Kind) (t : List ℕ) (c d : Result (List ℕ) FieldRefusal) → ((u : List ℕ) → c ≡ Ok u → d ≡ Ok u) → (added_by x k t >>= (λ first. c >>= (λ rest. Ok (first ++ rest)))) ≡ Ok v → (added_by y k t >>= (λ first. d >>= (λ rest. Ok (first ++ rest)))) ≡ Ok v
    by k t c d q f = then_ok (added_by x k t) (added_by y k t) c d (λ u g. added k t u g) q f

module _ (octets : List ℕ) (rows : List RowOf) (i : ℕ) (w o : List ℕ) (r : IsRefilled octets rows i w) (shape : IsWellShaped rows) (shape' : IsWellShaped r.others) (alone : HasTextAlone rows i) (value : is_value rows i ≡ true) (spelled : octets_in w ≡ Some o) where
  abbrev pub number : ℕ → ℕ
  number = renumbered r.old r.new

  abbrev pub kept : ℕ → Bool
  kept k = nat_lt k r.below || (nat_le r.old k && nat_lt k (length rows))

  abbrev moves : ℕ → ℕ → Type 0
  moves = moved_by number kept

  grown : r.below ≤ r.new
  grown = omega (arith, r.grows)

  pub low : (k : ℕ) → k < r.old → number k ≡ k
  low k lt = ap (λ b. if b then k else (k + r.new) - r.old) (lt-ltb k r.old lt)

  pub high : (k : ℕ) → r.old ≤ k → number k ≡ (k + r.new) - r.old
  high k le = ap (λ b. if b then k else (k + r.new) - r.old) (le-ltb k r.old le)

  pub kept_low : (k : ℕ) → k < r.below → kept k ≡ true
  kept_low k lt = ap (λ b. b || (nat_le r.old k && nat_lt k (length rows))) (lt-ltb k r.below lt)

  pub kept_high : (k : ℕ) → r.old ≤ k → k < length rows → kept k ≡ true
  kept_high k le lt = or_true (nat_lt k r.below) (nat_le r.old k && nat_lt k (length rows)) (and_from (nat_le r.old k) (nat_lt k (length rows)) (le-leb r.old k le) (lt-ltb k (length rows) lt))
    where
      or_true : (a b : Bool) → b ≡ true → (a || b) ≡ true
      or_true true b e = refl
      or_true false b e = e

  pub kept_cases : (k : ℕ) → kept k ≡ true → (k < r.below) ⊎ ((r.old ≤ k) × (k < length rows))
  kept_cases k e = by (nat_lt k r.below) refl e
    where
      by : (b : Bool) → nat_lt k r.below ≡ b → (b || (nat_le r.old k && nat_lt k (length rows))) ≡ true → (k < r.below) ⊎ ((r.old ≤ k) × (k < length rows))
      by true is h = inl (ltb-true k r.below is)
      by false is h = let parts = and_parts (nat_le r.old k) (nat_lt k (length rows)) h in inr (leb-true r.old k parts.0, ltb-true k (length rows) parts.1)

  pub alike_at : (k : ℕ) → kept k ≡ true → IsAlike number r.below (row_at rows k) (row_at r.others (number k))
  alike_at k e = elim (kept_cases k e) [
    | inl front ↦ subst (λ n. IsAlike number r.below (row_at rows k) (row_at r.others n)) (sym (low k (omega (arith, front, r.starts)))) (r.alike.before k front)
    | inr behind ↦ r.alike.behind k behind.0 behind.1
  ]

  kept_within : (k : ℕ) → kept k ≡ true → k < length rows
  kept_within k e = elim (kept_cases k e) [ inl front ↦ omega (arith, front, r.starts, r.alike.enough) | inr behind ↦ behind.1 ]

  not_kept : (k : ℕ) → k < length rows → (row_at rows k).kind ≢ Text → kept k ≡ true
  not_kept k lt other = elim (cases_lt k r.below) [
    | inl front ↦ kept_low k front
    | inr past ↦ elim (cases_lt k r.old) [
      | inl gone ↦ absurd (other (r.stood k past gone).kind)
      | inr behind ↦ kept_high k behind lt
    ]
  ]

  pub element_kept : (k : ℕ) → k < length rows → (row_at rows k).kind ≡ Element → kept k ≡ true
  element_kept k lt e = not_kept k lt (λ is. false≢true (sym (ap is_element is) ∙ ap is_element e))

  parent_kept : (k : ℕ) → k < length rows → kept (row_at rows k).parent ≡ true
  parent_kept k lt =
      let inner = shape.nesting.parent_inner k lt in
      not_kept (row_at rows k).parent (under k lt) (λ is. text_no_inner (row_at rows (row_at rows k).parent).kind is inner)
    where
      under : (k : ℕ) → k < length rows → (row_at rows k).parent < length rows
      under k lt = elim (cases_eq k 0) [
        | inl first ↦ omega (arith, ap (λ j. (row_at rows j).parent) first, shape.root_parent, lt)
        | inr later ↦ omega (arith, shape.nesting.parent_before k (omega (arith, later)) lt, lt)
      ]

  pub number_apart : (a b : ℕ) → kept a ≡ true → kept b ≡ true → number a ≡ number b → a ≡ b
  number_apart a b ka kb e = by (kept_cases a ka) (kept_cases b kb)
    where
      by : ((a < r.below) ⊎ ((r.old ≤ a) × (a < length rows))) → ((b < r.below) ⊎ ((r.old ≤ b) × (b < length rows))) → a ≡ b
      by (inl x) (inl y) = omega (arith, e, low a (omega (arith, x, r.starts)), low b (omega (arith, y, r.starts)))
      by (inl x) (inr y) = omega (arith, e, low a (omega (arith, x, r.starts)), high b y.0, x, y.0, grown)
      by (inr x) (inl y) = omega (arith, e, high a x.0, low b (omega (arith, y, r.starts)), y, x.0, grown)
      by (inr x) (inr y) = omega (arith, e, high a x.0, high b y.0, x.0, y.0)

  number_zero : (k : ℕ) → kept k ≡ true → nat_lt 0 k ≡ nat_lt 0 (number k)
  number_zero k e = by (kept_cases k e)
    where
      by : ((k < r.below) ⊎ ((r.old ≤ k) × (k < length rows))) → nat_lt 0 k ≡ nat_lt 0 (number k)
      by (inl x) = ap (nat_lt 0) (sym (low k (omega (arith, x, r.starts))))
      by (inr x) = lt-ltb 0 k (omega (arith, x.0, r.starts, r.inside)) ∙ sym (lt-ltb 0 (number k) (omega (arith, high k x.0, x.0, grown, r.inside)))

  i_low : i < r.old
  i_low = omega (arith, r.inside, r.starts)

  i_kept : kept i ≡ true
  i_kept = kept_low i r.inside

  parent_same : (k x : ℕ) → kept k ≡ true → kept x ≡ true → eqb (row_at rows k).parent x ≡ eqb (row_at r.others (number k)).parent (number x)
  parent_same k x ek ex =
      let a = alike_at k ek in
      eqb_same (row_at rows k).parent x (row_at r.others (number k)).parent (number x) (λ e. a.parent ∙ ap number e)
      (λ e. number_apart (row_at rows k).parent x (parent_kept k (kept_within k ek)) ex (sym a.parent ∙ e))

  -- a test that passes the same rows, and none of those that are gone or new
  selected : (p q : ℕ → Bool) (a : ℕ) → a ≤ 1 → ((k : ℕ) → kept k ≡ true → p k ≡ q (number k)) → ((k : ℕ) → r.below ≤ k → k < r.old → p k ≡ false) → ((k : ℕ) → r.below ≤ k → k < r.new → q k ≡ false)
      → Pairwise moves (filter p (range_with_len a (length rows - a))) (filter q (range_with_len a (length r.others - a)))
  selected p q a le same gone fresh =
      let count = r.alike.count in
      let enough = r.alike.enough in
      let starts = r.starts in
      let inside = r.inside in
      let n = length rows - r.old in
      let many : length r.others - r.new ≡ n = omega (arith, count, enough) in
      let one : filter p (range_with_len a (length rows - a)) ≡ filter p (range_with_len a (r.below - a)) ++ filter p (range_with_len r.old n) =
      passing-cut p a r.below (length rows) (omega (arith, le, inside)) (omega (arith, starts, enough))
      ∙ ap (λ t. filter p (range_with_len a (r.below - a)) ++ t) (passing-cut p r.below r.old (length rows) starts enough
      ∙ ap (λ t. t ++ filter p (range_with_len r.old n)) (passing_none p r.below (r.old - r.below) (λ k ge lt. gone k ge (omega (arith, lt, starts))))) in
      let two : filter q (range_with_len a (length r.others - a)) ≡ filter q (range_with_len a (r.below - a)) ++ filter q (range_with_len r.new n) =
      passing-cut q a r.below (length r.others) (omega (arith, le, inside)) (omega (arith, grown, count, enough))
      ∙ ap (λ t. filter q (range_with_len a (r.below - a)) ++ t) (passing-cut q r.below r.new (length r.others) grown (omega (arith, count, enough))
      ∙ ap (λ t. t ++ filter q (range_with_len r.new (length r.others - r.new))) (passing_none q r.below (r.new - r.below) (λ k ge lt. fresh k ge (omega (arith, lt, grown))))
      ∙ ap (λ t. filter q (range_with_len r.new t)) many) in
      let front = pairs_pass moves p q (r.below - a) a a (λ j lt k l e f.
      let small : k < r.below = omega (arith, lt, e) in
      let stays : number k ≡ l = low k (omega (arith, small, starts)) ∙ omega (arith, e, f) in
      (same k (kept_low k small) ∙ ap q stays, (kept_low k small, sym stays))) in
      let back = pairs_pass moves p q n r.old r.new (λ j lt k l e f.
      let from : r.old ≤ k = omega (arith, e) in
      let there : k < length rows = omega (arith, lt, e, enough) in
      let goes : number k ≡ l = high k from ∙ omega (arith, e, f) in
      (same k (kept_high k from there) ∙ ap q goes, (kept_high k from there, sym goes))) in
      subst (λ xs. Pairwise moves xs (filter q (range_with_len a (length r.others - a)))) (sym one)
      (subst (λ ys. Pairwise moves (filter p (range_with_len a (r.below - a)) ++ filter p (range_with_len r.old n)) ys) (sym two)
      (pairs_append moves (filter p (range_with_len a (r.below - a))) (filter p (range_with_len r.old n)) (filter q (range_with_len a (r.below - a))) (filter q (range_with_len r.new n)) front back))

  -- the text that is new, if one is
  fresh_text : (k : ℕ) → r.below ≤ k → k < r.new → IsTextOf r.others k i w
  fresh_text k ge lt = by w refl
    where
      by : (v : List ℕ) → w ≡ v → IsTextOf r.others k i w
      by [] is = absurd (omega (arith, ge, lt, r.grows, ap text_count is))
      by (c ∷ v) is =
          let here : r.below ≡ k = omega (arith, ge, lt, r.grows, ap text_count is) in
          subst (λ n. IsTextOf r.others n i w) here (r.stands (λ none. not_nil c v (sym none ∙ is)))
        where
          not_nil : (c : ℕ) (v : List ℕ) → [] ≡ c ∷ v → ⊥
          not_nil c v e = cc

  -- ---- attributes
  attributes_move : (x : ℕ) → kept x ≡ true → Pairwise moves (attribute_rows rows x) (attribute_rows r.others (number x))
  attributes_move x ex =
      selected (is_attribute_of rows x) (is_attribute_of r.others (number x)) 1 (omega arith)
      (λ k ek. ap (λ t. is_attribute t && eqb (row_at rows k).parent x) (sym (alike_at k ek).kind) ∙ ap (λ t. is_attribute (row_at r.others (number k)).kind && t) (parent_same k x ek ex))
      (λ k ge lt. ap (λ t. is_attribute t && eqb (row_at rows k).parent x) (r.stood k ge lt).kind)
      (λ k ge lt. ap (λ t. is_attribute t && eqb (row_at r.others k).parent (number x)) (fresh_text k ge lt).kind)

  found_same : (name : List ℕ) (xs ys : List ℕ) → Pairwise moves xs ys → option_map (λ y. (row_at r.others y).value) (find (is_attribute_named r.others name) ys) ≡ option_map (λ y. (row_at rows y).value) (find (is_attribute_named rows name) xs)
  found_same name [] [] h = refl
  found_same name [] (y ∷ ys) h = absurd h
  found_same name (x ∷ xs) [] h = absurd h
  found_same name (x ∷ xs) (y ∷ ys) h = by (is_attribute_named rows name x) (is_attribute_named r.others name y) same (found_same name xs ys h.1)
    where
      a : IsAlike number r.below (row_at rows x) (row_at r.others y)
      a = subst (λ n. IsAlike number r.below (row_at rows x) (row_at r.others n)) (sym h.0.1) (alike_at x h.0.0)

      same : is_attribute_named r.others name y ≡ is_attribute_named rows name x
      same = ap (λ t. bytes_eq t [] && bytes_eq (row_at r.others y).local_name name) a.uri ∙ ap (λ t. bytes_eq (row_at rows x).uri [] && bytes_eq t name) a.local_name

      by : (s t : Bool) → t ≡ s → option_map (λ z. (row_at r.others z).value) (find (is_attribute_named r.others name) ys) ≡ option_map (λ z. (row_at rows z).value) (find (is_attribute_named rows name) xs)
          → option_map (λ z. (row_at r.others z).value) (cond t (Some y) (find (is_attribute_named r.others name) ys)) ≡ option_map (λ z. (row_at rows z).value) (cond s (Some x) (find (is_attribute_named rows name) xs))
      by true true e rest = ap Some a.value
      by false false e rest = rest
      by true false e rest = absurd (false≢true e)
      by false true e rest = absurd (false≢true (sym e))

  -- ---- children
  child_same : (x k : ℕ) → kept x ≡ true → kept k ≡ true → is_child rows x k ≡ is_child r.others (number x) (number k)
  child_same x k ex ek =
      ap (λ t. t && eqb (row_at rows k).parent x && not (is_field (row_at rows k).kind)) (number_zero k ek)
      ∙ ap (λ t. nat_lt 0 (number k) && t && not (is_field (row_at rows k).kind)) (parent_same k x ek ex)
      ∙ ap (λ t. nat_lt 0 (number k) && eqb (row_at r.others (number k)).parent (number x) && not (is_field t)) (sym (alike_at k ek).kind)

  no_child : (all : List RowOf) (x k : ℕ) → (row_at all k).parent ≢ x → is_child all x k ≡ false
  no_child all x k ne = ap (λ t. nat_lt 0 k && t && not (is_field (row_at all k).kind)) (not_equal (row_at all k).parent x ne) ∙ middle (nat_lt 0 k) (not (is_field (row_at all k).kind))
    where
      middle : (a b : Bool) → (a && false && b) ≡ false
      middle true b = refl
      middle false b = refl

  children_move : (x : ℕ) → kept x ≡ true → x ≢ i → Pairwise moves (children rows x) (children r.others (number x))
  children_move x ex other =
      subst (λ t. Pairwise moves (filter (is_child rows x) (range_with_len 0 t)) (children r.others (number x))) (minus_none (length rows))
      (subst (λ t. Pairwise moves (filter (is_child rows x) (range_with_len 0 (length rows - 0))) (filter (is_child r.others (number x)) (range_with_len 0 t))) (minus_none (length r.others))
      (selected (is_child rows x) (is_child r.others (number x)) 0 (omega arith)
      (λ k ek. child_same x k ex ek)
      (λ k ge lt. no_child rows x k (λ e. other (sym e ∙ (r.stood k ge lt).parent)))
      (λ k ge lt. no_child r.others (number x) k (λ e. other (number_apart x i ex i_kept (sym e ∙ (fresh_text k ge lt).parent ∙ sym (low i i_low)))))))

  -- ---- the element itself
  own_children : children r.others i ≡ filter (is_child r.others i) (range_with_len r.below (r.new - r.below))
  own_children =
      let count = r.alike.count in
      let enough = r.alike.enough in
      let whole : length r.others - 0 ≡ length r.others = omega arith in
      ap (λ t. filter (is_child r.others i) (range_with_len 0 t)) (sym whole)
      ∙ passing-cut (is_child r.others i) 0 r.below (length r.others) (omega arith) (omega (arith, grown, count, enough))
      ∙ ap (λ t. t ++ filter (is_child r.others i) (range_with_len r.below (length r.others - r.below))) (passing_none (is_child r.others i) 0 (r.below - 0) (λ k ge lt. in_front k (omega (arith, lt))))
      ∙ passing-cut (is_child r.others i) r.below r.new (length r.others) grown (omega (arith, count, enough))
      ∙ ap (λ t. filter (is_child r.others i) (range_with_len r.below (r.new - r.below)) ++ t) (passing_none (is_child r.others i) r.new (length r.others - r.new) (λ k ge lt. behind k ge (omega (arith, lt, count, enough))))
      ∙ append-nil (filter (is_child r.others i) (range_with_len r.below (r.new - r.below)))
    where
      field_no_child : (all : List RowOf) (k : ℕ) → is_field (row_at all k).kind ≡ true → is_child all i k ≡ false
      field_no_child all k e = ap (λ t. nat_lt 0 k && eqb (row_at all k).parent i && not t) e ∙ last (nat_lt 0 k && eqb (row_at all k).parent i)
        where
          last : (b : Bool) → (b && false) ≡ false
          last true = refl
          last false = refl

      in_front : (k : ℕ) → k < r.below → is_child r.others i k ≡ false
      in_front k lt = elim (cases_lt i k) [
        | inl more ↦ field_no_child r.others k (ap is_field (r.alike.before k lt).kind ∙ r.own k more lt)
        | inr le ↦ no_child r.others i k (λ e.
            let there : k < length rows = omega (arith, lt, r.starts, r.alike.enough) in
            let up = (r.alike.before k lt).parent in
            elim (cases_eq k 0) [
              | inl first ↦
                  let q : (row_at rows k).parent ≡ 0 = ap (λ j. (row_at rows j).parent) first ∙ shape.root_parent in
                  let z : number (row_at rows k).parent ≡ 0 = ap number q ∙ low 0 (omega (arith, i_low)) in
                  some_i (omega (arith, e, up, z))
              | inr later ↦
                  let q = shape.nesting.parent_before k (omega (arith, later)) there in
                  let z = low (row_at rows k).parent (omega (arith, q, lt, r.starts)) in
                  omega (arith, e, up, z, q, le)
            ])
      ]
        where
          some_i : i ≡ 0 → ⊥
          some_i z = false≢true (sym (ap is_element (ap (λ j. (row_at rows j).kind) z ∙ shape.root_kind)) ∙ ap is_element alone.element)

      behind : (k : ℕ) → r.new ≤ k → k < length r.others → is_child r.others i k ≡ false
      behind k ge lt =
          let count = r.alike.count in
          let enough = r.alike.enough in
          let before : ℕ = (k + r.old) - r.new in
          let from : r.old ≤ before = omega (arith, ge) in
          let there : before < length rows = omega (arith, ge, lt, count, enough) in
          let is : number before ≡ k = high before from ∙ omega (arith, ge) in
          let kb = kept_high before from there in
          no_child r.others i k (λ e.
          let up : (row_at rows before).parent ≡ i =
          number_apart (row_at rows before).parent i (parent_kept before there) i_kept (sym (alike_at before kb).parent ∙ ap (λ n. (row_at r.others n).parent) is ∙ e ∙ sym (low i i_low)) in
          let nested = shape.nesting.last_within before there in
          let reach = shape.nesting.last_from before there in
          let same : (row_at rows (row_at rows before).parent).last ≡ (row_at rows i).last = ap (λ n. (row_at rows n).last) up in
          omega (arith, nested, reach, same, from, r.ends))

  text_is : simple_text r.others i ≡ Ok w
  text_is = ap (joined r.others) own_children ∙ by w refl
    where
      by : (v : List ℕ) → w ≡ v → joined r.others (filter (is_child r.others i) (range_with_len r.below (r.new - r.below))) ≡ Ok w
      by [] is =
          let none : r.new - r.below ≡ 0 = omega (arith, r.grows, ap text_count is) in
          ap (λ n. joined r.others (filter (is_child r.others i) (range_with_len r.below n))) none ∙ joined_nil r.others ∙ ap Ok (sym is)
      by (c ∷ v) is =
          let one : r.new - r.below ≡ 1 = omega (arith, r.grows, ap text_count is) in
          let t = fresh_text r.below (omega arith) (omega (arith, r.grows, ap text_count is)) in
          let child : is_child r.others i r.below ≡ true =
          ap (λ b. b && eqb (row_at r.others r.below).parent i && not (is_field (row_at r.others r.below).kind)) (lt-ltb 0 r.below (omega (arith, r.inside)))
          ∙ ap (λ b. b && not (is_field (row_at r.others r.below).kind)) (eq-eqb (row_at r.others r.below).parent i t.parent)
          ∙ ap (λ k. not (is_field k)) t.kind in
          ap (λ n. joined r.others (filter (is_child r.others i) (range_with_len r.below n))) one
          ∙ ap (λ b. joined r.others (cond b (r.below ∷ []) [])) child
          ∙ joined_one r.others r.below w t.kind t.value

  -- ---- all of it
  abbrev pub content : ℕ → List ℕ → List ℕ
  content x old = if i == x then o else old

  joined_same : (xs ys : List ℕ) → Pairwise moves xs ys → (v : List ℕ) → joined rows xs ≡ Ok v → joined r.others ys ≡ Ok v
  joined_same xs ys h v e = joined_moves rows r.others moves (λ x y m. subst (λ n. (row_at r.others n).kind ≡ (row_at rows x).kind) (sym m.1) (alike_at x m.0).kind) (λ x y m. subst (λ n. (row_at r.others n).value ≡ (row_at rows x).value) (sym m.1) (alike_at x m.0).value) xs ys h v e

  octets_other : (x : ℕ) → kept x ≡ true → x ≢ i → (old : List ℕ) → simple_octets rows x ≡ Ok old → simple_octets r.others (number x) ≡ Ok old
  octets_other x ex other old e =
      let t = text_of_octets rows x old e in
      octets_spelled r.others (number x) t.0 old (joined_same (children rows x) (children r.others (number x)) (children_move x ex other) t.0 t.1) t.2

  octets_move : (x y : ℕ) → moves x y → (old : List ℕ) → simple_octets rows x ≡ Ok old → simple_octets r.others y ≡ Ok (content x old)
  octets_move x y m old e = by (eqb i x) refl
    where
      by : (b : Bool) → eqb i x ≡ b → simple_octets r.others y ≡ Ok (if b then o else old)
      by true is =
          let here : y ≡ i = m.1 ∙ ap number (sym (eqb-true i x is)) ∙ low i i_low in
          ap (simple_octets r.others) here ∙ octets_spelled r.others i w o text_is spelled
      by false is = ap (simple_octets r.others) m.1 ∙ octets_other x m.0 (λ same. false≢true (sym is ∙ eq-eqb i x (sym same))) old e

  pub stands_for : StandsFor moves content rows r.others
  stands_for = record {
    kind = λ x y m. subst (λ n. (row_at r.others n).kind ≡ (row_at rows x).kind) (sym m.1) (alike_at x m.0).kind;
    local_name = λ x y m. subst (λ n. (row_at r.others n).local_name ≡ (row_at rows x).local_name) (sym m.1) (alike_at x m.0).local_name;
    uri = λ x y m. subst (λ n. (row_at r.others n).uri ≡ (row_at rows x).uri) (sym m.1) (alike_at x m.0).uri;
    value = λ x y m. subst (λ n. (row_at r.others n).value ≡ (row_at rows x).value) (sym m.1) (alike_at x m.0).value;
    attributes = λ x y m name. subst (λ n. attribute r.others n name ≡ attribute rows x name) (sym m.1) (found_same name (attribute_rows rows x) (attribute_rows r.others (number x)) (attributes_move x m.0));
    children = λ x y m no_value. subst (λ n. Pairwise moves (children rows x) (children r.others n)) (sym m.1) (children_move x m.0 (λ is. false≢true (sym no_value ∙ ap (is_value rows) is ∙ value)));
    octets = λ x y m is_one old e. octets_move x y m old e;
  }

  -- ---- signatures
  signature_same : (k : ℕ) → kept k ≡ true → is_named rows Signature k ≡ is_named r.others Signature (number k)
  signature_same k ek =
      let a = alike_at k ek in
      ap (λ t. is_element t && bytes_eq (row_at rows k).uri (namespace_of Signature) && bytes_eq (row_at rows k).local_name (local_name Signature)) (sym a.kind)
      ∙ ap (λ t. is_element (row_at r.others (number k)).kind && bytes_eq t (namespace_of Signature) && bytes_eq (row_at rows k).local_name (local_name Signature)) (sym a.uri)
      ∙ ap (λ t. is_element (row_at r.others (number k)).kind && bytes_eq (row_at r.others (number k)).uri (namespace_of Signature) && bytes_eq t (local_name Signature)) (sym a.local_name)

  text_not_named : (all : List RowOf) (k : ℕ) → (row_at all k).kind ≡ Text → is_named all Signature k ≡ false
  text_not_named all k e = ap (λ t. is_element t && bytes_eq (row_at all k).uri (namespace_of Signature) && bytes_eq (row_at all k).local_name (local_name Signature)) e

  pub signatures_move : Pairwise moves (signatures rows) (signatures r.others)
  signatures_move =
      subst (λ t. Pairwise moves (filter (is_named rows Signature) (range_with_len 0 t)) (signatures r.others)) (minus_none (length rows))
      (subst (λ t. Pairwise moves (filter (is_named rows Signature) (range_with_len 0 (length rows - 0))) (filter (is_named r.others Signature) (range_with_len 0 t))) (minus_none (length r.others))
      (selected (is_named rows Signature) (is_named r.others Signature) 0 (omega arith) signature_same (λ k ge lt. text_not_named rows k (r.stood k ge lt).kind) (λ k ge lt. text_not_named r.others k (fresh_text k ge lt).kind)))
