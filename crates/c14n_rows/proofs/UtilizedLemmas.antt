-- Marks of the namespace rows of an element whose prefixes its attributes have.
use Rattle.std.proofs.Common.{◌≡◌, ℕ, zero, suc, ◌+◌, ◌-◌, ◌<◌, ◌≤◌, ◌&&◌, ◌||◌, not, Bool, true, false, eqb, List, [], ◌∷◌, ◌++◌, length, map, replicate, get_or, slice_set, refl, ap, sym, ◌∙◌, arith, inl, inr}
use Rattle.std.specs.List.{list_any, range_with_len}
use Rattle.std.specs.Str.{bytes_eq}
use Rattle.std.proofs.lemmas.Bool.{and_from, and_left, and_right, or_parts, or_right, cases_lt, ne_eqb, false_from_ne_true, false≢true}
use Rattle.std.proofs.lemmas.List.Folds.{list_any-append}
use Rattle.std.proofs.lemmas.List.FromFn.{get_or-map-range_with_len, length-map-range_with_len}
use Rattle.std.proofs.lemmas.Slice.Eq.{bytes_eq-Decides}
use Rattle.xml_doc.specs.Rows.{RowOf}
use Rattle.xml_doc.specs.Shape.{row_at, IsWellShaped}
use Rattle.xml_doc.specs.Fields.{is_namespace_of, namespace_rows, attribute_rows}
use Rattle.xml_doc.proofs.Numbers.{range-append}
use Rattle.xml_doc.proofs.Ranges.{numbers}
use Rattle.c14n_text.specs.Namespaces.{Rule, inclusive, eleven, exclusive, follows_inclusive_rule, has_prefix, visibly_utilizes}
use Rattle.c14n_rows.specs.Code.Stacks.{is_of}
use Rattle.c14n_rows.specs.Code.Utilized.{AreMarked, is_utilized, marks_of}
use Rattle.c14n_rows.proofs.NameLemmas.{differ, namespaces_range, place_of}

or_false : (c : Bool) → (c || false) ≡ c
or_false true = refl
or_false false = refl

-- equality of octets doesn't ask which are first
apart : (p q : List ℕ) → bytes_eq p q ≡ false → bytes_eq q p ≡ false
apart p q e = false_from_ne_true (bytes_eq q p) (λ (same : bytes_eq q p ≡ true). false≢true (sym e ∙ (bytes_eq-Decides p q).1 (sym ((bytes_eq-Decides q p).0 same))))

-- a test that passes nowhere in a range
none_at : (p : ℕ → Bool) (n a z : ℕ) → list_any p (range_with_len a n) ≡ false → a ≤ z → z < a + n → p z ≡ false
none_at p zero a z e le lt = absurd (omega arith)
none_at p (suc n) a z e le lt =
    let both = or_parts (p a) (list_any p (range_with_len (a + 1) n)) e in
    elim (cases_lt a z) [
      | inl above ↦ none_at p n (a + 1) z both.1 (omega arith) (omega arith)
      | inr here ↦ let same : z ≡ a = omega arith in ap p same ∙ both.0
    ]

-- marks that two tests give alike
map_same : (f g : ℕ → Bool) (n a : ℕ) → ((z : ℕ) → a ≤ z → z < a + n → f z ≡ g z) → map f (range_with_len a n) ≡ map g (range_with_len a n)
map_same f g zero a same = refl
map_same f g (suc n) a same =
    ap (λ (t : Bool). t ∷ map f (range_with_len (a + 1) n)) (same a (omega arith) (omega arith))
    ∙ ap (λ (ts : List Bool). g a ∷ ts) (map_same f g n (a + 1) (λ (z : ℕ) (le : a + 1 ≤ z) (lt : z < a + 1 + n). same z (omega arith) (omega arith)))

-- and that differ at one place, where one is set
set_here : (f g : ℕ → Bool) (n a k y : ℕ) → k < n → y ≡ a + k → g y ≡ true → ((z : ℕ) → a ≤ z → z < a + n → (z ≡ y → ⊥) → f z ≡ g z)
    → slice_set (map f (range_with_len a n)) k true ≡ map g (range_with_len a n)
set_here f g zero a k y lt at is others = absurd (omega arith)
set_here f g (suc n) a zero y lt at is others =
    let same : a ≡ y = omega arith in
    ap (λ (ts : List Bool). true ∷ ts) (map_same f g n (a + 1) (λ (z : ℕ) (le : a + 1 ≤ z) (under : z < a + 1 + n). others z (omega arith) (omega arith) (λ (e : z ≡ y). omega arith)))
    ∙ ap (λ (t : Bool). t ∷ map g (range_with_len (a + 1) n)) (sym (ap g same ∙ is))
set_here f g (suc n) a (suc k) y lt at is others =
    ap (λ (t : Bool). t ∷ slice_set (map f (range_with_len (a + 1) n)) k true) (others a (omega arith) (omega arith) (λ (e : a ≡ y). omega arith))
    ∙ ap (λ (ts : List Bool). g a ∷ ts) (set_here f g n (a + 1) k y (omega arith) (omega arith) is (λ (z : ℕ) (le : a + 1 ≤ z) (under : z < a + 1 + n) (other : z ≡ y → ⊥). others z (omega arith) (omega arith) other))

none_set : (f : ℕ → Bool) → ((z : ℕ) → f z ≡ false) → (n a : ℕ) → replicate n false ≡ map f (range_with_len a n)
none_set f none zero a = refl
none_set f none (suc n) a = ap (λ (t : Bool). t ∷ replicate n false) (sym (none a)) ∙ ap (λ (ts : List Bool). f a ∷ ts) (none_set f none n (a + 1))

pub numbers-last : (f a : ℕ) → f ≤ a → numbers f a ++ a ∷ [] ≡ numbers f (a + 1)
numbers-last f a le =
    let e : (a + 1) - f ≡ (a - f) + 1 = omega arith in let k : f + (a - f) ≡ a = omega arith in
    sym (ap (range_with_len f) e ∙ range-append f (a - f) 1 ∙ ap (λ (j : ℕ). range_with_len f (a - f) ++ range_with_len j 1) k)

-- whether an attribute row in the set has a prefix
module _ (rows : List RowOf) (set : ℕ → Bool) (a : ℕ) where
  abbrev prefix : List ℕ
  prefix = (row_at rows a).prefix_text

  pub outside : (p : List ℕ) → set a ≡ false → has_prefix rows set p a ≡ false
  outside p out = and_left (set a && not (bytes_eq prefix [])) (bytes_eq prefix p) (and_left (set a) (not (bytes_eq prefix [])) out)

  pub without_prefix : (p : List ℕ) → prefix ≡ [] → has_prefix rows set p a ≡ false
  without_prefix p none = and_left (set a && not (bytes_eq prefix [])) (bytes_eq prefix p) (and_right (set a) (not (bytes_eq prefix [])) (ap not ((bytes_eq-Decides prefix []).1 none)))

  of_other : (p : List ℕ) → bytes_eq p prefix ≡ false → has_prefix rows set p a ≡ false
  of_other p other = and_right (set a && not (bytes_eq prefix [])) (bytes_eq prefix p) (apart p prefix other)

  of_prefix : (p : List ℕ) → set a ≡ true → (prefix ≡ [] → ⊥) → p ≡ prefix → has_prefix rows set p a ≡ true
  of_prefix p is some same =
      and_from (set a && not (bytes_eq prefix [])) (bytes_eq prefix p)
      (and_from (set a) (not (bytes_eq prefix [])) is (ap not (false_from_ne_true (bytes_eq prefix []) (λ (e : bytes_eq prefix [] ≡ true). some ((bytes_eq-Decides prefix []).0 e)))))
      ((bytes_eq-Decides prefix p).1 (sym same))

-- the namespace rows of element e end before row `fin`. Attribute row `a` comes after those of `before`
module _ (rows : List RowOf) (set : ℕ → Bool) (e fin : ℕ) (own : namespace_rows rows e ≡ range_with_len (e + 1) (fin - (e + 1))) where
  pub marks-begin : (count : ℕ) → count ≡ fin - (e + 1) → replicate count false ≡ marks_of rows set e []
  marks-begin count is =
      ap (λ (n : ℕ). replicate n false) is ∙ none_set (is_utilized rows set []) (λ (z : ℕ). refl) (fin - (e + 1)) (e + 1)
      ∙ ap (map (is_utilized rows set [])) (sym own)

  pub marks-length : (marks : List Bool) (before : List ℕ) → marks ≡ marks_of rows set e before → length marks ≡ fin - (e + 1)
  marks-length marks before are =
      ap (length {A = Bool}) (are ∙ ap (map (is_utilized rows set before)) own) ∙ length-map-range_with_len (is_utilized rows set before) (e + 1) (fin - (e + 1))

  module _ (before : List ℕ) (a : ℕ) where
    one_more : (z : ℕ) → is_utilized rows set (before ++ a ∷ []) z ≡ (is_utilized rows set before z || has_prefix rows set (row_at rows z).local_name a)
    one_more z =
        list_any-append (has_prefix rows set (row_at rows z).local_name) before (a ∷ [])
        ∙ ap (λ (t : Bool). is_utilized rows set before z || t) (or_false (has_prefix rows set (row_at rows z).local_name a))

    not_marked : (z : ℕ) → has_prefix rows set (row_at rows z).local_name a ≡ false → is_utilized rows set before z ≡ is_utilized rows set (before ++ a ∷ []) z
    not_marked z lacks = sym (one_more z ∙ ap (λ (t : Bool). is_utilized rows set before z || t) lacks ∙ or_false (is_utilized rows set before z))

    -- it has the prefix of none of the namespace rows
    pub none_marked : (marks : List Bool) → marks ≡ marks_of rows set e before → ((z : ℕ) → e < z → z < fin → has_prefix rows set (row_at rows z).local_name a ≡ false) → marks ≡ marks_of rows set e (before ++ a ∷ [])
    none_marked marks are lacks =
        are ∙ ap (map (is_utilized rows set before)) own
        ∙ map_same (is_utilized rows set before) (is_utilized rows set (before ++ a ∷ [])) (fin - (e + 1)) (e + 1) (λ (z : ℕ) (le : e + 1 ≤ z) (lt : z < e + 1 + (fin - (e + 1))). not_marked z (lacks z (omega arith) (omega arith)))
        ∙ ap (map (is_utilized rows set (before ++ a ∷ []))) (sym own)

    pub none_found : (marks : List Bool) → marks ≡ marks_of rows set e before → list_any (is_of rows (row_at rows a).prefix_text) (namespace_rows rows e) ≡ false → marks ≡ marks_of rows set e (before ++ a ∷ [])
    none_found marks are none =
        none_marked marks are (λ (z : ℕ) (above : e < z) (lt : z < fin).
        of_other rows set a (row_at rows z).local_name
        (none_at (is_of rows (row_at rows a).prefix_text) (fin - (e + 1)) (e + 1) z (ap (list_any (is_of rows (row_at rows a).prefix_text)) (sym own) ∙ none) (omega arith) (omega arith)))

    -- it has that of one of them
    pub one_found : IsWellShaped rows → e < fin → fin ≤ length rows → set a ≡ true → ((row_at rows a).prefix_text ≡ [] → ⊥)
        → (marks : List Bool) (y k : ℕ) → marks ≡ marks_of rows set e before → e < y → y < fin → k ≡ y - e - 1 → (row_at rows y).local_name ≡ (row_at rows a).prefix_text
        → slice_set marks k true ≡ marks_of rows set e (before ++ a ∷ [])
    one_found w behind within is some marks y k are above lt at name =
        ap (λ (ts : List Bool). slice_set ts k true) (are ∙ ap (map (is_utilized rows set before)) own)
        ∙ set_here (is_utilized rows set before) (is_utilized rows set (before ++ a ∷ [])) (fin - (e + 1)) (e + 1) k y (omega arith) (omega arith)
        (one_more y ∙ or_right (is_utilized rows set before y) (has_prefix rows set (row_at rows y).local_name a) (of_prefix rows set a (row_at rows y).local_name is some name))
        (λ (z : ℕ) (le : e + 1 ≤ z) (under : z < e + 1 + (fin - (e + 1))) (other : z ≡ y → ⊥).
        not_marked z (of_other rows set a (row_at rows z).local_name
        (ap (bytes_eq (row_at rows z).local_name) (sym name) ∙ differ rows w e fin behind within own z y (omega arith) (omega arith) above lt other)))
        ∙ ap (map (is_utilized rows set (before ++ a ∷ []))) (sym own)

-- the place of a namespace row's mark, and what stands there
pub mark_there : (rows : List RowOf) → IsWellShaped rows → (set : ℕ → Bool) (marks : List Bool) (e y : ℕ) (attributes : List ℕ) → e < length rows → y < length rows → is_namespace_of rows e y ≡ true → marks ≡ marks_of rows set e attributes
    → (e < y) × (y - e - 1 < length marks) × ((d : Bool) → get_or marks (y - e - 1) d ≡ is_utilized rows set attributes y)
mark_there rows w set marks e y attributes there here is are =
    let range = namespaces_range rows w e there in
    let fin = range.0 in let behind = range.1 in let own = range.3 in
    let place = place_of rows w e fin behind range.2 own y here is in
    let above = place.0 in let lt = place.1 in
    let n = marks-length rows set e fin own marks attributes are in (
      above,
      omega arith,
      λ (d : Bool).
          ap (λ (ts : List Bool). get_or ts (y - e - 1) d) (are ∙ ap (map (is_utilized rows set attributes)) own)
          ∙ get_or-map-range_with_len (is_utilized rows set attributes) (e + 1) (fin - (e + 1)) (y - e - 1) y d (omega arith) (omega arith),
    )

-- where a prefix doesn't follow Canonical XML, there are marks
pub exclusive_marks : (rows : List RowOf) (set : ℕ → Bool) (rule : Rule) (e : ℕ) (marks : List Bool) (p : List ℕ) → AreMarked rows set rule e marks → follows_inclusive_rule rule p ≡ false → marks ≡ marks_of rows set e (attribute_rows rows e)
exclusive_marks rows set inclusive e marks p are f = absurd (false≢true (sym f))
exclusive_marks rows set eleven e marks p are f = absurd (false≢true (sym f))
exclusive_marks rows set (exclusive listed) e marks p are f = are

-- no attribute utilizes the default
no_default : (rows : List RowOf) (set : ℕ → Bool) (ks : List ℕ) → list_any (has_prefix rows set []) ks ≡ false
no_default rows set [] = refl
no_default rows set (a ∷ ks) =
    ap (λ (t : Bool). t || list_any (has_prefix rows set []) ks) (never (set a) (bytes_eq (row_at rows a).prefix_text []))
    ∙ no_default rows set ks
  where
    never : (s t : Bool) → ((s && not t) && t) ≡ false
    never false t = refl
    never true true = refl
    never true false = refl

empty_is : (p : List ℕ) → eqb (length p) 0 ≡ bytes_eq p []
empty_is [] = refl
empty_is (c ∷ cs) = ne_eqb (length (c ∷ cs)) 0 (λ (e : length (c ∷ cs) ≡ 0). omega arith)

pub default_utilized : (rows : List RowOf) (set : ℕ → Bool) (e : ℕ) → visibly_utilizes rows set e [] ≡ eqb (length (row_at rows e).prefix_text) 0
default_utilized rows set e =
    ap (λ (t : Bool). bytes_eq (row_at rows e).prefix_text [] || t) (no_default rows set (attribute_rows rows e))
    ∙ or_false (bytes_eq (row_at rows e).prefix_text []) ∙ sym (empty_is (row_at rows e).prefix_text)
