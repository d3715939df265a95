-- Lists of rows of a document.
use Rattle.std.proofs.Common.{◌≡◌, ℕ, zero, suc, ◌<◌, ◌≤◌, ◌+◌, ◌-◌, Bool, true, false, not, cond, List, [], ◌∷◌, ◌++◌, length, take, drop, reverse, get_or, refl, sym, ap, ◌∙◌, arith, append_assoc, append-nil}
use Rattle.std.specs.List.{All, filter, flat_map, range_with_len}
use Rattle.std.proofs.lemmas.List.{get_or-drop, get_or-reverse, length-drop, length-reverse, take_more}
use Rattle.std.proofs.lemmas.List.Concat.{flat_map-append}
use Rattle.std.specs.Prelude.{slice_range}
use Rattle.xml_doc.specs.Shape.{no_row, row_at}
use Rattle.std.proofs.lemmas.List.Elements.{All-filter}
use Rattle.std.proofs.lemmas.List.Filters.{length-filter_both}
use Rattle.std.proofs.lemmas.List.FromFn.{length-range_with_len, get_or-range_with_len}
use Rattle.xml_doc.specs.Axes.{axis_rows, is_reverse, on_axis}
use Rattle.xml_doc.specs.Rows.{RowOf}
use Rattle.xml_doc.specs.declared.axis.Axis.{Axis}

-- the numbers below n that pass are below n
pub passing_within : (p : ℕ → Bool) (n : ℕ) → All (λ y. y < n) (filter p (range_with_len 0 n))
passing_within p n = All-filter p (λ y. y < n) (range_with_len 0 n) (λ k d h.
    let long = length-range_with_len 0 n in
    let is = get_or-range_with_len 0 n k d (omega (arith, h, long)) in
    omega (arith, is, h, long))

pub All-reverse : (n : ℕ) (ys : List ℕ) → All (λ y. y < n) ys → All (λ y. y < n) (reverse ys)
All-reverse n ys all k d h =
    let long : length (reverse ys) ≡ length ys = length-reverse ys in
    let inside : k < length ys = omega (arith, h, long) in
    let is = get_or-reverse ys k d inside in
    let other = all (length ys - 1 - k) d (omega (arith, inside)) in
    omega (arith, is, other)

in_order : (b : Bool) (n : ℕ) (ys : List ℕ) → All (λ y. y < n) ys → All (λ y. y < n) (cond b (reverse ys) ys)
in_order true n ys all = All-reverse n ys all
in_order false n ys all = all

-- the rows of an axis are rows
pub axis_within : (a : Axis) (rows : List RowOf) (x : ℕ) → All (λ y. y < length rows) (axis_rows a rows x)
axis_within a rows x = in_order (is_reverse a) (length rows) (filter (on_axis a rows x) (range_with_len 0 (length rows))) (passing_within (on_axis a rows x) (length rows))

-- ---- rows that pass a test, one after another
module _ (p : ℕ → Bool) (left : ℕ) (old all walk rest : List ℕ) (y : ℕ) (steps : walk ≡ y ∷ rest) (so_far : old ++ take left (filter p walk) ≡ all) where
  pub filter_turn : (fewer : ℕ) → left ≡ suc fewer → p y ≡ true → (old ++ (y ∷ [])) ++ take fewer (filter p rest) ≡ all
  filter_turn fewer e h =
      append_assoc old (y ∷ []) (take fewer (filter p rest))
      ∙ ap (λ (n : ℕ). old ++ take n (y ∷ filter p rest)) (sym e)
      ∙ ap (λ (t : List ℕ). old ++ take left t) (ap (λ b. cond b (y ∷ filter p rest) (filter p rest)) (sym h) ∙ ap (filter p) (sym steps)) ∙ so_far

  pub filter_past : p y ≡ false → old ++ take left (filter p rest) ≡ all
  filter_past h = ap (λ (t : List ℕ). old ++ take left t) (ap (λ b. cond b (y ∷ filter p rest) (filter p rest)) (sym h) ∙ ap (filter p) (sym steps)) ∙ so_far

take_none : (n : ℕ) → ◌≡◌ {A = List ℕ} (take n []) []
take_none zero = refl
take_none (suc n) = refl

-- none are left in the walk, or none are wanted
pub filter_all : (p : ℕ → Bool) (left : ℕ) (old all walk : List ℕ) → walk ≡ [] → old ++ take left (filter p walk) ≡ all → old ≡ all
filter_all p left old all walk none so_far = sym (append-nil old) ∙ ap (λ (t : List ℕ). old ++ t) (sym (take_none left)) ∙ ap (λ (t : List ℕ). old ++ take left (filter p t)) (sym none) ∙ so_far

pub filter_enough : (p : ℕ → Bool) (left : ℕ) (old all walk : List ℕ) → left ≡ 0 → old ++ take left (filter p walk) ≡ all → old ≡ all
filter_enough p left old all walk none so_far = sym (append-nil old) ∙ ap (λ (n : ℕ). old ++ take n (filter p walk)) (sym none) ∙ so_far

-- ---- how many rows pass
shorter : (p : ℕ → Bool) (ys : List ℕ) → length (filter p ys) ≤ length ys
shorter p ys = let parts = length-filter_both p (λ y. not (p y)) (λ y. refl) ys in omega (arith, parts)

ordered_length : (b : Bool) (ys : List ℕ) → length (cond b (reverse ys) ys) ≡ length ys
ordered_length true ys = length-reverse ys
ordered_length false ys = refl

pub few_pass : (a : Axis) (rows : List RowOf) (x : ℕ) (p : ℕ → Bool) → length (filter p (axis_rows a rows x)) ≤ length rows
few_pass a rows x p =
    let on = filter (on_axis a rows x) (range_with_len 0 (length rows)) in
    let long : length (axis_rows a rows x) ≡ length on = ordered_length (is_reverse a) on in
    let all : length (range_with_len 0 (length rows)) ≡ length rows = length-range_with_len 0 (length rows) in
    omega (arith, shorter p (axis_rows a rows x), long, shorter (on_axis a rows x) (range_with_len 0 (length rows)), all)

-- ---- what rows add, one after another
pub slice_more : (rows : List RowOf) (f : RowOf → List ℕ) (y k : ℕ) → y ≤ k → k < length rows → flat_map f (slice_range rows y (k + 1)) ≡ flat_map f (slice_range rows y k) ++ f (row_at rows k)
slice_more rows f y k from lt =
    let e : k + 1 - y ≡ (k - y) + 1 = omega (arith, from) in
    let here : y + (k - y) ≡ k = omega (arith, from) in
    let long : length (drop y rows) ≡ length rows - y = length-drop y rows in
    let inside : k - y < length (drop y rows) = omega (arith, from, lt, long) in
    let front = flat_map f (take (k - y) (drop y rows)) in
    rw e (ap (flat_map f) (take_more (drop y rows) (k - y) no_row inside)
    ∙ flat_map-append f (take (k - y) (drop y rows)) (get_or (drop y rows) (k - y) no_row ∷ [])
    ∙ ap (λ (r : RowOf). front ++ (f r ++ [])) (get_or-drop y rows (k - y) no_row ∙ ap (λ (i : ℕ). get_or rows i no_row) here)
    ∙ ap (λ (t : List ℕ). front ++ t) (append-nil (f (row_at rows k))))
