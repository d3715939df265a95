-- Lists of numbers below m, and what is asked of these numbers alone.
use Rattle.std.proofs.Common.{◌≡◌, ℕ, ◌+◌, ◌-◌, ◌<◌, ◌≤◌, Bool, true, false, cond, ◌||◌, Option, Some, None, List, [], ◌∷◌, ◌++◌, zero, suc, take, refl, sym, ap, subst, ◌∙◌, arith, append-nil}
use Rattle.std.specs.List.{flat_map, filter, find, list_any, range_with_len, take_while, prefix_len}
use Rattle.std.proofs.lemmas.List.Elements.{filter-append}
use Rattle.xml_doc.proofs.Numbers.{range-append}

abbrev pub Below : ℕ → List ℕ → Type 0
Below m [] = Unit {0}
Below m (x ∷ xs) = (x < m) × Below m xs

pub below_append : (m : ℕ) (xs ys : List ℕ) → Below m xs → Below m ys → Below m (xs ++ ys)
below_append m [] ys b c = c
below_append m (x ∷ xs) ys b c = (b.0, below_append m xs ys b.1 c)

pub below_filter : (m : ℕ) (p : ℕ → Bool) (xs : List ℕ) → Below m xs → Below m (filter p xs)
below_filter m p [] b = b
below_filter m p (x ∷ xs) b = go (p x) (below_filter m p xs b.1)
  where
    go : (t : Bool) → Below m (filter p xs) → Below m (cond t (x ∷ filter p xs) (filter p xs))
    go true rest = (b.0, rest)
    go false rest = rest

take_while-cons : (p : ℕ → Bool) (x : ℕ) (xs : List ℕ) → take_while p (x ∷ xs) ≡ cond (p x) (x ∷ take_while p xs) []
take_while-cons p x xs = go (p x)
  where
    go : (t : Bool) → take (cond t (1 + prefix_len p xs) 0) (x ∷ xs) ≡ cond t (x ∷ take_while p xs) []
    go true = let e : 1 + prefix_len p xs ≡ suc (prefix_len p xs) = omega arith in ap (λ k. take k (x ∷ xs)) e
    go false = refl

pub below_take_while : (m : ℕ) (p : ℕ → Bool) (xs : List ℕ) → Below m xs → Below m (take_while p xs)
below_take_while m p [] b = b
below_take_while m p (x ∷ xs) b = subst (Below m) (sym (take_while-cons p x xs)) (go (p x) (below_take_while m p xs b.1))
  where
    go : (t : Bool) → Below m (take_while p xs) → Below m (cond t (x ∷ take_while p xs) [])
    go true rest = (b.0, rest)
    go false rest = tt

pub below_flat_map : (m : ℕ) (f : ℕ → List ℕ) (xs : List ℕ) → Below m xs → ((x : ℕ) → x < m → Below m (f x)) → Below m (flat_map f xs)
below_flat_map m f [] b all = b
below_flat_map m f (x ∷ xs) b all = below_append m (f x) (flat_map f xs) (all x b.0) (below_flat_map m f xs b.1 all)

pub below_range : (m a n : ℕ) → a + n ≤ m → Below m (range_with_len a n)
below_range m a zero le = tt
below_range m a (suc n) le = (omega (arith, le), below_range m (a + 1) n (omega (arith, le)))

pub filter_same : (m : ℕ) (p q : ℕ → Bool) (xs : List ℕ) → Below m xs → ((x : ℕ) → x < m → p x ≡ q x) → filter p xs ≡ filter q xs
filter_same m p q [] b same = refl
filter_same m p q (x ∷ xs) b same = ap (λ t. cond t (x ∷ filter p xs) (filter p xs)) (same x b.0) ∙ ap (λ (t : List ℕ). cond (q x) (x ∷ t) t) (filter_same m p q xs b.1 same)

pub any_same : (m : ℕ) (p q : ℕ → Bool) (xs : List ℕ) → Below m xs → ((x : ℕ) → x < m → p x ≡ q x) → list_any p xs ≡ list_any q xs
any_same m p q [] b same = refl
any_same m p q (x ∷ xs) b same = ap (λ t. t || list_any p xs) (same x b.0) ∙ ap (λ t. q x || t) (any_same m p q xs b.1 same)

pub find_same : (m : ℕ) (p q : ℕ → Bool) (xs : List ℕ) → Below m xs → ((x : ℕ) → x < m → p x ≡ q x) → find p xs ≡ find q xs
find_same m p q [] b same = refl
find_same m p q (x ∷ xs) b same = ap (λ t. cond t (Some x) (find p xs)) (same x b.0) ∙ ap (λ (t : Option ℕ). cond (q x) (Some x) t) (find_same m p q xs b.1 same)

pub flat_map_same : (m : ℕ) (f g : ℕ → List ℕ) (xs : List ℕ) → Below m xs → ((x : ℕ) → x < m → f x ≡ g x) → flat_map f xs ≡ flat_map g xs
flat_map_same m f g [] b same = refl
flat_map_same m f g (x ∷ xs) b same = ap (λ t. t ++ flat_map f xs) (same x b.0) ∙ ap (λ t. g x ++ t) (flat_map_same m f g xs b.1 same)

-- an element that was found is one of the list
FoundBelow : ℕ → Option ℕ → Type 0
FoundBelow m None = Unit {0}
FoundBelow m (Some x) = x < m

all_found : (m : ℕ) (p : ℕ → Bool) (xs : List ℕ) → Below m xs → FoundBelow m (find p xs)
unfolding FoundBelow
all_found m p [] b = tt
all_found m p (x ∷ xs) b = go (p x) (all_found m p xs b.1)
  where
    go : (t : Bool) → FoundBelow m (find p xs) → FoundBelow m (cond t (Some x) (find p xs))
    go true rest = b.0
    go false rest = rest

pub found_below : (m : ℕ) (p : ℕ → Bool) (xs : List ℕ) (x : ℕ) → Below m xs → find p xs ≡ Some x → x < m
unfolding FoundBelow
found_below m p xs x b e = subst (FoundBelow m) e (all_found m p xs b)

-- the numbers from 1 to before n that pass, where from m on none passes
pub filter_front : (m n : ℕ) (p : ℕ → Bool) → 0 < m → m ≤ n → ((k : ℕ) → m ≤ k → k < n → p k ≡ false) → filter p (range_with_len 1 (n - 1)) ≡ filter p (range_with_len 1 (m - 1))
filter_front m n p pos le none =
    let e : n - 1 ≡ (m - 1) + (n - m) = omega arith in
    let f : 1 + (m - 1) ≡ m = omega arith in
    ap (λ k. filter p (range_with_len 1 k)) e
    ∙ ap (filter p) (range-append 1 (m - 1) (n - m) ∙ ap (λ k. range_with_len 1 (m - 1) ++ range_with_len k (n - m)) f)
    ∙ filter-append p (range_with_len 1 (m - 1)) (range_with_len m (n - m))
    ∙ ap (λ t. filter p (range_with_len 1 (m - 1)) ++ t) (nothing m (n - m) (λ k ge lt. none k ge (omega (arith, lt, le))))
    ∙ append-nil (filter p (range_with_len 1 (m - 1)))
  where
    nothing : (a k : ℕ) → ((j : ℕ) → a ≤ j → j < a + k → p j ≡ false) → filter p (range_with_len a k) ≡ []
    nothing a zero h = refl
    nothing a (suc k) h = ap (λ t. cond t (a ∷ filter p (range_with_len (a + 1) k)) (filter p (range_with_len (a + 1) k))) (h a (omega arith) (omega arith)) ∙ nothing (a + 1) k (λ j ge lt. h j (omega (arith, ge)) (omega (arith, lt)))
