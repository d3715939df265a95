-- A list of rows that stand in document order, each once, is its own node set.
use Rattle.std.proofs.Common.{◌≡◌, ℕ, zero, suc, ◌<◌, ◌≤◌, ◌+◌, ◌-◌, Bool, true, false, cond, nat_eq, List, [], ◌∷◌, refl, ap, ◌∙◌, arith}
use Rattle.std.specs.List.{filter, range_with_len}
use Rattle.std.proofs.lemmas.Grind.{common_steps}
use Rattle.xml_doc.specs.Searches.{passing, IsFirst}
use Rattle.xml_doc.proofs.Numbers.{passing_none}
use Rattle.xml_doc.proofs.SearchLemmas.{from_first}
use Rattle.xpath_eval.specs.Context.{is_in}
use Rattle.xpath_eval.specs.Order.{Ascends}

-- ys is zs without some of its elements
pub data Sublist : List ℕ → List ℕ → Type 0 where
  nothing : Sublist [] []
  same : (y : ℕ) (ys zs : List ℕ) → Sublist ys zs → Sublist (y ∷ ys) (y ∷ zs)
  less : (y : ℕ) (ys zs : List ℕ) → Sublist ys zs → Sublist ys (y ∷ zs)

pub lower : (a b n : ℕ) (ys : List ℕ) → a ≤ b → Ascends b n ys → Ascends a n ys
lower a b n [] h all = tt
lower a b n (y ∷ ys) h all = (omega (arith, h, all.0), all.1, all.2)

pub sublist_ascends : (low n : ℕ) (ys zs : List ℕ) → Sublist ys zs → Ascends low n zs → Ascends low n ys
sublist_ascends low n ys zs nothing all = tt
sublist_ascends low n ys zs (same y us vs s) all = (all.0, all.1, sublist_ascends (suc y) n us vs s all.2)
sublist_ascends low n ys zs (less y us vs s) all = sublist_ascends low n us vs s (lower low (suc y) n vs (omega (arith, all.0)) all.2)

started : (n a : ℕ) (b : Bool) (rest : List ℕ) → a < n → Ascends (a + 1) n rest → Ascends a n (cond b (a ∷ rest) rest)
started n a true rest lt all = (omega arith, lt, lower (suc a) (a + 1) n rest (omega arith) all)
started n a false rest lt all = lower a (a + 1) n rest (omega arith) all

-- the numbers that pass, in rising order, ascend
pub range_ascends : (p : ℕ → Bool) (a k n : ℕ) → a + k ≤ n → Ascends a n (filter p (range_with_len a k))
range_ascends p a zero n h = tt
range_ascends p a (suc k) n h = started n a (p a) (filter p (range_with_len (a + 1) k)) (omega (arith, h)) (range_ascends p (a + 1) k n (omega (arith, h)))

apart : (z y : ℕ) → z < y → nat_eq z y ≡ false
apart z y h = grind (arith, common_steps, h)

absent : (z low n : ℕ) (ys : List ℕ) → z < low → Ascends low n ys → is_in ys z ≡ false
absent z low n [] h all = refl
absent z low n (y ∷ ys) h all = rw (apart z y (omega (arith, h, all.0)), absent z (suc y) n ys (omega (arith, h, all.0)) all.2) refl

behind : (p q : ℕ → Bool) (a k : ℕ) → ((z : ℕ) → a ≤ z → p z ≡ q z) → filter p (range_with_len a k) ≡ filter q (range_with_len a k)
behind p q a zero h = refl
behind p q a (suc k) h = rw (h a (omega arith), behind p q (a + 1) k (λ z l. h z (omega (arith, l)))) refl

apart_behind : (y z : ℕ) → y < z → nat_eq z y ≡ false
apart_behind y z h = grind (arith, common_steps, h)

here : (y : ℕ) (ys : List ℕ) → is_in (y ∷ ys) y ≡ true
here y ys = grind (arith, common_steps)

-- a list that ascends is its own node set
pub ascending_is : (ys : List ℕ) (low n : ℕ) → low ≤ n → Ascends low n ys → passing (is_in ys) low n ≡ ys
ascending_is [] low n le all = passing_none (is_in []) low (n - low) (λ k l m. refl)
ascending_is (y ∷ ys) low n le all =
    let first : IsFirst (is_in (y ∷ ys)) low n y = record {
      from = all.0;
      until = all.1;
      passes = here y ys;
      none_before = λ z l m. rw (apart z y m, absent z (suc y) n ys (omega (arith, m)) all.2) refl;
    } in
    from_first (is_in (y ∷ ys)) low n y (y + 1) first (omega arith) (λ z l m. absurd (omega (arith, l, m)))
    ∙ ap (λ (t : List ℕ). y ∷ t)
    (behind (is_in (y ∷ ys)) (is_in ys) (y + 1) (n - (y + 1)) (λ z l. rw (apart_behind y z (omega (arith, l))) refl)
    ∙ ascending_is ys (y + 1) n (omega (arith, all.1)) (lower (y + 1) (suc y) n ys (omega arith) all.2))
