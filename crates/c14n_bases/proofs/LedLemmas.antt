-- Segments that are written one after the other.
use Rattle.sig_base.proofs.PutsLemmas.{IsFront}
use Rattle.std.proofs.lemmas.List.{replicate-append-replicate}
use Rattle.std.proofs.Common.{◌≡◌, ℕ, zero, suc, ◌+◌, ◌-◌, ◌<◌, ◌==◌, arith, not, ◌||◌, ◌&&◌, Bool, true, false, cond, List, [], ◌∷◌, ◌++◌, replicate, reverse, refl, ap, sym, ◌∙◌, append_assoc, append-nil}
use Rattle.std.specs.Prelude.{codes}
use Rattle.std.specs.List.{flat_map}
use Rattle.std.proofs.lemmas.Bool.{ne_eqb}
use Rattle.std.proofs.lemmas.List.Concat.{flat_map-append}
use Rattle.c14n_bases.specs.Join.{after_slash, path_of, added, cleaned}
use Rattle.c14n_bases.specs.Code.Kept.{ups}
use Rattle.c14n_bases.proofs.SurplusLemmas.{kept-is, surplus-append, names_kept-append}
use Rattle.c14n_bases.specs.Code.Surplus.{led, is_any, surplus, is_name_kept, names_kept}

pub led-true : (xs : List (List ℕ)) → led true xs ≡ flat_map after_slash xs
led-true [] = refl
led-true (x ∷ xs) = refl

or_false : (b : Bool) → (b || false) ≡ b
or_false true = refl
or_false false = refl

pub led-append : (begun : Bool) (xs ys : List (List ℕ)) → led begun (xs ++ ys) ≡ led begun xs ++ led (begun || is_any xs) ys
led-append begun [] ys = ap (λ (b : Bool). led b ys) (sym (or_false begun))
led-append begun (x ∷ xs) ys = go begun
  where
    more : flat_map after_slash (xs ++ ys) ≡ flat_map after_slash xs ++ led true ys
    more = flat_map-append after_slash xs ys ∙ ap (λ (l : List ℕ). flat_map after_slash xs ++ l) (sym (led-true ys))

    go : (b : Bool) → led b (x ∷ (xs ++ ys)) ≡ led b (x ∷ xs) ++ led (b || true) ys
    go true = ap (λ (l : List ℕ). 47 ∷ (x ++ l)) more ∙ ap (λ (l : List ℕ). 47 ∷ l) (sym (append_assoc x (flat_map after_slash xs) (led true ys)))
    go false = ap (λ (l : List ℕ). x ++ l) more ∙ sym (append_assoc x (flat_map after_slash xs) (led true ys))

-- a path in its pieces
pub path_of-is : (absolute closing : Bool) (segs : List (List ℕ)) → path_of absolute closing segs ≡ cond absolute (codes "/") [] ++ led false segs ++ cond (is_any segs && closing) (codes "/") []
path_of-is absolute closing [] = sym (append-nil (cond absolute (codes "/") [] ++ []) ∙ append-nil (cond absolute (codes "/") []))
path_of-is absolute closing (s ∷ more) = refl

pub is_any-append : (xs ys : List (List ℕ)) → is_any (xs ++ ys) ≡ (is_any xs || is_any ys)
is_any-append [] ys = refl
is_any-append (x ∷ xs) ys = refl

-- the first ones of equal segments
is_any-replicate : (n : ℕ) (s : List ℕ) → is_any (replicate n s) ≡ not (n == 0)
is_any-replicate zero s = refl
is_any-replicate (suc n) s = ap not (sym (ne_eqb (suc n) 0 (λ h. omega (arith, h))))

pub led-front : (n count : ℕ) (s : List ℕ) → n < count → IsFront (led false (replicate n s) ++ led (not (n == 0)) (s ∷ [])) (led false (replicate count s))
led-front n count s lt =
    let e : n + suc (count - suc n) ≡ count = omega arith in
    let later = replicate (count - suc n) s in
    record {
      back = led (not (n == 0) || true) later;
      joined = append_assoc (led false (replicate n s)) (led (not (n == 0)) (s ∷ [])) (led (not (n == 0) || true) later)
          ∙ ap (λ (l : List ℕ). led false (replicate n s) ++ l) (sym (led-append (not (n == 0)) (s ∷ []) later))
          ∙ ap (λ (b : Bool). led false (replicate n s) ++ led b (s ∷ later)) (sym (is_any-replicate n s))
          ∙ sym (led-append false (replicate n s) (s ∷ later))
          ∙ ap (led false) (replicate-append-replicate n (suc (count - suc n)) s)
          ∙ ap (λ (k : ℕ). led false (replicate k s)) e;
    }

-- ---- one segment more
pub names-more : (behind : ℕ) (begun kept : Bool) (s : List ℕ) (more : List (List ℕ)) → kept ≡ is_name_kept behind s more
    → led begun (names_kept behind (s ∷ more)) ≡ led begun (cond kept (s ∷ []) []) ++ led (begun || kept) (names_kept behind more)
names-more behind begun kept s more is = ap (λ (k : Bool). led begun (cond k (s ∷ names_kept behind more) (names_kept behind more))) (sym is) ∙ go kept (names_kept behind more)
  where
    go : (k : Bool) (nk : List (List ℕ)) → led begun (cond k (s ∷ nk) nk) ≡ led begun (cond k (s ∷ []) []) ++ led (begun || k) nk
    go true nk = led-append begun (s ∷ []) nk
    go false nk = ap (λ (b : Bool). led b nk) (sym (or_false begun))

pub any-more : (behind : ℕ) (begun kept : Bool) (s : List ℕ) (more : List (List ℕ)) → kept ≡ is_name_kept behind s more
    → (begun || is_any (names_kept behind (s ∷ more))) ≡ ((begun || kept) || is_any (names_kept behind more))
any-more behind begun kept s more is = ap (λ (k : Bool). begun || is_any (cond k (s ∷ names_kept behind more) (names_kept behind more))) (sym is) ∙ go begun kept (names_kept behind more)
  where
    go : (b k : Bool) (nk : List (List ℕ)) → (b || is_any (cond k (s ∷ nk) nk)) ≡ ((b || k) || is_any nk)
    go true k nk = refl
    go false true nk = refl
    go false false nk = refl

-- ---- a cleaned path in its pieces
ups-is : (absolute : Bool) (n : ℕ) → ups absolute n ≡ replicate (cond absolute 0 n) (codes "..")
ups-is true n = refl
ups-is false n = refl

module _ (absolute closing : Bool) (xs ys : List (List ℕ)) (behind u : ℕ) (is_behind : behind ≡ surplus 0 ys) (is_u : u ≡ cond absolute 0 (surplus behind xs)) where
  abbrev pub led_by : Bool
  led_by = not (u == 0)

  segments-are : reverse (added absolute [] (xs ++ ys)) ≡ replicate u (codes "..") ++ (names_kept behind xs ++ names_kept 0 ys)
  segments-are =
      kept-is absolute (xs ++ ys) ∙ ap (λ (l : List (List ℕ)). l ++ names_kept 0 (xs ++ ys)) (ups-is absolute (surplus 0 (xs ++ ys)))
      ∙ ap (λ (n : ℕ). replicate (cond absolute 0 n) (codes "..") ++ names_kept 0 (xs ++ ys)) (surplus-append 0 xs ys ∙ ap (λ (b : ℕ). surplus b xs) (sym is_behind))
      ∙ ap (λ (n : ℕ). replicate n (codes "..") ++ names_kept 0 (xs ++ ys)) (sym is_u)
      ∙ ap (λ (l : List (List ℕ)). replicate u (codes "..") ++ l) (names_kept-append 0 xs ys ∙ ap (λ (b : ℕ). names_kept b xs ++ names_kept 0 ys) (sym is_behind))

  led-are : led false (replicate u (codes "..") ++ (names_kept behind xs ++ names_kept 0 ys))
      ≡ led false (replicate u (codes "..")) ++ led led_by (names_kept behind xs) ++ led (led_by || is_any (names_kept behind xs)) (names_kept 0 ys)
  led-are =
      led-append false (replicate u (codes "..")) (names_kept behind xs ++ names_kept 0 ys)
      ∙ ap (λ (b : Bool). led false (replicate u (codes "..")) ++ led b (names_kept behind xs ++ names_kept 0 ys)) (is_any-replicate u (codes ".."))
      ∙ ap (λ (l : List ℕ). led false (replicate u (codes "..")) ++ l) (led-append led_by (names_kept behind xs) (names_kept 0 ys))
      ∙ sym (append_assoc (led false (replicate u (codes ".."))) (led led_by (names_kept behind xs)) (led (led_by || is_any (names_kept behind xs)) (names_kept 0 ys)))

  any-are : is_any (replicate u (codes "..") ++ (names_kept behind xs ++ names_kept 0 ys)) ≡ ((led_by || is_any (names_kept behind xs)) || is_any (names_kept 0 ys))
  any-are =
      is_any-append (replicate u (codes "..")) (names_kept behind xs ++ names_kept 0 ys)
      ∙ ap (λ (b : Bool). b || is_any (names_kept behind xs ++ names_kept 0 ys)) (is_any-replicate u (codes ".."))
      ∙ ap (λ (b : Bool). led_by || b) (is_any-append (names_kept behind xs) (names_kept 0 ys))
      ∙ assoc led_by (is_any (names_kept behind xs)) (is_any (names_kept 0 ys))
    where
      assoc : (a b c : Bool) → (a || (b || c)) ≡ ((a || b) || c)
      assoc true b c = refl
      assoc false b c = refl

  pub cleaned-is : cleaned absolute closing (xs ++ ys)
      ≡ cond absolute (codes "/") [] ++ led false (replicate u (codes "..")) ++ led led_by (names_kept behind xs) ++ led (led_by || is_any (names_kept behind xs)) (names_kept 0 ys)
      ++ cond (((led_by || is_any (names_kept behind xs)) || is_any (names_kept 0 ys)) && closing) (codes "/") []
  cleaned-is =
      let root = cond absolute (codes "/") [] in
      let first = led false (replicate u (codes "..")) in
      let second = led led_by (names_kept behind xs) in
      let third = led (led_by || is_any (names_kept behind xs)) (names_kept 0 ys) in
      let close = λ (b : Bool). cond (b && closing) (codes "/") [] in
      ap (path_of absolute closing) segments-are ∙ path_of-is absolute closing (replicate u (codes "..") ++ (names_kept behind xs ++ names_kept 0 ys))
      ∙ ap (λ (l : List ℕ). root ++ l ++ close (is_any (replicate u (codes "..") ++ (names_kept behind xs ++ names_kept 0 ys)))) led-are
      ∙ ap (λ (b : Bool). root ++ (first ++ second ++ third) ++ close b) any-are
      ∙ ap (λ (l : List ℕ). l ++ close ((led_by || is_any (names_kept behind xs)) || is_any (names_kept 0 ys)))
      (sym (append_assoc root (first ++ second) third) ∙ ap (λ (l : List ℕ). l ++ third) (sym (append_assoc root first second)))

  -- the same, as the code comes to it
  pub cleaned-as : (b1 b2 : Bool) → b1 ≡ (led_by || is_any (names_kept behind xs)) → b2 ≡ (b1 || is_any (names_kept 0 ys)) → cleaned absolute closing (xs ++ ys)
      ≡ cond absolute (codes "/") [] ++ led false (replicate u (codes "..")) ++ led led_by (names_kept behind xs) ++ led b1 (names_kept 0 ys) ++ cond (b2 && closing) (codes "/") []
  cleaned-as b1 b2 e1 e2 =
      let front = cond absolute (codes "/") [] ++ led false (replicate u (codes "..")) ++ led led_by (names_kept behind xs) in
      cleaned-is
      ∙ ap (λ (b : Bool). front ++ led b (names_kept 0 ys) ++ cond ((b || is_any (names_kept 0 ys)) && closing) (codes "/") []) (sym e1)
      ∙ ap (λ (b : Bool). front ++ led b1 (names_kept 0 ys) ++ cond (b && closing) (codes "/") []) (sym e2)
