-- Going upwards from a directory in which a path stands.
use Rattle.std.proofs.Common.{◌≡◌, ℕ, zero, suc, ◌+◌, ◌-◌, ◌*◌, ◌≤◌, ◌==◌, ◌||◌, ◌&&◌, Bool, true, false, not, cond, List, [], ◌∷◌, ◌++◌, length, take, drop, replicate, refl, ap, sym, ◌∙◌, arith, append_assoc, append-nil, length-append, ◌⊎◌}
use Rattle.std.specs.Prelude.{codes}
use Rattle.std.specs.List.{All, list_any}
use Rattle.std.specs.Str.{bytes_eq}
use Rattle.std.proofs.lemmas.Bool.{false≢true, ne_eqb, or_parts}
use Rattle.std.proofs.lemmas.List.{take_all, drop-drop}
use Rattle.std.proofs.lemmas.List.Elements.{All-head}
use Rattle.c14n_bases.specs.Join.{begins, is_slash, is_same, is_up, is_dots, is_open, is_absolute, last_segment, directory, base_path, segments, between_slashes, path_of, cleaned, clean}
use Rattle.c14n_bases.specs.Code.Surplus.{surplus, names_kept}
use Rattle.c14n_bases.specs.Code.Kept.{ups}
use Rattle.c14n_bases.specs.Code.Going.{IsName}
use Rattle.c14n_bases.specs.Code.Climbs.{Climbs, climbs}
use Rattle.c14n_bases.specs.Code.Below.{slashed}
use Rattle.c14n_bases.proofs.SegmentLemmas.{directory-last, directory-form, last-append}
use Rattle.c14n_bases.proofs.SurplusLemmas.{kept-is, surplus-append, names_kept-append}
use Rattle.c14n_bases.proofs.NameLemmas.{plain_one, path_names, closed_is}
use Rattle.c14n_bases.proofs.JoinLemmas.{below_directory, clean-base_path}
use Rattle.c14n_bases.proofs.RunLemmas.{name-begins, begins_is}

-- ---- going upwards so often
pub length-climbs : (n : ℕ) → length (climbs n) ≡ 3 * n
length-climbs zero = refl
length-climbs (suc n) = let ih = length-climbs n in omega arith

-- it is read in one way
pub climbs-once : (n m : ℕ) (r q : List ℕ) → begins (codes "../") r ≡ false → begins (codes "../") q ≡ false → climbs n ++ r ≡ climbs m ++ q → (n ≡ m) × (r ≡ q)
climbs-once zero zero r q f g e = (refl, e)
climbs-once zero (suc m) r q f g e = absurd (false≢true (sym f ∙ ap (begins (codes "../")) e))
climbs-once (suc n) zero r q f g e = absurd (false≢true (sym g ∙ ap (begins (codes "../")) (sym e)))
climbs-once (suc n) (suc m) r q f g e = let i = climbs-once n m r q f g (ap (drop 3) e) in (ap suc i.0, i.1)

-- ---- a path of names, and what stands behind them
no_rest : (xs ys : List (List ℕ)) → xs ++ ys ≡ [] → ys ≡ []
no_rest [] ys e = e
no_rest (x ∷ xs) ys e = cc

slash-path : (closing : Bool) (s : List ℕ) (rest : List (List ℕ)) → (rest ≡ [] → closing ≡ true) → path_of false closing (s ∷ rest) ≡ s ++ (codes "/" ++ path_of false closing rest)
slash-path closing s [] closed = ap (λ (b : Bool). (s ++ []) ++ cond b (codes "/") []) (closed refl) ∙ append_assoc s [] (codes "/")
slash-path closing s (t ∷ more) closed = append_assoc s (codes "/" ++ between_slashes (t ∷ more)) (cond closing (codes "/") [])

pub slashed-path : (closing : Bool) (names rest : List (List ℕ)) → (rest ≡ [] → closing ≡ true) → path_of false closing (names ++ rest) ≡ slashed names ++ path_of false closing rest
slashed-path closing [] rest closed = refl
slashed-path closing (s ∷ more) rest closed =
    slash-path closing s (more ++ rest) (λ e. closed (no_rest more rest e))
    ∙ ap (λ (l : List ℕ). s ++ (codes "/" ++ l)) (slashed-path closing more rest closed)
    ∙ sym (append_assoc s (codes "/" ++ slashed more) (path_of false closing rest))

climbs-slashed : (n : ℕ) → slashed (replicate n (codes "..")) ≡ climbs n
climbs-slashed zero = refl
climbs-slashed (suc n) = ap (λ (l : List ℕ). codes "../" ++ l) (climbs-slashed n)

root-path : (closing : Bool) (segs : List (List ℕ)) → path_of true closing segs ≡ codes "/" ++ path_of false closing segs
root-path closing [] = refl
root-path closing (s ∷ more) = refl

pub run-path : (a closing : Bool) (n : ℕ) (names rest : List (List ℕ)) → (rest ≡ [] → closing ≡ true)
    → path_of a closing (ups a n ++ (names ++ rest)) ≡ cond a (codes "/") [] ++ (climbs (cond a 0 n) ++ (slashed names ++ path_of false closing rest))
run-path true closing n names rest closed = root-path closing (names ++ rest) ∙ ap (λ (l : List ℕ). codes "/" ++ l) (slashed-path closing names rest closed)
run-path false closing n names rest closed =
    slashed-path closing (replicate n (codes "..")) (names ++ rest) (λ e. closed (no_rest names rest e))
    ∙ ap (λ (l : List ℕ). l ++ path_of false closing (names ++ rest)) (climbs-slashed n)
    ∙ ap (λ (l : List ℕ). climbs n ++ l) (slashed-path closing names rest closed)

-- ---- what is left where so many `..` come behind
behind-both : (n : ℕ) (xs : List (List ℕ)) → (surplus n xs ≡ surplus 0 xs + (n - length (names_kept 0 xs))) × (names_kept n xs ≡ take (length (names_kept 0 xs) - n) (names_kept 0 xs))
behind-both n [] =
    let e : 0 - n ≡ 0 = omega arith in
    let f : n ≡ 0 + (n - 0) = omega arith in
    (f, ap (λ (k : ℕ). take {A = List ℕ} k []) (sym e))
behind-both n (s ∷ more) =
    let ih = behind-both n more in
    go (is_same s) (is_up s) (surplus 0 more) (surplus n more) (names_kept 0 more) (names_kept n more) ih.0 ih.1
  where
    go : (a b : Bool) (z zn : ℕ) (nk nkn : List (List ℕ)) → zn ≡ z + (n - length nk) → nkn ≡ take (length nk - n) nk
        → (cond a zn (cond b (suc zn) (zn - 1)) ≡ cond a z (cond b (suc z) (z - 1)) + (n - length (cond (not a && (not b && (z == 0))) (s ∷ nk) nk)))
        × (cond (not a && (not b && (zn == 0))) (s ∷ nkn) nkn ≡ take (length (cond (not a && (not b && (z == 0))) (s ∷ nk) nk) - n) (cond (not a && (not b && (z == 0))) (s ∷ nk) nk))
    go true b z zn nk nkn e f = (e, f)
    go false true z zn nk nkn e f = (omega arith, f)
    go false false zero zero nk nkn e f =
        let k : suc (length nk) - n ≡ suc (length nk - n) = omega arith in
        (omega arith, ap (λ (l : List (List ℕ)). s ∷ l) f ∙ ap (λ (i : ℕ). take i (s ∷ nk)) (sym k))
    go false false zero (suc m) nk nkn e f =
        let k : suc (length nk) - n ≡ 0 = omega arith in
        let j : length nk - n ≡ 0 = omega arith in
        let z : (suc m == 0) ≡ false = ne_eqb (suc m) 0 (λ h. omega (arith, h)) in
        (omega arith, ap (λ (b : Bool). cond b (s ∷ nkn) nkn) z ∙ f ∙ ap (λ (i : ℕ). take i nk) j ∙ ap (λ (i : ℕ). take i (s ∷ nk)) (sym k))
    go false false (suc z) zero nk nkn e f = absurd (omega arith)
    go false false (suc z) (suc m) nk nkn e f =
        let i : (suc z == 0) ≡ false = ne_eqb (suc z) 0 (λ h. omega (arith, h)) in
        let j : (suc m == 0) ≡ false = ne_eqb (suc m) 0 (λ h. omega (arith, h)) in
        let d : suc m - 1 ≡ (suc z - 1) + (n - length nk) = omega arith in
        rw (i, j) (d, f)

-- ---- a path in a directory
module _ (d s : List ℕ) (form : (d ≡ []) ⊎ ((front : List ℕ) × (d ≡ front ++ 47 ∷ []))) (relative : is_absolute s ≡ false) where
  pub below-is : clean (d ++ s) ≡ cond (is_absolute d) (codes "/") [] ++ (climbs (cond (is_absolute d) 0 (surplus 0 (segments d) + (surplus 0 (segments s) - length (names_kept 0 (segments d)))))
      ++ (slashed (take (length (names_kept 0 (segments d)) - surplus 0 (segments s)) (names_kept 0 (segments d))) ++ path_of false (is_open s) (names_kept 0 (segments s))))
  below-is =
      let a = is_absolute d in let xs = segments d in let ys = segments s in
      let n = surplus 0 ys in let rest = names_kept 0 ys in
      let both = behind-both n xs in
      let root = cond a (codes "/") [] in let last = path_of false (is_open s) rest in
      below_directory d s form relative ∙ ap (path_of a (is_open s)) (kept-is a (xs ++ ys)
      ∙ ap (λ (k : ℕ). ups a k ++ names_kept 0 (xs ++ ys)) (surplus-append 0 xs ys)
      ∙ ap (λ (l : List (List ℕ)). ups a (surplus n xs) ++ l) (names_kept-append 0 xs ys))
      ∙ run-path a (is_open s) (surplus n xs) (names_kept n xs) rest (closed_is s)
      ∙ ap (λ (k : ℕ). root ++ (climbs (cond a 0 k) ++ (slashed (names_kept n xs) ++ last))) both.0
      ∙ ap (λ (l : List (List ℕ)). root ++ (climbs (cond a 0 (surplus 0 xs + (n - length (names_kept 0 xs)))) ++ (slashed l ++ last))) both.1

-- ---- a relative path that goes upwards so often
names-begin : (closing : Bool) (names : List (List ℕ)) → All IsName names → begins (codes "../") (path_of false closing names) ≡ false
names-begin closing [] all = refl
names-begin closing (s ∷ []) all =
    ap (begins (codes "../")) (append_assoc s [] (cond closing (codes "/") [])) ∙ name-begins s (cond closing (codes "/") []) (All-head IsName s [] all)
names-begin closing (s ∷ t ∷ more) all =
    ap (begins (codes "../")) (append_assoc s (codes "/" ++ between_slashes (t ∷ more)) (cond closing (codes "/") []))
    ∙ name-begins s ((codes "/" ++ between_slashes (t ∷ more)) ++ cond closing (codes "/") []) (All-head IsName s (t ∷ more) all)

pub slashed-begin : (names : List (List ℕ)) (rest : List ℕ) → All IsName names → begins (codes "../") rest ≡ false → begins (codes "../") (slashed names ++ rest) ≡ false
slashed-begin [] rest all f = f
slashed-begin (s ∷ more) rest all f =
    ap (begins (codes "../")) (append_assoc s (codes "/" ++ slashed more) rest) ∙ name-begins s ((codes "/" ++ slashed more) ++ rest) (All-head IsName s more all)

pub climbs-are : (path : List ℕ) (n : ℕ) (rest : List ℕ) → Climbs path n rest
    → (surplus 0 (segments path) ≡ n) × (path_of false (is_open path) (names_kept 0 (segments path)) ≡ rest)
climbs-are path n rest c =
    let segs = segments path in let names = names_kept 0 segs in let open_is = is_open path in
    let e : clean path ≡ climbs (surplus 0 segs) ++ path_of false open_is names =
    ap (λ (b : Bool). cleaned b open_is segs) c.relative ∙ ap (path_of false open_is) (kept-is false segs)
    ∙ run-path false open_is (surplus 0 segs) [] names (closed_is path)
    in
    climbs-once (surplus 0 segs) n (path_of false open_is names) rest (names-begin open_is names (path_names path)) c.all (sym e ∙ c.cleaned)

-- ---- the last segment of a base
pub last-plain : (path : List ℕ) → list_any is_slash (last_segment path) ≡ false
last-plain [] = refl
last-plain (c ∷ cs) = go (list_any is_slash (c ∷ cs)) refl (last-plain cs)
  where
    go : (b : Bool) → list_any is_slash (c ∷ cs) ≡ b → list_any is_slash (last_segment cs) ≡ false → list_any is_slash (cond b (last_segment cs) (c ∷ cs)) ≡ false
    go true e ih = ih
    go false e ih = e

last_plain_one : (s : List ℕ) → list_any is_slash s ≡ false → last_segment s ≡ s
last_plain_one [] f = refl
last_plain_one (c ∷ cs) f = ap (λ (b : Bool). cond b (last_segment cs) (c ∷ cs)) f

plain_relative : (s : List ℕ) → list_any is_slash s ≡ false → is_absolute s ≡ false
plain_relative [] f = refl
plain_relative (c ∷ cs) f = ap (λ (b : Bool). b && true) (or_parts (47 == c) false (or_parts (is_slash c) (list_any is_slash cs) f).0).0

last-dots : (p : List ℕ) → is_dots (last_segment (base_path p)) ≡ false
last-dots p = go (is_dots (last_segment p)) refl
  where
    go : (b : Bool) → is_dots (last_segment p) ≡ b → is_dots (last_segment (cond b (p ++ codes "/") p)) ≡ false
    go true e = ap is_dots (last-append p [])
    go false e = e

last-is : (s : List ℕ) → list_any is_slash s ≡ false → is_dots s ≡ false → (surplus 0 (segments s) ≡ 0) × (path_of false (is_open s) (names_kept 0 (segments s)) ≡ s)
last-is [] f g = (refl, refl)
last-is (c ∷ cs) f g =
    let s = c ∷ cs in
    let one : segments s ≡ s ∷ [] = plain_one s f in
    let last : last_segment s ≡ s = last_plain_one s f in
    let dots = or_parts (bytes_eq s (codes ".")) (bytes_eq s (codes "..")) g in
    let same : is_same s ≡ false = dots.0 in
    let up : is_up s ≡ false = dots.1 in
    let no : is_open s ≡ false = ap (λ (l : List ℕ). is_same l || is_up l) last ∙ ap (λ (b : Bool). b || is_up s) same ∙ up in (
      ap (surplus 0) one ∙ ap (λ (b : Bool). cond b 0 (cond (is_up s) 1 (0 - 1))) same ∙ ap (λ (b : Bool). cond b 1 (0 - 1)) up,
      ap (λ (l : List (List ℕ)). path_of false (is_open s) (names_kept 0 l)) one
          ∙ ap (λ (b : Bool). path_of false (is_open s) (cond (not b && (not (is_up s) && true)) (s ∷ []) [])) same
          ∙ ap (λ (b : Bool). path_of false (is_open s) (cond (not b && true) (s ∷ []) [])) up
          ∙ ap (λ (b : Bool). path_of false b (s ∷ [])) no ∙ append-nil (s ++ []) ∙ append-nil s,
    )

-- ---- the path of a base: its directory, and its last segment
pub base-is : (p : List ℕ) → clean p ≡ cond (is_absolute (directory (base_path p))) (codes "/") [] ++ (climbs (cond (is_absolute (directory (base_path p))) 0 (surplus 0 (segments (directory (base_path p)))))
    ++ (slashed (names_kept 0 (segments (directory (base_path p)))) ++ last_segment (base_path p)))
base-is p =
    let d = directory (base_path p) in let s = last_segment (base_path p) in
    let a = is_absolute d in let sp = surplus 0 (segments d) in let names = names_kept 0 (segments d) in
    let root = cond a (codes "/") [] in
    let plain = last-plain (base_path p) in
    let last = last-is s plain (last-dots p) in
    let e : sp + (0 - length names) ≡ sp = omega arith in
    let f : length names - 0 ≡ length names = omega arith in
    sym (clean-base_path p) ∙ ap clean (sym (directory-last (base_path p))) ∙ below-is d s (directory-form (base_path p)) (plain_relative s plain)
    ∙ ap (λ (l : List ℕ). root ++ (climbs (cond a 0 (sp + (surplus 0 (segments s) - length names))) ++ (slashed (take (length names - surplus 0 (segments s)) names) ++ l))) last.1
    ∙ ap (λ (n : ℕ). root ++ (climbs (cond a 0 (sp + (n - length names))) ++ (slashed (take (length names - n) names) ++ s))) last.0
    ∙ ap (λ (n : ℕ). root ++ (climbs (cond a 0 n) ++ (slashed (take (length names - 0) names) ++ s))) e
    ∙ ap (λ (n : ℕ). root ++ (climbs (cond a 0 sp) ++ (slashed (take n names) ++ s))) f
    ∙ ap (λ (l : List (List ℕ)). root ++ (climbs (cond a 0 sp) ++ (slashed l ++ s))) (take_all (length names) names (let g : length names ≤ length names = omega arith in g))

-- ---- one `../` more
climbs-one : (u : ℕ) (rest : List ℕ) → climbs u ++ (codes "../" ++ rest) ≡ climbs (suc u) ++ rest
climbs-one zero rest = refl
climbs-one (suc u) rest = ap (λ (l : List ℕ). codes "../" ++ l) (climbs-one u rest)

pub climbs-more : (text : List ℕ) (u : ℕ) → text ≡ climbs u ++ drop (3 * u) text → begins (codes "../") (drop (3 * u) text) ≡ true
    → (text ≡ climbs (u + 1) ++ drop (3 * (u + 1)) text) × (3 * (u + 1) ≤ length text)
climbs-more text u is t =
    let rest = drop (3 * u) text in
    let e : u + 1 ≡ suc u = omega arith in
    let f : 3 * u + 3 ≡ 3 * (u + 1) = omega arith in
    let three = begins_is rest t in
    let whole : text ≡ climbs (suc u) ++ drop 3 rest = is ∙ ap (λ (l : List ℕ). climbs u ++ l) three ∙ climbs-one u (drop 3 rest) in
    let n = ap (length {A = ℕ}) whole ∙ length-append (climbs (suc u)) (drop 3 rest) in
    let m = length-climbs (suc u) in (
      whole ∙ ap (λ (k : ℕ). climbs k ++ drop 3 rest) (sym e) ∙ ap (λ (l : List ℕ). climbs (u + 1) ++ l) (drop-drop 3 (3 * u) text ∙ ap (λ (k : ℕ). drop k text) f),
      omega arith,
    )
