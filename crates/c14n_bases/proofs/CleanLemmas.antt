-- A cleaned path stays as it is where it is cleaned again.
use Rattle.std.proofs.Common.{◌≡◌, ℕ, ◌||◌, ◌&&◌, ◌==◌, Bool, true, false, cond, List, [], ◌∷◌, ◌++◌, reverse, replicate, refl, ap, sym, ◌∙◌, append-nil}
use Rattle.std.specs.Prelude.{codes, Option, Some, None}
use Rattle.std.specs.List.{All, list_any, flat_map}
use Rattle.std.proofs.lemmas.Bool.{or_parts}
use Rattle.std.proofs.lemmas.List.Elements.{All-nil, All-head, All-tail, All-append, All-replicate, All-weaker}
use Rattle.c14n_bases.specs.Join.{begins, is_slash, is_same, is_up, is_open, is_absolute, last_segment, segments, added, after_slash, between_slashes, path_of, cleaned, clean, query_octets}
use Rattle.c14n_bases.specs.Code.Surplus.{surplus, names_kept}
use Rattle.c14n_bases.specs.Code.Kept.{ups, IsSegment}
use Rattle.c14n_bases.specs.Code.Going.{IsName}
use Rattle.c14n_bases.proofs.SegmentLemmas.{segments-append, last-append}
use Rattle.c14n_bases.proofs.SurplusLemmas.{added-append, kept-is}
use Rattle.c14n_bases.proofs.NameLemmas.{plain_one, path_names, surplus-run, kept-run, closed_is}

no_slash : (x : ℕ) (xs : List ℕ) → list_any is_slash (x ∷ xs) ≡ false → (47 == x) ≡ false
no_slash x xs f = (or_parts (47 == x) false (or_parts (is_slash x) (list_any is_slash xs) f).0).0

-- ---- how a path begins
pub absolute-path : (a c : Bool) (segs : List (List ℕ)) → All IsSegment segs → is_absolute (path_of a c segs) ≡ a
absolute-path true c [] all = refl
absolute-path true c (s ∷ more) all = refl
absolute-path false c [] all = refl
absolute-path false c ([] ∷ more) all = absurd ((All-head IsSegment [] more all).some refl)
absolute-path false c ((x ∷ xs) ∷ more) all = ap (λ (b : Bool). b && true) (no_slash x xs (All-head IsSegment (x ∷ xs) more all).plain)

pub no_double : (a c : Bool) (segs : List (List ℕ)) (q : Option (List ℕ)) → All IsSegment segs → begins (codes "//") (path_of a c segs ++ query_octets q) ≡ false
no_double true c [] None all = refl
no_double true c [] (Some q) all = refl
no_double false c [] None all = refl
no_double false c [] (Some q) all = refl
no_double a c ([] ∷ more) q all = absurd ((All-head IsSegment [] more all).some refl)
no_double true c ((x ∷ xs) ∷ more) q all = ap (λ (b : Bool). b && true) (no_slash x xs (All-head IsSegment (x ∷ xs) more all).plain)
no_double false c ((x ∷ xs) ∷ more) q all = ap (λ (b : Bool). b && begins (codes "/") (xs ++ flat_map after_slash more ++ cond c (codes "/") [] ++ query_octets q)) (no_slash x xs (All-head IsSegment (x ∷ xs) more all).plain)

-- ---- the segments of a path
segments-between : (s : List ℕ) (more : List (List ℕ)) → All IsSegment (s ∷ more) → segments (between_slashes (s ∷ more)) ≡ s ∷ more
segments-between s [] all = ap segments (append-nil s) ∙ plain_one s (All-head IsSegment s [] all).plain
segments-between s (t ∷ more) all =
    segments-append s (between_slashes (t ∷ more))
    ∙ ap (λ (l : List (List ℕ)). l ++ segments (between_slashes (t ∷ more))) (plain_one s (All-head IsSegment s (t ∷ more) all).plain)
    ∙ ap (λ (l : List (List ℕ)). s ∷ l) (segments-between t more (All-tail IsSegment s (t ∷ more) all))

segments-open : (c : Bool) (path : List ℕ) (b : Bool) (kept : List (List ℕ)) → added b kept (segments (path ++ cond c (codes "/") [])) ≡ added b kept (segments path)
segments-open true path b kept = ap (added b kept) (segments-append path []) ∙ added-append b kept (segments path) ([] ∷ [])
segments-open false path b kept = ap (λ (l : List ℕ). added b kept (segments l)) (append-nil path)

added-path : (a c b : Bool) (segs kept : List (List ℕ)) → All IsSegment segs → added b kept (segments (path_of a c segs)) ≡ added b kept segs
added-path true c b [] kept all = refl
added-path false c b [] kept all = refl
added-path true c b (s ∷ more) kept all =
    segments-open c (codes "/" ++ between_slashes (s ∷ more)) b kept ∙ ap (added b kept) (segments-between s more all)
added-path false c b (s ∷ more) kept all =
    segments-open c (between_slashes (s ∷ more)) b kept ∙ ap (added b kept) (segments-between s more all)

-- ---- how a path ends
last-step : (s : List ℕ) (more : List (List ℕ)) → (more ≡ [] → ⊥) → last_segment (between_slashes (s ∷ more)) ≡ last_segment (between_slashes more)
last-step s [] some = absurd (some refl)
last-step s (t ∷ more) some = last-append s (between_slashes (t ∷ more))

last_plain_one : (s : List ℕ) → list_any is_slash s ≡ false → last_segment s ≡ s
last_plain_one [] f = refl
last_plain_one (c ∷ cs) f = ap (λ (b : Bool). cond b (last_segment cs) (c ∷ cs)) f

ends-name : (before : List (List ℕ)) (t : List ℕ) (names : List (List ℕ)) → All IsName (t ∷ names) → is_open (between_slashes (before ++ t ∷ names)) ≡ false
ends-name [] t [] all =
    let n = All-head IsName t [] all in
    ap (λ (l : List ℕ). is_same (last_segment l) || is_up (last_segment l)) (append-nil t)
    ∙ ap (λ (l : List ℕ). is_same l || is_up l) (last_plain_one t n.segment.plain) ∙ ap (λ (b : Bool). b || is_up t) n.no_same ∙ n.no_up
ends-name [] t (u ∷ names) all =
    ap (λ (l : List ℕ). is_same l || is_up l) (last-step t (u ∷ names) (λ e. cc)) ∙ ends-name [] u names (All-tail IsName t (u ∷ names) all)
ends-name (s ∷ before) t names all =
    ap (λ (l : List ℕ). is_same l || is_up l) (last-step s (before ++ t ∷ names) (some before)) ∙ ends-name before t names all
  where
    some : (xs : List (List ℕ)) → xs ++ t ∷ names ≡ [] → ⊥
    some [] e = cc
    some (x ∷ xs) e = cc

open-root : (a : Bool) (path : List ℕ) → is_open (cond a (codes "/") [] ++ path) ≡ is_open path
open-root true path = ap (λ (l : List ℕ). is_same l || is_up l) (last-append [] path)
open-root false path = refl

open-path : (a c : Bool) (n : ℕ) (s : List ℕ) (more names : List (List ℕ)) → s ∷ more ≡ ups a n ++ names → All IsName names → (names ≡ [] → c ≡ true)
    → is_open (path_of a c (s ∷ more)) ≡ c
open-path a true n s more names e all closed = ap (λ (l : List ℕ). is_same l || is_up l) (last-append (cond a (codes "/") [] ++ between_slashes (s ∷ more)) [])
open-path a false n s more [] e all closed = cc (closed refl)
open-path a false n s more (t ∷ names) e all closed =
    ap is_open (append-nil (cond a (codes "/") [] ++ between_slashes (s ∷ more))) ∙ open-root a (between_slashes (s ∷ more))
    ∙ ap (λ (l : List (List ℕ)). is_open (between_slashes l)) e ∙ ends-name (ups a n) t names all

-- ---- cleaning again
ups-segments : (a : Bool) (n : ℕ) → All IsSegment (ups a n)
ups-segments true n = All-nil IsSegment
ups-segments false n = All-replicate IsSegment n (codes "..") (record { some = λ e. cc; plain = refl })

pub run-segments : (a : Bool) (n : ℕ) (names : List (List ℕ)) → All IsName names → All IsSegment (ups a n ++ names)
run-segments a n names all = All-append IsSegment (ups a n) names (ups-segments a n) (All-weaker IsName IsSegment (λ s name. name.segment) names all)

run-again : (a : Bool) (n : ℕ) (names : List (List ℕ)) → All IsName names → reverse (added a [] (ups a n ++ names)) ≡ ups a n ++ names
run-again true n names all =
    kept-is true names ∙ kept-run 0 names all
run-again false n names all =
    kept-is false (replicate n (codes "..") ++ names)
    ∙ ap (λ (k : ℕ). replicate k (codes "..") ++ names_kept 0 (replicate n (codes "..") ++ names)) (surplus-run n names all)
    ∙ ap (λ (l : List (List ℕ)). replicate n (codes "..") ++ l) (kept-run n names all)

closing-free : (a c : Bool) (n : ℕ) (segs names : List (List ℕ)) → segs ≡ ups a n ++ names → All IsName names → (names ≡ [] → c ≡ true) → path_of a (is_open (path_of a c segs)) segs ≡ path_of a c segs
closing-free a c n [] names e all closed = refl
closing-free a c n (s ∷ more) names e all closed = ap (λ (b : Bool). path_of a b (s ∷ more)) (open-path a c n s more names e all closed)

pub clean-run : (a c : Bool) (n : ℕ) (names : List (List ℕ)) → All IsName names → (names ≡ [] → c ≡ true) → clean (path_of a c (ups a n ++ names)) ≡ path_of a c (ups a n ++ names)
clean-run a c n names all closed =
    let segs = ups a n ++ names in let path = path_of a c segs in
    let some = run-segments a n names all in
    ap (λ (b : Bool). cleaned b (is_open path) (segments path)) (absolute-path a c segs some)
    ∙ ap (λ (l : List (List ℕ)). path_of a (is_open path) (reverse l)) (added-path a c a segs [] some)
    ∙ ap (path_of a (is_open path)) (run-again a n names all)
    ∙ closing-free a c n segs names refl all closed

-- a cleaned path as a run of `..` and names
pub clean-is : (path : List ℕ) → clean path ≡ path_of (is_absolute path) (is_open path) (ups (is_absolute path) (surplus 0 (segments path)) ++ names_kept 0 (segments path))
clean-is path = ap (path_of (is_absolute path) (is_open path)) (kept-is (is_absolute path) (segments path))

pub clean-clean : (path : List ℕ) → clean (clean path) ≡ clean path
clean-clean path =
    ap clean (clean-is path)
    ∙ clean-run (is_absolute path) (is_open path) (surplus 0 (segments path)) (names_kept 0 (segments path)) (path_names path) (closed_is path)
    ∙ sym (clean-is path)

pub clean-segments : (path : List ℕ) → All IsSegment (ups (is_absolute path) (surplus 0 (segments path)) ++ names_kept 0 (segments path))
clean-segments path = run-segments (is_absolute path) (surplus 0 (segments path)) (names_kept 0 (segments path)) (path_names path)

pub clean-absolute : (path : List ℕ) → is_absolute (clean path) ≡ is_absolute path
clean-absolute path =
    ap is_absolute (clean-is path)
    ∙ absolute-path (is_absolute path) (is_open path) (ups (is_absolute path) (surplus 0 (segments path)) ++ names_kept 0 (segments path)) (clean-segments path)

pub clean-single : (path : List ℕ) (q : Option (List ℕ)) → begins (codes "//") (clean path ++ query_octets q) ≡ false
clean-single path q =
    ap (λ (l : List ℕ). begins (codes "//") (l ++ query_octets q)) (clean-is path)
    ∙ no_double (is_absolute path) (is_open path) (ups (is_absolute path) (surplus 0 (segments path)) ++ names_kept 0 (segments path)) q (clean-segments path)
