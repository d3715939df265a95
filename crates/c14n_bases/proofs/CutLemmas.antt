-- The parts of a value that is put together from parts.
use Rattle.std.proofs.Common.{◌≡◌, ℕ, suc, ◌+◌, ◌||◌, ◌&&◌, ◌==◌, Bool, true, false, not, cond, List, [], ◌∷◌, ◌++◌, length, take, drop, refl, ap, sym, ◌∙◌, arith, append_assoc, append-nil}
use Rattle.std.specs.Prelude.{codes, Option, Some, None}
use Rattle.std.specs.List.{list_any, position_or_len}
use Rattle.std.proofs.lemmas.Bool.{or_parts}
use Rattle.std.proofs.Math.Seq.{drop-append_seam, take-append_seam}
use Rattle.c14n_bases.specs.Join.{Parts, is_one_of, before, from_first, begins, is_empty, is_absolute, has_scheme, scheme_of, behind_scheme, authority_of, behind_authority, query_of, cut_hierarchy, cut, scheme_octets, authority_octets, query_octets, put_together}
use Rattle.c14n_bases.proofs.FrontLemmas.{parts}

-- ---- texts up to the first of some octets
abbrev pub Without : List ℕ → List ℕ → Type 0
Without stops text = list_any (is_one_of stops) text ≡ false

abbrev pub Stopped : List ℕ → List ℕ → Type 0
Stopped stops [] = Unit {0}
Stopped stops (c ∷ cs) = is_one_of stops c ≡ true

one_more : (n : ℕ) → 1 + n ≡ suc n
one_more n = omega arith

first-is : (stops xs ys : List ℕ) → Without stops xs → Stopped stops ys → position_or_len (is_one_of stops) (xs ++ ys) ≡ length xs
first-is stops [] [] w s = refl
first-is stops [] (y ∷ ys) w s = ap (λ (b : Bool). cond (not b) (1 + position_or_len (is_one_of stops) ys) 0) s
first-is stops (x ∷ xs) ys w s =
    let p = or_parts (is_one_of stops x) (list_any (is_one_of stops) xs) w in
    ap (λ (b : Bool). cond (not b) (1 + position_or_len (is_one_of stops) (xs ++ ys)) 0) p.0 ∙ one_more (position_or_len (is_one_of stops) (xs ++ ys)) ∙ ap suc (first-is stops xs ys p.1 s)

pub before-split : (stops xs ys : List ℕ) → Without stops xs → Stopped stops ys → before stops (xs ++ ys) ≡ xs
before-split stops xs ys w s = ap (λ (n : ℕ). take n (xs ++ ys)) (first-is stops xs ys w s) ∙ take-append_seam xs ys

pub from-split : (stops xs ys : List ℕ) → Without stops xs → Stopped stops ys → from_first stops (xs ++ ys) ≡ ys
from-split stops xs ys w s = ap (λ (n : ℕ). drop n (xs ++ ys)) (first-is stops xs ys w s) ∙ drop-append_seam xs ys

before-all : (stops xs : List ℕ) → Without stops xs → before stops xs ≡ xs
before-all stops xs w = ap (before stops) (sym (append-nil xs)) ∙ before-split stops xs [] w tt

-- ---- what the parts of a value never hold
abbrev pub SchemeFits : Option (List ℕ) → Type 0
SchemeFits None = Unit {0}
SchemeFits (Some s) = (is_empty s ≡ false) × Without (codes ":/?#") s

abbrev pub AuthorityFits : Option (List ℕ) → List ℕ → Type 0
AuthorityFits None path = Unit {0}
AuthorityFits (Some a) path = Without (codes "/?#") a × ((is_empty path || is_absolute path) ≡ true)

abbrev pub QueryFits : Option (List ℕ) → Type 0
QueryFits None = Unit {0}
QueryFits (Some q) = Without (codes "#") q

pub record WellFormed (p : Parts) : Type 0 where
  pub scheme : SchemeFits p.scheme
  pub authority : AuthorityFits p.authority p.path
  pub path : Without (codes "?#") p.path
  pub query : QueryFits p.query

-- ---- cutting
scheme-cut : (s : Option (List ℕ)) (rest : List ℕ) → SchemeFits s → (s ≡ None → has_scheme rest ≡ false)
    → (scheme_of (scheme_octets s ++ rest) ≡ s) × (behind_scheme (scheme_octets s ++ rest) ≡ rest)
scheme-cut None rest fits none = (
  ap (λ (b : Bool). cond b (Some (before (codes ":/?#") rest)) None) (none refl),
  ap (λ (b : Bool). cond b (drop 1 (from_first (codes ":/?#") rest)) rest) (none refl),
)
scheme-cut (Some s) rest fits none =
    let text = s ++ 58 ∷ rest in
    let front = before-split (codes ":/?#") s (58 ∷ rest) fits.1 refl in
    let back = from-split (codes ":/?#") s (58 ∷ rest) fits.1 refl in
    let has : has_scheme text ≡ true =
    ap (λ (l : List ℕ). not (is_empty l) && begins (codes ":") (from_first (codes ":/?#") text)) front
    ∙ ap (λ (l : List ℕ). not (is_empty s) && begins (codes ":") l) back ∙ ap (λ (b : Bool). not b && true) fits.0 in
    let e : (s ++ codes ":") ++ rest ≡ text = append_assoc s (codes ":") rest in (
      ap scheme_of e ∙ ap (λ (b : Bool). cond b (Some (before (codes ":/?#") text)) None) has ∙ ap (λ (l : List ℕ). Some l) front,
      ap behind_scheme e ∙ ap (λ (b : Bool). cond b (drop 1 (from_first (codes ":/?#") text)) text) has ∙ ap (drop 1) back,
    )

authority-cut : (a : Option (List ℕ)) (path rest : List ℕ) → AuthorityFits a path → ((is_empty path || is_absolute path) ≡ true → Stopped (codes "/?#") rest) → begins (codes "//") rest ≡ false
    → (authority_of (authority_octets a ++ rest) ≡ a) × (behind_authority (authority_octets a ++ rest) ≡ rest)
authority-cut None path rest fits stopped single = (
  ap (λ (b : Bool). cond b (Some (before (codes "/?#") (drop 2 rest))) None) single,
  ap (λ (b : Bool). cond b (from_first (codes "/?#") (drop 2 rest)) rest) single,
)
authority-cut (Some a) path rest fits stopped single = (
  ap (λ (l : List ℕ). Some l) (before-split (codes "/?#") a rest fits.0 (stopped fits.1)),
  from-split (codes "/?#") a rest fits.0 (stopped fits.1),
)

query-stops : (q : Option (List ℕ)) → Stopped (codes "?#") (query_octets q)
query-stops None = tt
query-stops (Some q) = refl

query-cut : (q : Option (List ℕ)) → QueryFits q → query_of (query_octets q) ≡ q
query-cut None fits = refl
query-cut (Some q) fits = ap (λ (l : List ℕ). Some l) (before-all (codes "#") q fits)

path-stops : (path : List ℕ) (q : Option (List ℕ)) → (is_empty path || is_absolute path) ≡ true → Stopped (codes "/?#") (path ++ query_octets q)
path-stops [] None t = tt
path-stops [] (Some q) t = refl
path-stops (c ∷ cs) q t = go (47 == c) (63 == c) (35 == c) t
  where
    go : (x y z : Bool) → (x && true) ≡ true → (x || (y || (z || false))) ≡ true
    go true y z t = refl
    go false y z t = cc

pub cut-together : (s a : Option (List ℕ)) (p : List ℕ) (q : Option (List ℕ)) → WellFormed (parts s a p q) → (s ≡ None → has_scheme (put_together s a p q) ≡ false)
    → begins (codes "//") (p ++ query_octets q) ≡ false → cut (put_together s a p q) ≡ parts s a p q
cut-together s a p q fits none single =
    let hier = p ++ query_octets q in let rest = authority_octets a ++ hier in let text = scheme_octets s ++ rest in
    let e : put_together s a p q ≡ text = regroup (scheme_octets s) (authority_octets a) p (query_octets q) in
    let sc = scheme-cut s rest fits.scheme (λ (n : s ≡ None). ap has_scheme (ap (λ (o : Option (List ℕ)). scheme_octets o ++ rest) (sym n) ∙ sym e) ∙ none n) in
    let ac = authority-cut a p hier fits.authority (path-stops p q) single in
    ap cut e
    ∙ ap (λ (o : Option (List ℕ)). cut_hierarchy o (authority_of (behind_scheme text)) (behind_authority (behind_scheme text))) sc.0
    ∙ ap (λ (l : List ℕ). cut_hierarchy s (authority_of l) (behind_authority l)) sc.1
    ∙ ap (λ (o : Option (List ℕ)). cut_hierarchy s o (behind_authority rest)) ac.0
    ∙ ap (λ (l : List ℕ). cut_hierarchy s a l) ac.1
    ∙ ap (λ (l : List ℕ). parts s a l (query_of (from_first (codes "?#") hier))) (before-split (codes "?#") p (query_octets q) fits.path (query-stops q))
    ∙ ap (λ (l : List ℕ). parts s a p (query_of l)) (from-split (codes "?#") p (query_octets q) fits.path (query-stops q))
    ∙ ap (λ (o : Option (List ℕ)). parts s a p o) (query-cut q fits.query)
  where
    regroup : (a b c d : List ℕ) → ((a ++ b) ++ c) ++ d ≡ a ++ (b ++ (c ++ d))
    regroup a b c d = simp append_assoc
