-- What the value of a base begins with.
use Rattle.std.proofs.Common.{◌≡◌, ℕ, ◌*◌, ◌≤◌, ◌==◌, ◌&&◌, Bool, true, false, cond, List, [], ◌∷◌, ◌++◌, length, take, drop, refl, ap, sym, ◌∙◌, arith, append_assoc, append-nil, length-append}
use Rattle.std.specs.Prelude.{codes, Option, Some, None}
use Rattle.std.specs.List.{list_any}
use Rattle.std.proofs.lemmas.Bool.{or_parts}
use Rattle.std.proofs.Math.Seq.{drop-append_seam, take-append_seam}
use Rattle.c14n_bases.specs.Join.{Parts, begins, is_slash, is_empty, is_absolute, last_segment, base_path, clean, cleaned_value, put_together, scheme_octets, authority_octets, query_octets}
use Rattle.c14n_bases.specs.declared.kind.Kind.TheVariants.{Absolute, Empty, Relative}
use Rattle.c14n_bases.specs.Code.Clean.{kind_of}
use Rattle.c14n_bases.specs.Code.Climbs.{climbs}
use Rattle.c14n_bases.specs.Code.Below.{names_below, upwards_below, slashed}
use Rattle.c14n_bases.proofs.ClimbLemmas.{length-climbs, slashed-begin, last-plain}
use Rattle.c14n_bases.proofs.BelowLemmas.{text-below, names-below}

-- ---- its front
front-is : (w xs ys : List ℕ) (n : ℕ) → w ≡ xs ++ ys → n ≡ length xs → (take n w ≡ xs) × (n ≤ length w)
front-is w xs ys n is long =
    let m = ap (length {A = ℕ}) is ∙ length-append xs ys in
    (ap (λ (k : ℕ). take k w) long ∙ ap (take (length xs)) is ∙ take-append_seam xs ys, omega arith)

pub scheme-front : (b : Parts) (w : List ℕ) (n : ℕ) → w ≡ cleaned_value b → n ≡ length (scheme_octets b.scheme) → (take n w ≡ scheme_octets b.scheme) × (n ≤ length w)
scheme-front b w n is long =
    front-is w (scheme_octets b.scheme) (authority_octets b.authority ++ (clean b.path ++ query_octets b.query)) n
    (is ∙ regroup (scheme_octets b.scheme) (authority_octets b.authority) (clean b.path) (query_octets b.query)) long
  where
    regroup : (s a p q : List ℕ) → ((s ++ a) ++ p) ++ q ≡ s ++ (a ++ (p ++ q))
    regroup s a p q = simp append_assoc

pub roots-front : (b : Parts) (w : List ℕ) (n : ℕ) → w ≡ cleaned_value b → n ≡ length (scheme_octets b.scheme ++ authority_octets b.authority)
    → (take n w ≡ scheme_octets b.scheme ++ authority_octets b.authority) × (n ≤ length w)
roots-front b w n is long =
    let roots = scheme_octets b.scheme ++ authority_octets b.authority in
    front-is w roots (clean b.path ++ query_octets b.query) n (is ∙ append_assoc roots (clean b.path) (query_octets b.query)) long

pub path-front : (b : Parts) (w : List ℕ) (n : ℕ) → w ≡ cleaned_value b → n ≡ length (put_together b.scheme b.authority (clean b.path) None)
    → (take n w ≡ put_together b.scheme b.authority (clean b.path) None) × (n ≤ length w)
path-front b w n is long =
    let front = (scheme_octets b.scheme ++ authority_octets b.authority) ++ clean b.path in
    front-is w (front ++ []) (query_octets b.query) n (is ∙ ap (λ (l : List ℕ). l ++ query_octets b.query) (sym (append-nil front))) long

-- ---- its `../`
last-query : (s : List ℕ) (q : Option (List ℕ)) → list_any is_slash s ≡ false → begins (codes "../") (s ++ query_octets q) ≡ false
last-query [] None f = refl
last-query [] (Some q) f = refl
last-query (a ∷ []) None f = go (46 == a)
  where
    go : (x : Bool) → (x && false) ≡ false
    go true = refl
    go false = refl
last-query (a ∷ []) (Some q) f = go (46 == a)
  where
    go : (x : Bool) → (x && false) ≡ false
    go true = refl
    go false = refl
last-query (a ∷ b ∷ []) None f = go (46 == a) (46 == b)
  where
    go : (x y : Bool) → (x && (y && false)) ≡ false
    go true true = refl
    go true false = refl
    go false y = refl
last-query (a ∷ b ∷ []) (Some q) f = go (46 == a) (46 == b)
  where
    go : (x y : Bool) → (x && (y && false)) ≡ false
    go true true = refl
    go true false = refl
    go false y = refl
last-query (a ∷ b ∷ c ∷ s) q f = ap (λ (z : Bool). (46 == a) && ((46 == b) && (z && true))) third ∙ go (46 == a) (46 == b)
  where
    third : (47 == c) ≡ false
    third =
        let one = or_parts (is_slash a) (list_any is_slash (b ∷ c ∷ s)) f in
        let two = or_parts (is_slash b) (list_any is_slash (c ∷ s)) one.1 in
        let three = or_parts (is_slash c) (list_any is_slash s) two.1 in
        (or_parts (47 == c) false three.0).0

    go : (x y : Bool) → (x && (y && false)) ≡ false
    go true true = refl
    go true false = refl
    go false y = refl

relative_is : (s a : Option (List ℕ)) (p : List ℕ) (q : Option (List ℕ)) → kind_of (record { scheme = s; authority = a; path = p; query = q }) ≡ Relative → (scheme_octets s ≡ []) × (authority_octets a ≡ []) × (is_absolute p ≡ false)
relative_is (Some s) a p q k = cc
relative_is None (Some a) p q k = cc
relative_is None None p q k = (refl, refl, go (is_absolute p) (is_empty p) refl k)
  where
    go : (x y : Bool) → is_absolute p ≡ x → cond x Absolute (cond y Empty Relative) ≡ Relative → is_absolute p ≡ false
    go true y e k = cc
    go false y e k = e

relative-text : (b : Parts) → kind_of b ≡ Relative → cleaned_value b ≡ climbs (upwards_below b) ++ (slashed (names_below b) ++ (last_segment (base_path b.path) ++ query_octets b.query))
relative-text b k =
    let r = relative_is b.scheme b.authority b.path b.query k in
    let rest = slashed (names_below b) ++ (last_segment (base_path b.path) ++ query_octets b.query) in
    text-below b
    ∙ ap (λ (l : List ℕ). (((l ++ authority_octets b.authority) ++ cond (is_absolute b.path) (codes "/") []) ++ climbs (upwards_below b)) ++ rest) r.0
    ∙ ap (λ (l : List ℕ). ((l ++ cond (is_absolute b.path) (codes "/") []) ++ climbs (upwards_below b)) ++ rest) r.1
    ∙ ap (λ (t : Bool). (cond t (codes "/") [] ++ climbs (upwards_below b)) ++ rest) r.2

dropped : (n : ℕ) (rest w : List ℕ) → w ≡ climbs n ++ rest → drop (3 * n) w ≡ rest
dropped n rest w is = ap (drop (3 * n)) is ∙ ap (λ (k : ℕ). drop k (climbs n ++ rest)) (sym (length-climbs n)) ∙ drop-append_seam (climbs n) rest

pub upwards-climb : (b : Parts) (n : ℕ) → n ≡ upwards_below b → kind_of b ≡ Relative → cleaned_value b ≡ climbs n ++ drop (3 * n) (cleaned_value b)
upwards-climb b n is k =
    let rest = slashed (names_below b) ++ (last_segment (base_path b.path) ++ query_octets b.query) in
    let e : cleaned_value b ≡ climbs n ++ rest = relative-text b k ∙ ap (λ (m : ℕ). climbs m ++ rest) (sym is) in
    e ∙ ap (λ (l : List ℕ). climbs n ++ l) (sym (dropped n rest (cleaned_value b) e))

pub upwards-all : (b : Parts) (n : ℕ) → n ≡ upwards_below b → kind_of b ≡ Relative → begins (codes "../") (drop (3 * n) (cleaned_value b)) ≡ false
upwards-all b n is k =
    let last = last_segment (base_path b.path) ++ query_octets b.query in
    let rest = slashed (names_below b) ++ last in
    let e : cleaned_value b ≡ climbs n ++ rest = relative-text b k ∙ ap (λ (m : ℕ). climbs m ++ rest) (sym is) in
    ap (begins (codes "../")) (dropped n rest (cleaned_value b) e)
    ∙ slashed-begin (names_below b) last (names-below b) (last-query (last_segment (base_path b.path)) b.query (last-plain (base_path b.path)))

pub upwards-within : (b : Parts) (n : ℕ) → n ≡ upwards_below b → 3 * n ≤ length (cleaned_value b)
upwards-within b n is =
    let front = ((scheme_octets b.scheme ++ authority_octets b.authority) ++ cond (is_absolute b.path) (codes "/") []) in
    let rest = slashed (names_below b) ++ (last_segment (base_path b.path) ++ query_octets b.query) in
    let a = ap (length {A = ℕ}) (text-below b) ∙ length-append (front ++ climbs (upwards_below b)) rest in
    let d = length-append front (climbs (upwards_below b)) in
    let g = length-climbs (upwards_below b) in
    omega arith
