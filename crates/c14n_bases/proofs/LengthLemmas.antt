-- How long a joined value can be.
use Rattle.std.proofs.Common.{◌≡◌, ℕ, suc, ◌+◌, ◌≤◌, ◌==◌, ◌&&◌, Bool, true, false, not, cond, List, [], ◌∷◌, ◌++◌, length, reverse, take, drop, refl, ap, sym, ◌∙◌, arith, length-append, length-drop}
use Rattle.std.specs.Prelude.{codes, Option, Some, None, is_some}
use Rattle.std.specs.List.{flat_map, onto_first, position_or_len}
use Rattle.std.proofs.lemmas.List.{reverse-append, take-append-drop}
use Rattle.std.proofs.lemmas.Bool.{and_parts}
use Rattle.std.proofs.lemmas.Slice.Eq.{bytes_eq-Decides}
use Rattle.c14n_bases.specs.Join.{Parts, is_one_of, before, from_first, begins, is_empty, has_scheme, scheme_of, behind_scheme, authority_of, behind_authority, query_of, cut, is_slash, segments, is_same, is_up, upwards, add, added, after_slash, path_of, directory, last_segment, is_dots, is_absolute, is_open, clean, base_path, joined_path, first_some, joined_query, below, scheme_octets, authority_octets, query_octets, cleaned_value, join}
use Rattle.c14n_bases.specs.Code.Slices.{parts_weight}
use Rattle.c14n_bases.proofs.SegmentLemmas.{directory-last, some_segment}

-- the octets of segments, each with a `/`
weight : List (List ℕ) → ℕ
weight [] = 0
weight (s ∷ more) = suc (length s + weight more)

weight-onto : (c : ℕ) (ps : List (List ℕ)) → (ps ≡ [] → ⊥) → weight (onto_first c ps) ≡ suc (weight ps)
unfolding weight
weight-onto c [] some = absurd (some refl)
weight-onto c (p ∷ ps) some = omega arith

weight-segments : (path : List ℕ) → weight (segments path) ≡ suc (length path)
unfolding weight
weight-segments [] = omega arith
weight-segments (c ∷ cs) = go (is_slash c) (weight-segments cs)
  where
    go : (b : Bool) → weight (segments cs) ≡ suc (length cs) → weight (cond b ([] ∷ segments cs) (onto_first c (segments cs))) ≡ suc (suc (length cs))
    go true ih = omega (arith, ih)
    go false ih = weight-onto c (segments cs) (some_segment cs) ∙ ap suc ih

up_is : (s : List ℕ) → is_up s ≡ true → length s ≡ 2
up_is s t = let e : s ≡ codes ".." = (bytes_eq-Decides s (codes "..")).0 t in ap length e

weight-upwards : (a : Bool) (kept : List (List ℕ)) → weight (upwards a kept) ≤ weight kept + 3
unfolding weight
weight-upwards true [] = omega arith
weight-upwards false [] = omega arith
weight-upwards a (k ∷ kept) = go (is_up k) a
  where
    go : (b a : Bool) → weight (cond b (cond a (k ∷ kept) (codes ".." ∷ k ∷ kept)) kept) ≤ weight (k ∷ kept) + 3
    go true true = omega arith
    go true false = omega arith
    go false a = omega arith

weight-add : (a : Bool) (kept : List (List ℕ)) (s : List ℕ) → weight (add a kept s) ≤ weight kept + suc (length s)
unfolding weight
weight-add a kept s = go (is_same s) (is_up s) refl
  where
    go : (b c : Bool) → is_up s ≡ c → weight (cond b kept (cond c (upwards a kept) (s ∷ kept))) ≤ weight kept + suc (length s)
    go true c is = omega arith
    go false true is = omega (arith, weight-upwards a kept, up_is s is)
    go false false is = omega arith

weight-added : (a : Bool) (kept segs : List (List ℕ)) → weight (added a kept segs) ≤ weight kept + weight segs
unfolding weight
weight-added a kept [] = omega arith
weight-added a kept (s ∷ more) = omega (arith, weight-added a (add a kept s) more, weight-add a kept s)

weight-append : (xs ys : List (List ℕ)) → weight (xs ++ ys) ≡ weight xs + weight ys
unfolding weight
weight-append [] ys = omega arith
weight-append (x ∷ xs) ys = omega (arith, weight-append xs ys)

weight-reverse : (xs : List (List ℕ)) → weight (reverse xs) ≡ weight xs
unfolding weight
weight-reverse [] = refl
weight-reverse (x ∷ xs) = ap weight (reverse-append (x ∷ []) xs) ∙ weight-append (reverse xs) (x ∷ []) ∙ (let ih = weight-reverse xs in omega (arith, ih))

slashes-length : (xs : List (List ℕ)) → length (flat_map after_slash xs) ≡ weight xs
unfolding weight
slashes-length [] = refl
slashes-length (x ∷ xs) = ap suc (length-append x (flat_map after_slash xs) ∙ ap (λ (n : ℕ). length x + n) (slashes-length xs))

slash-length : (b : Bool) → length (cond b (codes "/") []) ≤ 1
slash-length true = omega arith
slash-length false = omega arith

path-length : (a c : Bool) (segs : List (List ℕ)) → length (path_of a c segs) ≤ weight segs + 1
unfolding weight
path-length a c [] = omega (arith, slash-length a)
path-length a c (s ∷ more) =
    let root = cond a (codes "/") [] in let middle = s ++ flat_map after_slash more in let closing = cond c (codes "/") [] in
    omega (arith, length-append (root ++ middle) closing, length-append root middle, length-append s (flat_map after_slash more), slashes-length more, slash-length a, slash-length c)

clean-length : (path : List ℕ) → length (clean path) ≤ length path + 2
unfolding weight
clean-length path =
    let segs = added (is_absolute path) [] (segments path) in
    omega (arith, path-length (is_absolute path) (is_open path) (reverse segs), weight-reverse segs, weight-added (is_absolute path) [] (segments path), weight-segments path)

pub directory-length : (p : List ℕ) → length (directory p) ≤ length p
directory-length p = let e = sym (length-append (directory p) (last_segment p)) ∙ ap length (directory-last p) in omega arith

base_path-length : (p : List ℕ) → length (base_path p) ≤ length p + 1
base_path-length p = go (is_dots (last_segment p))
  where
    go : (b : Bool) → length (cond b (p ++ codes "/") p) ≤ length p + 1
    go true = omega (arith, length-append p (codes "/"))
    go false = omega arith

joined_path-length : (b r : Parts) → length (joined_path b r) ≤ length b.path + length r.path + 1
joined_path-length b r = go (is_empty r.path) (is_absolute r.path) (is_some b.authority && is_empty b.path)
  where
    go : (e f g : Bool) → length (cond e (base_path b.path) (cond f r.path (cond g (codes "/" ++ r.path) (directory (base_path b.path) ++ r.path)))) ≤ length b.path + length r.path + 1
    go true f g = omega (arith, base_path-length b.path)
    go false true g = omega arith
    go false false true = omega arith
    go false false false = omega (arith, length-append (directory (base_path b.path)) r.path, directory-length (base_path b.path), base_path-length b.path)

-- ---- the parts of a value
parts-length : (stops text : List ℕ) → length (before stops text) + length (from_first stops text) ≡ length text
parts-length stops text =
    let n = position_or_len (is_one_of stops) text in
    sym (length-append (take n text) (drop n text)) ∙ ap length (take-append-drop n text)

one_there : (c : ℕ) (text : List ℕ) → begins (c ∷ []) text ≡ true → 1 ≤ length text
one_there c [] t = absurd (cc)
one_there c (x ∷ xs) t = omega arith

two_there : (text : List ℕ) → begins (codes "//") text ≡ true → 2 ≤ length text
two_there [] t = absurd (cc)
two_there (x ∷ []) t = go (47 == x) t
  where
    go : (b : Bool) → (b && false) ≡ true → 2 ≤ 1
    go true t = absurd (cc)
    go false t = absurd (cc)
two_there (x ∷ y ∷ xs) t = omega arith

scheme-length : (text : List ℕ) → length (scheme_octets (scheme_of text)) + length (behind_scheme text) ≤ length text
scheme-length text = go (has_scheme text) refl
  where
    rest : List ℕ
    rest = from_first (codes ":/?#") text

    go : (h : Bool) → has_scheme text ≡ h → length (scheme_octets (cond h (Some (before (codes ":/?#") text)) None)) + length (cond h (drop 1 (from_first (codes ":/?#") text)) text) ≤ length text
    go false is = omega arith
    go true is =
        omega (
          arith,
          length-append (before (codes ":/?#") text) (codes ":"),
          length-drop 1 (from_first (codes ":/?#") text),
          parts-length (codes ":/?#") text,
          one_there 58 (from_first (codes ":/?#") text) (and_parts (not (is_empty (before (codes ":/?#") text))) (begins (codes ":") (from_first (codes ":/?#") text)) is).1,
        )

authority-length : (text : List ℕ) → length (authority_octets (authority_of text)) + length (behind_authority text) ≤ length text
authority-length text = go (begins (codes "//") text) refl
  where
    go : (h : Bool) → begins (codes "//") text ≡ h → length (authority_octets (cond h (Some (before (codes "/?#") (drop 2 text))) None)) + length (cond h (from_first (codes "/?#") (drop 2 text)) text) ≤ length text
    go false is = omega arith
    go true is = omega (arith, parts-length (codes "/?#") (drop 2 text), length-drop 2 text, two_there text is)

query-length : (text : List ℕ) → length (query_octets (query_of text)) ≤ length text
query-length text = go (begins (codes "?") text) refl
  where
    go : (h : Bool) → begins (codes "?") text ≡ h → length (query_octets (cond h (Some (before (codes "#") (drop 1 text))) None)) ≤ length text
    go false is = omega arith
    go true is = omega (arith, parts-length (codes "#") (drop 1 text), length-drop 1 text, one_there 63 text is)

total : Parts → ℕ
total p = length (scheme_octets p.scheme) + length (authority_octets p.authority) + length p.path + length (query_octets p.query)

cut-total : (text : List ℕ) → total (cut text) ≤ length text
unfolding total
cut-total text =
    let hier = behind_authority (behind_scheme text) in
    omega (arith, scheme-length text, authority-length (behind_scheme text), parts-length (codes "?#") hier, query-length (from_first (codes "?#") hier))

together-length : (p : Parts) → length (cleaned_value p) ≤ total p + 2
unfolding total
together-length p =
    let s = scheme_octets p.scheme in let a = authority_octets p.authority in let c = clean p.path in let q = query_octets p.query in
    omega (arith, length-append (s ++ a ++ c) q, length-append (s ++ a) c, length-append s a, clean-length p.path)

first_some-length : (a b : Option (List ℕ)) → length (query_octets (first_some a b)) ≤ length (query_octets a) + length (query_octets b)
first_some-length (Some a) b = omega arith
first_some-length None b = omega arith

joined_query-length : (b r : Parts) → length (query_octets (joined_query b r)) ≤ length (query_octets b.query) + length (query_octets r.query)
joined_query-length b r = go (is_empty r.path)
  where
    go : (e : Bool) → length (query_octets (cond e (first_some r.query b.query) r.query)) ≤ length (query_octets b.query) + length (query_octets r.query)
    go true = omega (arith, first_some-length r.query b.query)
    go false = omega arith

below-total : (b r : Parts) → total (below b r) ≤ total b + total r + 1
unfolding total
below-total b r = go (is_some r.scheme) (is_some r.authority)
  where
    go : (e f : Bool) → total (cond e r (cond f (record { scheme = b.scheme; authority = r.authority; path = r.path; query = r.query }) (record { scheme = b.scheme; authority = b.authority; path = joined_path b r; query = joined_query b r }))) ≤ total b + total r + 1
    go true f = omega arith
    go false true = omega arith
    go false false = omega (arith, joined_path-length b r, joined_query-length b r)

pub cleaned-length : (text : List ℕ) → length (cleaned_value (cut text)) ≤ length text + 2
cleaned-length text = omega (arith, together-length (cut text), cut-total text)

-- a joined value has no more octets than both and three
pub join_length : (base own : List ℕ) → length (join base own) ≤ length base + length own + 3
join_length base own = omega (arith, together-length (below (cut base) (cut own)), below-total (cut base) (cut own), cut-total base, cut-total own)

pub cut-weight : (text : List ℕ) → parts_weight (cut text) ≤ length text
unfolding total
cut-weight text = cut-total text

pub clean-most : (path : List ℕ) → length (clean path) ≤ length path + 2
clean-most path = clean-length path

-- a cleaned value has no more octets than the value and two
pub value-most : (text : List ℕ) → length (cleaned_value (cut text)) ≤ length text + 2
value-most text = omega (arith, together-length (cut text), cut-total text)
