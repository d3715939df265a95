-- The directory in which relative paths stand below a base, as it stands in the value of the base.
use Rattle.std.proofs.Common.{◌≡◌, ℕ, zero, suc, ◌+◌, ◌-◌, ◌*◌, ◌≤◌, ◌==◌, ◌||◌, ◌&&◌, Bool, true, false, cond, List, [], ◌∷◌, ◌++◌, length, take, drop, get_or, refl, ap, sym, ◌∙◌, arith, append_assoc, append-nil, length-append, inr, ◌⊎◌}
use Rattle.std.specs.Prelude.{codes, Option, Some, None, is_some}
use Rattle.std.specs.List.{All, list_any}
use Rattle.std.proofs.lemmas.Bool.{or_parts}
use Rattle.std.proofs.lemmas.List.Elements.{All-head, All-tail, All-take}
use Rattle.std.proofs.Math.Seq.{drop-append_seam, take-append_seam}
use Rattle.c14n_bases.specs.Join.{Parts, begins, is_slash, is_dots, is_empty, is_absolute, is_open, last_segment, directory, base_path, segments, path_of, clean, relative_path, scheme_octets, authority_octets, query_octets, put_together, cleaned_value}
use Rattle.c14n_bases.specs.Code.Surplus.{surplus, names_kept}
use Rattle.c14n_bases.specs.Code.Going.{IsName}
use Rattle.c14n_bases.specs.Code.Climbs.{Climbs, climbs}
use Rattle.c14n_bases.specs.Code.Below.{directory_below, names_below, upwards_below, first_below, starts_below, slashed, starts_from, behind_slashes}
use Rattle.c14n_bases.proofs.SegmentLemmas.{directory-form}
use Rattle.c14n_bases.proofs.NameLemmas.{path_names}
use Rattle.c14n_bases.proofs.RunLemmas.{plain-begin}
use Rattle.c14n_bases.proofs.ClimbLemmas.{length-climbs, below-is, climbs-are, base-is, last-plain, slashed-begin}

-- ---- whether it begins with `/`
root-directory : (p : List ℕ) → is_absolute (directory p) ≡ is_absolute p
root-directory [] = refl
root-directory (c ∷ cs) = go (47 == c) (list_any is_slash cs) refl
  where
    go : (a m : Bool) → (47 == c) ≡ a → is_absolute (cond ((a || false) || m) (c ∷ directory cs) []) ≡ ((47 == c) && true)
    go true m e = refl
    go false true e = refl
    go false false e = ap (λ (b : Bool). b && true) (sym e)

root-base : (p : List ℕ) → is_absolute (directory (base_path p)) ≡ is_absolute p
root-base p = root-directory (base_path p) ∙ go (is_dots (last_segment p)) refl
  where
    some : (xs : List ℕ) → is_dots (last_segment xs) ≡ true → is_absolute (xs ++ codes "/") ≡ is_absolute xs
    some [] e = cc
    some (c ∷ cs) e = refl

    go : (b : Bool) → is_dots (last_segment p) ≡ b → is_absolute (cond b (p ++ codes "/") p) ≡ is_absolute p
    go true e = some p e
    go false e = refl

pub root-below : (b : Parts) → ((is_some b.authority && is_empty b.path) || is_absolute b.path) ≡ is_absolute (directory_below b)
unfolding directory_below
root-below b = go (is_some b.authority && is_empty b.path)
  where
    go : (bare : Bool) → (bare || is_absolute b.path) ≡ is_absolute (cond bare (codes "/") (directory (base_path b.path)))
    go true = refl
    go false = sym (root-base b.path)

-- ---- the path of the base
no_path : (o : Option (List ℕ)) (p : List ℕ) → (is_some o && is_empty p) ≡ true → p ≡ []
no_path o [] e = refl
no_path (Some a) (c ∷ cs) e = cc
no_path None (c ∷ cs) e = cc

pub path-below : (b : Parts) → clean b.path ≡ cond (is_absolute b.path) (codes "/") [] ++ (climbs (upwards_below b) ++ (slashed (names_below b) ++ last_segment (base_path b.path)))
unfolding directory_below names_below upwards_below
path-below b = go (is_some b.authority && is_empty b.path) refl
  where
    empty : (p : List ℕ) → p ≡ [] → clean p ≡ cond (is_absolute p) (codes "/") [] ++ last_segment (base_path p)
    empty [] e = refl
    empty (c ∷ cs) e = cc

    go : (bare : Bool) → (is_some b.authority && is_empty b.path) ≡ bare
        → clean b.path ≡ cond (is_absolute b.path) (codes "/") []
        ++ (climbs (cond (is_absolute (cond bare (codes "/") (directory (base_path b.path)))) 0 (surplus 0 (segments (cond bare (codes "/") (directory (base_path b.path))))))
        ++ (slashed (names_kept 0 (segments (cond bare (codes "/") (directory (base_path b.path))))) ++ last_segment (base_path b.path)))
    go true e = empty b.path (no_path b.authority b.path e)
    go false e =
        let d = directory (base_path b.path) in
        base-is b.path ∙ ap (λ (a : Bool). cond a (codes "/") [] ++ (climbs (cond (is_absolute d) 0 (surplus 0 (segments d))) ++ (slashed (names_kept 0 (segments d)) ++ last_segment (base_path b.path)))) (root-base b.path)

pub names-below : (b : Parts) → All IsName (names_below b)
unfolding names_below
names-below b = path_names (directory_below b)

-- what stands behind the `../` of the path
pub rest-begins : (b : Parts) → begins (codes "../") (slashed (names_below b) ++ last_segment (base_path b.path)) ≡ false
rest-begins b = slashed-begin (names_below b) (last_segment (base_path b.path)) (names-below b) (plain-begin (last_segment (base_path b.path)) (last-plain (base_path b.path)))

-- ---- a relative path below the base
pub relative-below : (b : Parts) (path : List ℕ) (ups : ℕ) (rest : List ℕ) → Climbs path ups rest
    → clean (relative_path b path) ≡ cond (is_absolute (directory_below b)) (codes "/") []
    ++ (climbs (cond (is_absolute (directory_below b)) 0 (upwards_below b + (ups - length (names_below b)))) ++ (slashed (take (length (names_below b) - ups) (names_below b)) ++ rest))
unfolding directory_below names_below upwards_below
relative-below b path ups rest c = go (is_some b.authority && is_empty b.path)
  where
    behind : (d : List ℕ) → (d ≡ []) ⊎ ((front : List ℕ) × (d ≡ front ++ 47 ∷ []))
        → clean (d ++ path) ≡ cond (is_absolute d) (codes "/") []
        ++ (climbs (cond (is_absolute d) 0 (cond (is_absolute d) 0 (surplus 0 (segments d)) + (ups - length (names_kept 0 (segments d)))))
        ++ (slashed (take (length (names_kept 0 (segments d)) - ups) (names_kept 0 (segments d))) ++ rest))
    behind d form =
        let a = is_absolute d in let names = names_kept 0 (segments d) in let sp = surplus 0 (segments d) in
        let root = cond a (codes "/") [] in
        let are = climbs-are path ups rest c in
        below-is d path form c.relative
        ∙ ap (λ (n : ℕ). root ++ (climbs (cond a 0 (sp + (n - length names))) ++ (slashed (take (length names - n) names) ++ path_of false (is_open path) (names_kept 0 (segments path))))) are.0
        ∙ ap (λ (l : List ℕ). root ++ (climbs (cond a 0 (sp + (ups - length names))) ++ (slashed (take (length names - ups) names) ++ l))) are.1
        ∙ ap (λ (n : ℕ). root ++ (climbs n ++ (slashed (take (length names - ups) names) ++ rest))) (twice a sp (ups - length names))
      where
        twice : (a : Bool) (m n : ℕ) → cond a 0 (m + n) ≡ cond a 0 (cond a 0 m + n)
        twice true m n = refl
        twice false m n = refl

    go : (bare : Bool) → clean (cond bare (codes "/" ++ path) (directory (base_path b.path) ++ path))
        ≡ cond (is_absolute (cond bare (codes "/") (directory (base_path b.path)))) (codes "/") []
        ++ (climbs (cond (is_absolute (cond bare (codes "/") (directory (base_path b.path)))) 0
        (cond (is_absolute (cond bare (codes "/") (directory (base_path b.path)))) 0 (surplus 0 (segments (cond bare (codes "/") (directory (base_path b.path)))))
        + (ups - length (names_kept 0 (segments (cond bare (codes "/") (directory (base_path b.path))))))))
        ++ (slashed (take (length (names_kept 0 (segments (cond bare (codes "/") (directory (base_path b.path))))) - ups) (names_kept 0 (segments (cond bare (codes "/") (directory (base_path b.path)))))) ++ rest))
    go true = behind (codes "/") (inr ([], refl))
    go false = behind (directory (base_path b.path)) (directory-form (base_path b.path))

-- ---- where the names stand
pub length-starts : (at : ℕ) (names : List (List ℕ)) → length (starts_from at names) ≡ length names + 1
length-starts at [] = refl
length-starts at (s ∷ more) = let ih = length-starts (at + (length s + 1)) more in omega arith

pub get-starts : (at : ℕ) (names : List (List ℕ)) (j : ℕ) → j ≤ length names → get_or (starts_from at names) j 0 ≡ at + length (slashed (take j names))
get-starts at [] zero le = omega arith
get-starts at [] (suc j) le = absurd (omega arith)
get-starts at (s ∷ more) zero le = omega arith
get-starts at (s ∷ more) (suc j) le =
    let ih = get-starts (at + (length s + 1)) more j (omega arith) in
    let n = length-append s (codes "/" ++ slashed (take j more)) in
    let ih_is : get_or (starts_from (at + (length s + 1)) more) j 0 ≡ at + (length s + 1) + length (slashed (take j more)) = ih in
    ih ∙ (let e : at + (length s + 1) + length (slashed (take j more)) ≡ at + length (s ++ (codes "/" ++ slashed (take j more))) = omega arith in e)

pub slashed-take : (j : ℕ) (names : List (List ℕ)) → slashed names ≡ slashed (take j names) ++ slashed (drop j names)
slashed-take zero names = refl
slashed-take (suc j) [] = refl
slashed-take (suc j) (s ∷ more) =
    ap (λ (l : List ℕ). s ++ (codes "/" ++ l)) (slashed-take j more) ∙ sym (append_assoc s (codes "/" ++ slashed (take j more)) (slashed (drop j more)))

behind-name : (at : ℕ) (s rest : List ℕ) → list_any is_slash s ≡ false → behind_slashes at (s ++ 47 ∷ rest) ≡ (at + (length s + 1)) ∷ behind_slashes (at + (length s + 1)) rest
behind-name at [] rest f = refl
behind-name at (c ∷ cs) rest f =
    let p = or_parts (is_slash c) (list_any is_slash cs) f in
    let e : at + 1 + (length cs + 1) ≡ at + (suc (length cs) + 1) = omega arith in
    ap (λ (b : Bool). cond b ((at + 1) ∷ behind_slashes (at + 1) (cs ++ 47 ∷ rest)) (behind_slashes (at + 1) (cs ++ 47 ∷ rest))) p.0
    ∙ behind-name (at + 1) cs rest p.1 ∙ ap (λ (n : ℕ). n ∷ behind_slashes n rest) e

behind-none : (at : ℕ) (s : List ℕ) → list_any is_slash s ≡ false → behind_slashes at s ≡ []
behind-none at [] f = refl
behind-none at (c ∷ cs) f =
    let p = or_parts (is_slash c) (list_any is_slash cs) f in
    ap (λ (b : Bool). cond b ((at + 1) ∷ behind_slashes (at + 1) cs) (behind_slashes (at + 1) cs)) p.0 ∙ behind-none (at + 1) cs p.1

pub starts-are : (at : ℕ) (names : List (List ℕ)) (last : List ℕ) → All IsName names → list_any is_slash last ≡ false → at ∷ behind_slashes at (slashed names ++ last) ≡ starts_from at names
starts-are at [] last all f = ap (λ (l : List ℕ). at ∷ l) (behind-none at last f)
starts-are at (s ∷ more) last all f =
    ap (λ (l : List ℕ). at ∷ behind_slashes at l) (append_assoc s (codes "/" ++ slashed more) last)
    ∙ ap (λ (l : List ℕ). at ∷ l) (behind-name at s (slashed more ++ last) (All-head IsName s more all).segment.plain
    ∙ starts-are (at + (length s + 1)) more last (All-tail IsName s more all) f)

-- ---- the value of the base, before the names and from them on
abbrev pub before_names : Parts → List ℕ
before_names b = ((scheme_octets b.scheme ++ authority_octets b.authority) ++ cond (is_absolute b.path) (codes "/") []) ++ climbs (upwards_below b)

pub length-before : (b : Parts) → length (before_names b) ≡ first_below b
unfolding first_below
length-before b =
    let roots = scheme_octets b.scheme ++ authority_octets b.authority in let root = cond (is_absolute b.path) (codes "/") [] in
    let m = length-append (roots ++ root) (climbs (upwards_below b)) in
    let n = length-append roots root in
    let k = length-climbs (upwards_below b) in
    omega arith

pub text-below : (b : Parts) → cleaned_value b ≡ before_names b ++ (slashed (names_below b) ++ (last_segment (base_path b.path) ++ query_octets b.query))
text-below b =
    let roots = scheme_octets b.scheme ++ authority_octets b.authority in
    ap (λ (l : List ℕ). (roots ++ l) ++ query_octets b.query) (path-below b)
    ∙ regroup roots (cond (is_absolute b.path) (codes "/") []) (climbs (upwards_below b)) (slashed (names_below b)) (last_segment (base_path b.path)) (query_octets b.query)
  where
    regroup : (r x c n l q : List ℕ) → (r ++ (x ++ (c ++ (n ++ l)))) ++ q ≡ ((r ++ x) ++ c) ++ (n ++ (l ++ q))
    regroup r x c n l q = simp append_assoc

-- what stands behind the scheme, the authority and the root in the value without its query
pub path-text : (b : Parts) (text : List ℕ) (first : ℕ) → text ≡ put_together b.scheme b.authority (clean b.path) None
    → first ≡ length (scheme_octets b.scheme ++ authority_octets b.authority) + length (cond (is_absolute b.path) (codes "/") [])
    → drop first text ≡ climbs (upwards_below b) ++ (slashed (names_below b) ++ last_segment (base_path b.path))
path-text b text first is at =
    let roots = scheme_octets b.scheme ++ authority_octets b.authority in let root = cond (is_absolute b.path) (codes "/") [] in
    let rest = climbs (upwards_below b) ++ (slashed (names_below b) ++ last_segment (base_path b.path)) in
    ap (drop first) (is ∙ append-nil (roots ++ clean b.path) ∙ ap (λ (l : List ℕ). roots ++ l) (path-below b) ∙ sym (append_assoc roots root rest))
    ∙ ap (λ (n : ℕ). drop n ((roots ++ root) ++ rest)) (at ∙ sym (length-append roots root)) ∙ drop-append_seam (roots ++ root) rest

-- ---- names that stand together
pub starts-up : (at : ℕ) (names : List (List ℕ)) (j : ℕ) → j ≤ length names → get_or (starts_from at names) 0 0 ≤ get_or (starts_from at names) j 0
starts-up at names j le =
    let a = get-starts at names 0 (omega arith) in
    let b = get-starts at names j le in
    omega arith

names-slice : (at : ℕ) (names : List (List ℕ)) (j : ℕ) (front last text : List ℕ) → text ≡ front ++ (slashed names ++ last) → length front ≡ at → j ≤ length names
    → (take (get_or (starts_from at names) j 0 - get_or (starts_from at names) 0 0) (drop (get_or (starts_from at names) 0 0) text) ≡ slashed (take j names)) × (get_or (starts_from at names) j 0 ≤ length text)
names-slice at names j front last text is long le =
    let a = get-starts at names 0 (omega arith) in
    let b = get-starts at names j le in
    let some = slashed (take j names) in let more = slashed (drop j names) in
    let first : get_or (starts_from at names) 0 0 ≡ length front = omega arith in
    let size : get_or (starts_from at names) j 0 - get_or (starts_from at names) 0 0 ≡ length some = omega arith in
    let whole : text ≡ front ++ (some ++ (more ++ last)) = is ∙ ap (λ (l : List ℕ). front ++ (l ++ last)) (slashed-take j names) ∙ ap (λ (l : List ℕ). front ++ l) (append_assoc some more last) in
    let n = ap (length {A = ℕ}) whole ∙ length-append front (some ++ (more ++ last)) in
    let m = length-append some (more ++ last) in (
      ap (λ (k : ℕ). take (get_or (starts_from at names) j 0 - get_or (starts_from at names) 0 0) (drop k text)) first
          ∙ ap (λ (k : ℕ). take k (drop (length front) text)) size ∙ ap (λ (l : List ℕ). take (length some) (drop (length front) l)) whole
          ∙ ap (take (length some)) (drop-append_seam front (some ++ (more ++ last))) ∙ take-append_seam some (more ++ last),
      omega arith,
    )

pub below-slice : (b : Parts) (starts text : List ℕ) (j : ℕ) → starts ≡ starts_below b → text ≡ cleaned_value b → j ≤ length (names_below b)
    → (take (get_or starts j 0 - get_or starts 0 0) (drop (get_or starts 0 0) text) ≡ slashed (take j (names_below b))) × (get_or starts j 0 ≤ length text) × (get_or starts 0 0 ≤ get_or starts j 0)
unfolding starts_below
below-slice b starts text j is text_is le =
    let s = names-slice (first_below b) (names_below b) j (before_names b) (last_segment (base_path b.path) ++ query_octets b.query) text (text_is ∙ text-below b) (length-before b) le in
    let up = starts-up (first_below b) (names_below b) j le in (
      ap (λ (l : List ℕ). take (get_or l j 0 - get_or l 0 0) (drop (get_or l 0 0) text)) is ∙ s.0,
      (let e = ap (λ (l : List ℕ). get_or l j 0) is in let f = s.1 in omega arith),
      (let e = ap (λ (l : List ℕ). get_or l j 0) is in let f = ap (λ (l : List ℕ). get_or l 0 0) is in omega arith),
    )

pub length-below : (b : Parts) → length (starts_below b) ≡ length (names_below b) + 1
unfolding starts_below
length-below b = length-starts (first_below b) (names_below b)

-- the places are those behind each `/`
pub starts-below : (b : Parts) (first u from : ℕ) (text : List ℕ) → u ≡ upwards_below b → from ≡ first + 3 * u
    → first ≡ length (scheme_octets b.scheme ++ authority_octets b.authority) + length (cond (is_absolute b.path) (codes "/") [])
    → drop from text ≡ slashed (names_below b) ++ last_segment (base_path b.path) → from ∷ behind_slashes from (drop from text) ≡ starts_below b
unfolding starts_below first_below
starts-below b first u from text is at first_is rest =
    let e : from ≡ length (scheme_octets b.scheme ++ authority_octets b.authority) + length (cond (is_absolute b.path) (codes "/") []) + 3 * upwards_below b =
    (let m = ap (λ (n : ℕ). 3 * n) is in omega arith) in
    ap (λ (l : List ℕ). from ∷ behind_slashes from l) rest
    ∙ starts-are from (names_below b) (last_segment (base_path b.path)) (names-below b) (last-plain (base_path b.path))
    ∙ ap (λ (n : ℕ). starts_from n (names_below b)) e

-- ---- what stands before a relative path
pub upwards-first : (b : Parts) (starts : List ℕ) → starts ≡ starts_below b → 3 * upwards_below b ≤ get_or starts 0 0
unfolding starts_below first_below
upwards-first b starts is =
    let roots = length (scheme_octets b.scheme ++ authority_octets b.authority) in let root = length (cond (is_absolute b.path) (codes "/") []) in
    let a = get-starts (roots + root + 3 * upwards_below b) (names_below b) 0 (omega arith) in
    let e = ap (λ (l : List ℕ). get_or l 0 0) is in
    omega arith

pub climb-is : (b : Parts) (absolute : Bool) (upwards up ups j : ℕ) (names path rest : List ℕ) → absolute ≡ is_absolute (directory_below b) → upwards ≡ upwards_below b
    → up ≡ cond absolute 0 (upwards + (ups - length (names_below b))) → j ≡ length (names_below b) - ups → names ≡ slashed (take j (names_below b)) → Climbs path ups rest
    → clean (relative_path b path) ≡ cond absolute (codes "/") [] ++ climbs up ++ names ++ rest
climb-is b absolute upwards up ups j names path rest absolute_is upwards_is up_is j_is names_are c =
    let n = names_below b in let root = λ (a : Bool). cond a (codes "/") [] in let left = ups - length n in
    relative-below b path ups rest c
    ∙ ap (λ (a : Bool). root a ++ (climbs (cond a 0 (upwards_below b + left)) ++ (slashed (take (length n - ups) n) ++ rest))) (sym absolute_is)
    ∙ ap (λ (u : ℕ). root absolute ++ (climbs (cond absolute 0 (u + left)) ++ (slashed (take (length n - ups) n) ++ rest))) (sym upwards_is)
    ∙ ap (λ (u : ℕ). root absolute ++ (climbs u ++ (slashed (take (length n - ups) n) ++ rest))) (sym up_is)
    ∙ ap (λ (k : ℕ). root absolute ++ (climbs up ++ (slashed (take k n) ++ rest))) (sym j_is)
    ∙ ap (λ (l : List ℕ). root absolute ++ (climbs up ++ (l ++ rest))) (sym names_are)
    ∙ regroup (root absolute) (climbs up) names rest
  where
    regroup : (a b c d : List ℕ) → a ++ (b ++ (c ++ d)) ≡ ((a ++ b) ++ c) ++ d
    regroup a b c d = simp append_assoc

-- names go with what is behind them
pub names-apart : (b : Parts) (j : ℕ) (names rest : List ℕ) → names ≡ slashed (take j (names_below b)) → begins (codes "../") rest ≡ false → begins (codes "../") (names ++ rest) ≡ false
names-apart b j names rest are f =
    ap (λ (l : List ℕ). begins (codes "../") (l ++ rest)) are
    ∙ slashed-begin (take j (names_below b)) rest (All-take IsName j (names_below b) (names-below b)) f
