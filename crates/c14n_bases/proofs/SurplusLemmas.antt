-- The segments that are kept, from the front and from the end of a path.
use Rattle.std.proofs.Common.{◌≡◌, ℕ, zero, suc, ◌+◌, ◌-◌, ◌==◌, ◌&&◌, Bool, true, false, not, cond, List, [], ◌∷◌, ◌++◌, length, reverse, drop, replicate, refl, ap, sym, ◌∙◌, arith, append_assoc, append-nil}
use Rattle.std.specs.Prelude.{codes}
use Rattle.std.proofs.lemmas.List.{reverse-append, reverse-reverse, replicate_more}
use Rattle.std.proofs.lemmas.Bool.{ne_eqb}
use Rattle.std.proofs.Math.Seq.{drop-nil}
use Rattle.c14n_bases.specs.Join.{is_same, is_up, upwards, add, added}
use Rattle.c14n_bases.specs.Code.Surplus.{surplus, is_name_kept, names_kept}
use Rattle.c14n_bases.specs.Code.Kept.{Names, ups}

upwards_relative : (u : ℕ) → upwards false (replicate u (codes "..")) ≡ replicate (suc u) (codes "..")
upwards_relative zero = refl
upwards_relative (suc u) = refl

upwards_ups : (absolute : Bool) (u : ℕ) → upwards absolute (ups absolute u) ≡ ups absolute (suc u)
upwards_ups true u = refl
upwards_ups false u = upwards_relative u

-- what is added to some names behind some `..`
pub added-from : (absolute : Bool) (segs names : List (List ℕ)) (u : ℕ) → Names names
    → added absolute (names ++ ups absolute u) segs ≡ reverse (names_kept 0 segs) ++ drop (surplus 0 segs) names ++ ups absolute (u + (surplus 0 segs - length names))
added-from absolute [] names u n = let e : u + (0 - length names) ≡ u = omega arith in ap (λ (k : ℕ). names ++ ups absolute k) (sym e)
added-from absolute (s ∷ more) names u n = go (is_same s) (is_up s) refl (surplus 0 more) (names_kept 0 more) (λ names' u' n'. added-from absolute more names' u' n') names n u
  where
    go : (a b : Bool) → is_up s ≡ b → (sp : ℕ) (nk : List (List ℕ))
        → ((names' : List (List ℕ)) (u' : ℕ) → Names names' → added absolute (names' ++ ups absolute u') more ≡ reverse nk ++ drop sp names' ++ ups absolute (u' + (sp - length names')))
        → (names : List (List ℕ)) → Names names → (u : ℕ)
        → added absolute (cond a (names ++ ups absolute u) (cond b (upwards absolute (names ++ ups absolute u)) (s ∷ names ++ ups absolute u))) more
        ≡ reverse (cond (not a && (not b && (sp == 0))) (s ∷ nk) nk) ++ drop (cond a sp (cond b (suc sp) (sp - 1))) names ++ ups absolute (u + (cond a sp (cond b (suc sp) (sp - 1)) - length names))
    go true b is sp nk ih names n u = ih names u n
    go false true is sp nk ih [] n u =
        let e : suc u + (sp - 0) ≡ u + (suc sp - 0) = omega arith in
        ap (λ (k : List (List ℕ)). added absolute k more) (upwards_ups absolute u) ∙ ih [] (suc u) n
        ∙ ap (λ (d : List (List ℕ)). reverse nk ++ d ++ ups absolute (suc u + (sp - 0))) (drop-nil sp)
        ∙ ap (λ (k : ℕ). reverse nk ++ [] ++ ups absolute k) e
    go false true is sp nk ih (k ∷ names) n u =
        let e : u + (suc sp - suc (length names)) ≡ u + (sp - length names) = omega arith in
        rw (n.0, e) (ih names u n.1)
    go false false is zero nk ih names n u =
        let e : 0 - suc (length names) ≡ 0 - length names = omega arith in
        ih (s ∷ names) u (is, n)
        ∙ ap (λ (k : ℕ). reverse nk ++ (s ∷ names) ++ ups absolute (u + k)) e
        ∙ ap (λ (l : List (List ℕ)). l ++ ups absolute (u + (0 - length names))) (sym (append_assoc (reverse nk) (s ∷ []) names))
        ∙ ap (λ (l : List (List ℕ)). l ++ names ++ ups absolute (u + (0 - length names))) (sym (reverse-append (s ∷ []) nk))
    go false false is (suc sp) nk ih names n u =
        let e : suc sp - 1 ≡ sp = omega arith in
        let d : suc sp - suc (length names) ≡ sp - length names = omega arith in
        let z : (suc sp == 0) ≡ false = ne_eqb (suc sp) 0 (λ h. omega (arith, h)) in
        rw (z, e) (rw d at (ih (s ∷ names) u (is, n)))

reverse-replicate : (n : ℕ) (s : List ℕ) → reverse (replicate n s) ≡ replicate n s
reverse-replicate zero s = refl
reverse-replicate (suc n) s =
    let e : n + 1 ≡ suc n = omega arith in
    reverse-append (s ∷ []) (replicate n s) ∙ ap (λ (l : List (List ℕ)). l ++ s ∷ []) (reverse-replicate n s) ∙ replicate_more n s ∙ ap (λ (k : ℕ). replicate k s) e

reverse-ups : (absolute : Bool) (n : ℕ) → reverse (ups absolute n) ≡ ups absolute n
reverse-ups true n = refl
reverse-ups false n = reverse-replicate n (codes "..")

none_at_first : (absolute : Bool) → ups absolute 0 ≡ []
none_at_first true = refl
none_at_first false = refl

-- the segments of a cleaned path: some `..`, and then names
pub kept-is : (absolute : Bool) (segs : List (List ℕ)) → reverse (added absolute [] segs) ≡ ups absolute (surplus 0 segs) ++ names_kept 0 segs
kept-is absolute segs =
    let sp = surplus 0 segs in let nk = names_kept 0 segs in
    let e : 0 + (sp - 0) ≡ sp = omega arith in
    ap reverse (ap (λ (k : List (List ℕ)). added absolute k segs) (sym (none_at_first absolute)) ∙ added-from absolute segs [] 0 tt
    ∙ ap (λ (d : List (List ℕ)). reverse nk ++ d ++ ups absolute (0 + (sp - 0))) (drop-nil sp) ∙ ap (λ (k : ℕ). reverse nk ++ [] ++ ups absolute k) e)
    ∙ ap (λ (l : List (List ℕ)). reverse (l ++ ups absolute sp)) (append-nil (reverse nk))
    ∙ reverse-append (reverse nk) (ups absolute sp)
    ∙ ap (λ (l : List (List ℕ)). l ++ reverse (reverse nk)) (reverse-ups absolute sp)
    ∙ ap (λ (l : List (List ℕ)). ups absolute sp ++ l) (reverse-reverse nk)

-- of two lists of segments, one after the other
pub surplus-append : (behind : ℕ) (xs ys : List (List ℕ)) → surplus behind (xs ++ ys) ≡ surplus (surplus behind ys) xs
surplus-append behind [] ys = refl
surplus-append behind (s ∷ xs) ys = ap (λ (sp : ℕ). cond (is_same s) sp (cond (is_up s) (suc sp) (sp - 1))) (surplus-append behind xs ys)

pub names_kept-append : (behind : ℕ) (xs ys : List (List ℕ)) → names_kept behind (xs ++ ys) ≡ names_kept (surplus behind ys) xs ++ names_kept behind ys
names_kept-append behind [] ys = refl
names_kept-append behind (s ∷ xs) ys =
    ap (λ (sp : ℕ). cond (not (is_same s) && (not (is_up s) && (sp == 0))) (s ∷ names_kept behind (xs ++ ys)) (names_kept behind (xs ++ ys))) (surplus-append behind xs ys)
    ∙ ap (λ (nk : List (List ℕ)). cond (is_name_kept (surplus behind ys) s xs) (s ∷ nk) nk) (names_kept-append behind xs ys)
    ∙ go (is_name_kept (surplus behind ys) s xs)
  where
    go : (b : Bool) → cond b (s ∷ (names_kept (surplus behind ys) xs ++ names_kept behind ys)) (names_kept (surplus behind ys) xs ++ names_kept behind ys)
        ≡ cond b (s ∷ names_kept (surplus behind ys) xs) (names_kept (surplus behind ys) xs) ++ names_kept behind ys
    go true = refl
    go false = refl

-- added to what was kept
pub added-append : (absolute : Bool) (kept xs ys : List (List ℕ)) → added absolute kept (xs ++ ys) ≡ added absolute (added absolute kept xs) ys
added-append absolute kept [] ys = refl
added-append absolute kept (s ∷ xs) ys = added-append absolute (add absolute kept s) xs ys
