-- The names of a path.
use Rattle.std.proofs.Common.{◌≡◌, ℕ, zero, suc, ◌-◌, ◌||◌, ◌&&◌, ◌==◌, Bool, true, false, not, cond, List, [], ◌∷◌, ◌++◌, replicate, refl, ap, sym, ◌∙◌, append_assoc, inl, inr, ◌⊎◌}
use Rattle.std.specs.Prelude.{codes}
use Rattle.std.specs.List.{All, list_any, onto_first}
use Rattle.std.proofs.lemmas.Bool.{false≢true, or_parts}
use Rattle.std.proofs.lemmas.List.Elements.{All-nil, All-cons, All-head, All-tail}
use Rattle.c14n_bases.specs.Join.{is_slash, is_same, is_up, is_open, last_segment, directory, segments}
use Rattle.c14n_bases.specs.Code.Surplus.{surplus, names_kept}
use Rattle.c14n_bases.specs.Code.Going.{IsName}
use Rattle.c14n_bases.proofs.SegmentLemmas.{directory-last, directory-form, segments-append, some_segment}
use Rattle.c14n_bases.proofs.SurplusLemmas.{surplus-append, names_kept-append}

abbrev pub IsPlain : List ℕ → Type 0
IsPlain s = list_any is_slash s ≡ false

-- ---- segments
pub plain_one : (s : List ℕ) → IsPlain s → segments s ≡ s ∷ []
plain_one [] f = refl
plain_one (c ∷ cs) f =
    let p = or_parts (is_slash c) (list_any is_slash cs) f in
    ap (λ (b : Bool). cond b ([] ∷ segments cs) (onto_first c (segments cs))) p.0 ∙ ap (onto_first c) (plain_one cs p.1)

segments-plain : (path : List ℕ) → All IsPlain (segments path)
segments-plain [] = All-cons IsPlain [] [] refl (All-nil IsPlain)
segments-plain (c ∷ cs) = go (is_slash c) refl (segments cs) (some_segment cs) (segments-plain cs)
  where
    go : (b : Bool) → is_slash c ≡ b → (segs : List (List ℕ)) → (segs ≡ [] → ⊥) → All IsPlain segs → All IsPlain (cond b ([] ∷ segs) (onto_first c segs))
    go true e segs some all = All-cons IsPlain [] segs refl all
    go false e [] some all = absurd (some refl)
    go false e (p ∷ ps) some all =
        All-cons IsPlain (c ∷ p) ps (ap (λ (b : Bool). b || list_any is_slash p) e ∙ All-head IsPlain p ps all) (All-tail IsPlain p ps all)

last-plain : (path : List ℕ) → IsPlain (last_segment path)
last-plain [] = refl
last-plain (c ∷ cs) = go (list_any is_slash (c ∷ cs)) refl (last-plain cs)
  where
    go : (b : Bool) → list_any is_slash (c ∷ cs) ≡ b → IsPlain (last_segment cs) → IsPlain (cond b (last_segment cs) (c ∷ cs))
    go true e ih = ih
    go false e ih = e

segments-last : (path : List ℕ) → (before : List (List ℕ)) × (segments path ≡ before ++ last_segment path ∷ [])
segments-last path = go (directory-form path)
  where
    go : (directory path ≡ []) ⊎ ((front : List ℕ) × (directory path ≡ front ++ 47 ∷ [])) → (before : List (List ℕ)) × (segments path ≡ before ++ last_segment path ∷ [])
    go (inl none) =
        let e : path ≡ last_segment path = sym (directory-last path) ∙ ap (λ (d : List ℕ). d ++ last_segment path) none in
        ([], ap segments e ∙ plain_one (last_segment path) (last-plain path))
    go (inr (front, some)) = (
      segments front,
      ap segments (sym (directory-last path) ∙ ap (λ (d : List ℕ). d ++ last_segment path) some ∙ append_assoc front (47 ∷ []) (last_segment path))
          ∙ segments-append front (last_segment path) ∙ ap (λ (l : List (List ℕ)). segments front ++ l) (plain_one (last_segment path) (last-plain path)),
    )

-- ---- the names that are kept
some_octets : (s : List ℕ) → is_same s ≡ false → s ≡ [] → ⊥
some_octets s f e = false≢true (sym f ∙ ap is_same e)

name_of : (s : List ℕ) → is_same s ≡ false → is_up s ≡ false → IsPlain s → IsName s
name_of s f g p = record { segment = record { some = some_octets s f; plain = p }; no_same = f; no_up = g }

names-are : (segs : List (List ℕ)) → All IsPlain segs → All IsName (names_kept 0 segs)
names-are [] all = All-nil IsName
names-are (s ∷ more) all = go (is_same s) (is_up s) (surplus 0 more == 0) refl refl (names-are more (All-tail IsPlain s more all))
  where
    go : (a b c : Bool) → is_same s ≡ a → is_up s ≡ b → All IsName (names_kept 0 more) → All IsName (cond (not a && (not b && c)) (s ∷ names_kept 0 more) (names_kept 0 more))
    go true b c f g ih = ih
    go false true c f g ih = ih
    go false false false f g ih = ih
    go false false true f g ih = All-cons IsName s (names_kept 0 more) (name_of s f g (All-head IsPlain s more all)) ih

pub path_names : (path : List ℕ) → All IsName (names_kept 0 (segments path))
path_names path = names-are (segments path) (segments-plain path)

surplus-names : (names : List (List ℕ)) → All IsName names → surplus 0 names ≡ 0
surplus-names [] all = refl
surplus-names (s ∷ more) all =
    let n = All-head IsName s more all in
    ap (λ (k : ℕ). cond (is_same s) k (cond (is_up s) (suc k) (k - 1))) (surplus-names more (All-tail IsName s more all))
    ∙ ap (λ (b : Bool). cond b 0 (cond (is_up s) 1 (0 - 1))) n.no_same ∙ ap (λ (b : Bool). cond b 1 (0 - 1)) n.no_up

kept-names : (names : List (List ℕ)) → All IsName names → names_kept 0 names ≡ names
kept-names [] all = refl
kept-names (s ∷ more) all =
    let n = All-head IsName s more all in
    let rest = All-tail IsName s more all in
    ap (λ (nk : List (List ℕ)). cond (not (is_same s) && (not (is_up s) && (surplus 0 more == 0))) (s ∷ nk) nk) (kept-names more rest)
    ∙ ap (λ (b : Bool). cond (not b && (not (is_up s) && (surplus 0 more == 0))) (s ∷ more) more) n.no_same
    ∙ ap (λ (b : Bool). cond (not b && (surplus 0 more == 0)) (s ∷ more) more) n.no_up
    ∙ ap (λ (k : ℕ). cond (k == 0) (s ∷ more) more) (surplus-names more rest)

surplus-ups : (n : ℕ) → surplus 0 (replicate n (codes "..")) ≡ n
surplus-ups zero = refl
surplus-ups (suc n) = ap suc (surplus-ups n)

kept-ups : (n : ℕ) → names_kept 0 (replicate n (codes "..")) ≡ []
kept-ups zero = refl
kept-ups (suc n) = kept-ups n

pub surplus-run : (n : ℕ) (names : List (List ℕ)) → All IsName names → surplus 0 (replicate n (codes "..") ++ names) ≡ n
surplus-run n names all = surplus-append 0 (replicate n (codes "..")) names ∙ ap (λ (k : ℕ). surplus k (replicate n (codes ".."))) (surplus-names names all) ∙ surplus-ups n

pub kept-run : (n : ℕ) (names : List (List ℕ)) → All IsName names → names_kept 0 (replicate n (codes "..") ++ names) ≡ names
kept-run n names all =
    names_kept-append 0 (replicate n (codes "..")) names
    ∙ ap (λ (k : ℕ). names_kept k (replicate n (codes "..")) ++ names_kept 0 names) (surplus-names names all)
    ∙ ap (λ (l : List (List ℕ)). l ++ names_kept 0 names) (kept-ups n) ∙ kept-names names all

-- a path whose last segment is a name has a name
pub closed_is : (path : List ℕ) → names_kept 0 (segments path) ≡ [] → is_open path ≡ true
closed_is path none = go (is_same (last_segment path)) (is_up (last_segment path)) refl refl
  where
    last : List ℕ
    last = last_segment path

    go : (a b : Bool) → is_same (last_segment path) ≡ a → is_up (last_segment path) ≡ b → (a || b) ≡ true
    go true b e f = refl
    go false true e f = refl
    go false false e f =
        let s = last_segment path in
        let parts = segments-last path in
        let one : names_kept 0 (s ∷ []) ≡ s ∷ [] =
        ap (λ (b : Bool). cond (not b && (not (is_up s) && true)) (s ∷ []) []) e ∙ ap (λ (b : Bool). cond (not b && true) (s ∷ []) []) f in
        let all : names_kept (surplus 0 (s ∷ [])) parts.0 ++ s ∷ [] ≡ [] =
        ap (λ (l : List (List ℕ)). names_kept (surplus 0 (s ∷ [])) parts.0 ++ l) (sym one) ∙ sym (names_kept-append 0 parts.0 (s ∷ [])) ∙ ap (names_kept 0) (sym parts.1) ∙ none in
        absurd (some (names_kept (surplus 0 (s ∷ [])) parts.0) s all)
      where
        some : (xs : List (List ℕ)) (s : List ℕ) → xs ++ s ∷ [] ≡ [] → ⊥
        some [] s e = cc
        some (x ∷ xs) s e = cc
