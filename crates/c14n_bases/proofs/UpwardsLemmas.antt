-- Values that begin with `../`, which are counted.
use Rattle.std.proofs.Common.{◌≡◌, ℕ, zero, suc, ◌+◌, ◌*◌, ◌≤◌, ◌<◌, Bool, true, false, not, cond, List, [], ◌∷◌, ◌++◌, length, take, drop, refl, ap, sym, ◌∙◌, subst, arith, append_assoc, append-nil, length-append}
use Rattle.std.specs.Prelude.{codes, Option, Some, None}
use Rattle.std.specs.List.{position_or_len}
use Rattle.std.proofs.lemmas.Bool.{false≢true}
use Rattle.std.proofs.Math.Seq.{drop-append_seam}
use Rattle.c14n_bases.specs.Join.{begins, clean, cleaned_value, cut, has_scheme, is_absolute, is_empty, is_one_of, join, put_together, query_octets}
use Rattle.c14n_bases.specs.declared.kind.Kind.{Kind}
use Rattle.c14n_bases.specs.declared.kind.Kind.TheVariants.{Absolute, Empty, Relative}
use Rattle.c14n_bases.specs.Code.Clean.{Fits, IsClean, kind_of}
use Rattle.c14n_bases.specs.Code.Climbs.{Climbs, climbs}
use Rattle.c14n_bases.specs.Code.Placed.{CleansTo}
use Rattle.c14n_bases.proofs.FormedLemmas.{joined-clean}
use Rattle.c14n_bases.proofs.FrontLemmas.{parts}
use Rattle.c14n_bases.proofs.ClimbLemmas.{length-climbs}
use Rattle.c14n_bases.proofs.RunLemmas.{begins_is}

pub climbs-append : (n m : ℕ) (text : List ℕ) → climbs (n + m) ++ text ≡ climbs n ++ (climbs m ++ text)
climbs-append zero m text = let e : 0 + m ≡ m = omega arith in ap (λ (k : ℕ). climbs k ++ text) e
climbs-append (suc n) m text =
    let e : suc n + m ≡ suc (n + m) = omega arith in
    ap (λ (k : ℕ). climbs k ++ text) e ∙ ap (λ (l : List ℕ). codes "../" ++ l) (climbs-append n m text)

pub climbs-behind : (n : ℕ) (text : List ℕ) → drop (3 * n) (climbs n ++ text) ≡ text
climbs-behind n text = ap (λ (k : ℕ). drop k (climbs n ++ text)) (sym (length-climbs n)) ∙ drop-append_seam (climbs n) text

-- ---- a text that begins with `../`
begins-front : (front text : List ℕ) → begins (codes "../") (front ++ text) ≡ false → begins (codes "../") front ≡ false
begins-front front text f = go (begins (codes "../") front) refl
  where
    go : (b : Bool) → begins (codes "../") front ≡ b → begins (codes "../") front ≡ false
    go false e = e
    go true e = absurd (false≢true (sym f ∙ ap (λ (l : List ℕ). begins (codes "../") (l ++ text)) (begins_is front e)))

-- ---- its path
query-first : (q : Option (List ℕ)) (c : ℕ) (cs : List ℕ) → query_octets q ≡ c ∷ cs → 63 ≡ c
query-first None c cs e = cc
query-first (Some q) c cs e = cc

-- no `..` of it is in the query
climbs-split : (n : ℕ) (tail path : List ℕ) (q : Option (List ℕ)) → climbs n ++ tail ≡ path ++ query_octets q
    → (rest : List ℕ) × (path ≡ climbs n ++ rest) × (tail ≡ rest ++ query_octets q)
climbs-split zero tail path q e = (path, refl, e)
climbs-split (suc n) tail [] q e = let f = query-first q 46 (46 ∷ 47 ∷ climbs n ++ tail) (sym e) in absurd (omega (arith, f))
climbs-split (suc n) tail (a ∷ []) q e =
    let g : query_octets q ≡ 46 ∷ 47 ∷ climbs n ++ tail = cc in let f = query-first q 46 (47 ∷ climbs n ++ tail) g in absurd (omega (arith, f))
climbs-split (suc n) tail (a ∷ b ∷ []) q e =
    let g : query_octets q ≡ 47 ∷ climbs n ++ tail = cc in let f = query-first q 47 (climbs n ++ tail) g in absurd (omega (arith, f))
climbs-split (suc n) tail (a ∷ b ∷ c ∷ path) q e =
    let g : climbs n ++ tail ≡ path ++ query_octets q = cc in
    let ih = climbs-split n tail path q g in
    let i : a ≡ 46 = cc in let j : b ≡ 46 = cc in let k : c ≡ 47 = cc in
    let l = ih.1 in
    (ih.0, cc, ih.2)

pub climbs-path : (n : ℕ) (tail path : List ℕ) (q : Option (List ℕ)) → climbs n ++ tail ≡ clean path ++ query_octets q → begins (codes "../") tail ≡ false
    → is_empty path ≡ false → is_absolute path ≡ false → (rest : List ℕ) × (Climbs path n rest) × (tail ≡ rest ++ query_octets q)
climbs-path n tail path q e all some relative =
    let s = climbs-split n tail (clean path) q e in
    (s.0, record { some = some; relative = relative; cleaned = s.1; all = begins-front s.0 (query_octets q) (sym (ap (begins (codes "../")) s.2) ∙ all) }, s.2)

-- the same octets of the path alone
climbs-alone : (n : ℕ) (path : List ℕ) (q : Option (List ℕ)) → path ++ query_octets q ≡ climbs n ++ drop (3 * n) (path ++ query_octets q) → path ≡ climbs n ++ drop (3 * n) path
climbs-alone n path q e =
    let s = climbs-split n (drop (3 * n) (path ++ query_octets q)) path q (sym e) in
    s.1 ∙ ap (λ (l : List ℕ). climbs n ++ l) (sym (ap (drop (3 * n)) s.1 ∙ climbs-behind n s.0))

pub climbs-whole : (n : ℕ) (s a : Option (List ℕ)) (p : List ℕ) (q : Option (List ℕ)) → Relative ≡ kind_of (parts s a p q)
    → cleaned_value (parts s a p q) ≡ climbs n ++ drop (3 * n) (cleaned_value (parts s a p q)) → (has_query : Bool)
    → put_together s a (clean p) (cond has_query None q) ≡ climbs n ++ drop (3 * n) (put_together s a (clean p) (cond has_query None q))
climbs-whole n (Some s) a p q k e has_query = cc
climbs-whole n None (Some a) p q k e has_query = cc
climbs-whole n None None p q k e false = e
climbs-whole n None None p q k e true = append-nil (clean p) ∙ climbs-alone n (clean p) q e ∙ ap (λ (l : List ℕ). climbs n ++ drop (3 * n) l) (sym (append-nil (clean p)))

pub climbs-within : (n : ℕ) (text : List ℕ) → text ≡ climbs n ++ drop (3 * n) text → 3 * n ≤ length text
climbs-within n text e = omega (arith, ap (length {A = ℕ}) e, length-append (climbs n) (drop (3 * n) text), length-climbs n)

-- ---- what it begins with
pub climbs-scheme : (n : ℕ) (text : List ℕ) → has_scheme (climbs (suc n) ++ text) ≡ false
climbs-scheme n text = refl

pub climbs-kind : (n : ℕ) (text : List ℕ) → kind_of (cut (climbs (suc n) ++ text)) ≡ Relative
climbs-kind n text = ap (λ (k : ℕ). cond (is_absolute (take k (climbs (suc n) ++ text))) Absolute (cond (is_empty (take k (climbs (suc n) ++ text))) Empty Relative)) e
  where
    e : 1 + (1 + (1 + position_or_len (is_one_of (codes "?#")) (climbs n ++ text))) ≡ suc (2 + position_or_len (is_one_of (codes "?#")) (climbs n ++ text))
    e = omega arith

-- ---- joined values
pub climbs-none : (n : ℕ) (text : List ℕ) → n ≤ 0 → climbs n ++ text ≡ text
climbs-none zero text none = refl
climbs-none (suc n) text none = absurd (omega arith)

pub climbs-fits : (n : ℕ) (text base own : List ℕ) → 0 < n → climbs n ++ text ≡ join base own → Fits (Some Relative) (climbs n ++ text)
climbs-fits zero text base own some is = absurd (omega arith)
climbs-fits (suc n) text base own some is = (
  subst IsClean (sym is) (joined-clean base own (λ f. ap has_scheme (sym is) ∙ climbs-scheme n text)),
  sym (climbs-kind n text),
)

pub climbs-first : (n : ℕ) (text : List ℕ) → climbs (n + 1) ++ text ≡ codes "../" ++ (climbs n ++ text)
climbs-first n text = let e : n + 1 ≡ suc n = omega arith in ap (λ (k : ℕ). climbs k ++ text) e

pub cleans-plain : (text : List ℕ) (kind : Kind) (n : ℕ) (tail : List ℕ) → CleansTo text kind n tail → (kind ≡ Relative → ⊥) → cleaned_value (cut text) ≡ tail
cleans-plain text kind n tail c not = sym c.is ∙ ap (λ (k : ℕ). climbs k ++ tail) (c.only not)

pub cleans-same : (text : List ℕ) (kind : Kind) (n m : ℕ) (tail later : List ℕ) → CleansTo text kind n tail → climbs m ++ later ≡ climbs n ++ tail
    → ((kind ≡ Relative → ⊥) → m ≡ n) → CleansTo text kind m later
cleans-same text kind n m tail later c e same = record { is = e ∙ c.is; by_parts = c.by_parts; only = λ not. same not ∙ c.only not }

pub cleans-known : (kind : Kind) (n : ℕ) (tail : List ℕ) → Fits (Some kind) (climbs n ++ tail) → CleansTo (climbs n ++ tail) kind n tail
cleans-known kind n tail fits = record { is = sym fits.0; by_parts = fits.1; only = only n fits.1 }
  where
    only : (n : ℕ) → kind ≡ kind_of (cut (climbs n ++ tail)) → (kind ≡ Relative → ⊥) → n ≡ 0
    only zero k not = refl
    only (suc n) k not = absurd (not (k ∙ climbs-kind n tail))

-- ---- fronts
pub front-length : (roots slash names : List ℕ) (n : ℕ) → length (roots ++ slash ++ climbs n ++ names) ≡ length roots + length slash + 3 * n + length names
front-length roots slash names n =
    omega (arith, length-append (roots ++ slash ++ climbs n) names, length-append (roots ++ slash) (climbs n), length-append roots slash, length-climbs n)

pub front-pieces : (roots slash names text : List ℕ) (n : ℕ) → roots ++ (slash ++ (climbs n ++ (names ++ text))) ≡ (roots ++ slash ++ climbs n ++ names) ++ text
front-pieces roots slash names text n = go roots slash (climbs n) names text
  where
    go : (a b c d e : List ℕ) → a ++ (b ++ (c ++ (d ++ e))) ≡ (((a ++ b) ++ c) ++ d) ++ e
    go a b c d e = sym (simp append_assoc)
