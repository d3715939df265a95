-- The parts of a joined value, and that it is clean.
use Rattle.std.proofs.Common.{◌≡◌, ℕ, suc, ◌+◌, ◌||◌, ◌&&◌, ◌==◌, Bool, true, false, not, cond, List, [], ◌∷◌, ◌++◌, take, drop, refl, ap, sym, ◌∙◌, subst, arith}
use Rattle.std.specs.Prelude.{codes, Option, Some, None, is_some}
use Rattle.std.specs.List.{All, list_any, flat_map, onto_first, position_or_len}
use Rattle.std.proofs.lemmas.Bool.{or_parts, and_parts, false≢true}
use Rattle.std.proofs.lemmas.List.Folds.{list_any-append}
use Rattle.std.proofs.lemmas.List.Elements.{All-nil, All-cons, All-head, All-tail, All-append, All-replicate}
use Rattle.c14n_bases.specs.Join.{Parts, is_one_of, before, from_first, begins, is_empty, has_scheme, scheme_of, behind_scheme, authority_of, behind_authority, query_of, cut, is_slash, is_dots, is_open, is_absolute, last_segment, directory, segments, after_slash, between_slashes, path_of, clean, base_path, joined_path, first_some, joined_query, below, put_together, cleaned_value, join}
use Rattle.c14n_bases.specs.Code.Surplus.{surplus, is_name_kept, names_kept}
use Rattle.c14n_bases.specs.Code.Kept.{ups}
use Rattle.c14n_bases.specs.Code.Clean.{IsClean}
use Rattle.c14n_bases.proofs.SegmentLemmas.{some_segment, directory-last}
use Rattle.c14n_bases.proofs.FrontLemmas.{parts}
use Rattle.c14n_bases.proofs.CutLemmas.{Without, Stopped, SchemeFits, AuthorityFits, QueryFits, WellFormed, cut-together}
use Rattle.c14n_bases.proofs.CleanLemmas.{clean-is, clean-clean, clean-absolute, clean-single}

-- ---- texts without some octets
none_both : (a b : Bool) → a ≡ false → b ≡ false → (a || b) ≡ false
none_both a b e f = ap (λ (x : Bool). x || b) e ∙ f

without-append : (stops xs ys : List ℕ) → Without stops xs → Without stops ys → Without stops (xs ++ ys)
without-append stops xs ys f g = list_any-append (is_one_of stops) xs ys ∙ none_both (list_any (is_one_of stops) xs) (list_any (is_one_of stops) ys) f g

before-without : (stops text : List ℕ) → Without stops (before stops text)
before-without stops [] = refl
before-without stops (c ∷ cs) = go (is_one_of stops c) refl (before-without stops cs)
  where
    go : (b : Bool) → is_one_of stops c ≡ b → Without stops (before stops cs) → Without stops (take (cond (not b) (1 + position_or_len (is_one_of stops) cs) 0) (c ∷ cs))
    go true e ih = refl
    go false e ih =
        let n : 1 + position_or_len (is_one_of stops) cs ≡ suc (position_or_len (is_one_of stops) cs) = omega arith in
        ap (λ (k : ℕ). list_any (is_one_of stops) (take k (c ∷ cs))) n ∙ none_both (is_one_of stops c) (list_any (is_one_of stops) (before stops cs)) e ih

-- ---- the parts of any text
scheme-fits : (text : List ℕ) → SchemeFits (scheme_of text)
scheme-fits text = go (has_scheme text) refl
  where
    empty_no : (b : Bool) → not b ≡ true → b ≡ false
    empty_no true t = cc
    empty_no false t = refl

    go : (b : Bool) → has_scheme text ≡ b → SchemeFits (cond b (Some (before (codes ":/?#") text)) None)
    go false e = tt
    go true e = (
      empty_no (is_empty (before (codes ":/?#") text)) (and_parts (not (is_empty (before (codes ":/?#") text))) (begins (codes ":") (from_first (codes ":/?#") text)) e).0,
      before-without (codes ":/?#") text,
    )

abbrev IsRooted : List ℕ → Type 0
IsRooted path = (is_empty path || is_absolute path) ≡ true

true_last : (b : Bool) → (b || true) ≡ true
true_last true = refl
true_last false = refl

from-stopped : (stops text : List ℕ) → Stopped stops (from_first stops text)
from-stopped stops [] = tt
from-stopped stops (c ∷ cs) = go (is_one_of stops c) refl (from-stopped stops cs)
  where
    go : (b : Bool) → is_one_of stops c ≡ b → Stopped stops (from_first stops cs) → Stopped stops (drop (cond (not b) (1 + position_or_len (is_one_of stops) cs) 0) (c ∷ cs))
    go true e ih = e
    go false e ih =
        let n : suc (position_or_len (is_one_of stops) cs) ≡ 1 + position_or_len (is_one_of stops) cs = omega arith in
        subst (λ (k : ℕ). Stopped stops (drop k (c ∷ cs))) n ih

stopped-rooted : (text : List ℕ) → Stopped (codes "/?#") text → IsRooted (before (codes "?#") text)
stopped-rooted [] s = refl
stopped-rooted (c ∷ cs) s = go (is_one_of (codes "?#") c) refl
  where
    slash : (x y : Bool) → (x || y) ≡ true → y ≡ false → (x && true) ≡ true
    slash true y t f = refl
    slash false y t f = absurd (false≢true (sym f ∙ t))

    go : (b : Bool) → is_one_of (codes "?#") c ≡ b → IsRooted (take (cond (not b) (1 + position_or_len (is_one_of (codes "?#")) cs) 0) (c ∷ cs))
    go true e = refl
    go false e =
        let n : suc (position_or_len (is_one_of (codes "?#")) cs) ≡ 1 + position_or_len (is_one_of (codes "?#")) cs = omega arith in
        let r : IsRooted (take (suc (position_or_len (is_one_of (codes "?#")) cs)) (c ∷ cs)) = slash (47 == c) (is_one_of (codes "?#") c) s e in
        subst (λ (k : ℕ). IsRooted (take k (c ∷ cs))) n r

authority-fits : (text : List ℕ) → AuthorityFits (authority_of text) (before (codes "?#") (behind_authority text))
authority-fits text = go (begins (codes "//") text)
  where
    go : (b : Bool) → AuthorityFits (cond b (Some (before (codes "/?#") (drop 2 text))) None) (before (codes "?#") (cond b (from_first (codes "/?#") (drop 2 text)) text))
    go false = tt
    go true = (before-without (codes "/?#") (drop 2 text), stopped-rooted (from_first (codes "/?#") (drop 2 text)) (from-stopped (codes "/?#") (drop 2 text)))

query-fits : (text : List ℕ) → QueryFits (query_of text)
query-fits text = go (begins (codes "?") text)
  where
    go : (b : Bool) → QueryFits (cond b (Some (before (codes "#") (drop 1 text))) None)
    go false = tt
    go true = before-without (codes "#") (drop 1 text)

cut-formed : (text : List ℕ) → WellFormed (cut text)
cut-formed text =
    let hier = behind_authority (behind_scheme text) in
    record {
      scheme = scheme-fits text;
      authority = authority-fits (behind_scheme text);
      path = before-without (codes "?#") hier;
      query = query-fits (from_first (codes "?#") hier);
    }

-- ---- parts below others
abbrev IsPath : List ℕ → Type 0
IsPath path = Without (codes "?#") path

base_path-without : (p : List ℕ) → IsPath p → IsPath (base_path p)
base_path-without p w = go (is_dots (last_segment p))
  where
    go : (b : Bool) → IsPath (cond b (p ++ codes "/") p)
    go true = without-append (codes "?#") p (codes "/") w refl
    go false = w

directory-without : (p : List ℕ) → IsPath p → IsPath (directory p)
directory-without p w =
    (or_parts (list_any (is_one_of (codes "?#")) (directory p)) (list_any (is_one_of (codes "?#")) (last_segment p))
    (sym (list_any-append (is_one_of (codes "?#")) (directory p) (last_segment p)) ∙ ap (list_any (is_one_of (codes "?#"))) (directory-last p) ∙ w)).0

joined-without : (b o : Parts) → IsPath b.path → IsPath o.path → IsPath (joined_path b o)
joined-without b o wb wo = go (is_empty o.path) (is_absolute o.path) (is_some b.authority && is_empty b.path)
  where
    go : (e f g : Bool) → IsPath (cond e (base_path b.path) (cond f o.path (cond g (codes "/" ++ o.path) (directory (base_path b.path) ++ o.path))))
    go true f g = base_path-without b.path wb
    go false true g = wo
    go false false true = wo
    go false false false = without-append (codes "?#") (directory (base_path b.path)) o.path (directory-without (base_path b.path) (base_path-without b.path wb)) wo

first-root : (x : Bool) → (x && true) ≡ true → x ≡ true
first-root true t = refl
first-root false t = cc

base_path-rooted : (p : List ℕ) → IsRooted p → IsRooted (base_path p)
base_path-rooted [] r = refl
base_path-rooted (c ∷ cs) r = go (is_dots (last_segment (c ∷ cs)))
  where
    go : (b : Bool) → IsRooted (cond b ((c ∷ cs) ++ codes "/") (c ∷ cs))
    go true = r
    go false = r

directory-rooted : (c : ℕ) (cs behind : List ℕ) → (47 == c) ≡ true → IsRooted (directory (c ∷ cs) ++ behind)
directory-rooted c cs behind e =
    let d : directory (c ∷ cs) ≡ c ∷ directory cs = ap (λ (b : Bool). cond ((b || false) || list_any is_slash cs) (c ∷ directory cs) []) e in
    ap (λ (l : List ℕ). is_empty (l ++ behind) || is_absolute (l ++ behind)) d ∙ ap (λ (b : Bool). b && true) e

joined-authority : (s a : Option (List ℕ)) (p : List ℕ) (q : Option (List ℕ)) (o : Parts) → AuthorityFits a p → AuthorityFits a (joined_path (parts s a p q) o)
joined-authority s None p q o f = tt
joined-authority s (Some a) p q o f = (f.0, go (is_empty o.path) (is_absolute o.path) refl)
  where
    relative : (p : List ℕ) → IsRooted p → IsRooted (cond (is_empty p) (codes "/" ++ o.path) (directory (base_path p) ++ o.path))
    relative [] r = refl
    relative (c ∷ cs) r = one (is_dots (last_segment (c ∷ cs)))
      where
        one : (b : Bool) → IsRooted (directory (cond b ((c ∷ cs) ++ codes "/") (c ∷ cs)) ++ o.path)
        one true = directory-rooted c (cs ++ codes "/") o.path (first-root (47 == c) r)
        one false = directory-rooted c cs o.path (first-root (47 == c) r)

    go : (e g : Bool) → is_absolute o.path ≡ g → IsRooted (cond e (base_path p) (cond g o.path (cond (is_empty p) (codes "/" ++ o.path) (directory (base_path p) ++ o.path))))
    go true g h = base_path-rooted p f.1
    go false true h = ap (λ (b : Bool). is_empty o.path || b) h ∙ true_last (is_empty o.path)
    go false false h = relative p f.1

first_some-fits : (q other : Option (List ℕ)) → QueryFits q → QueryFits other → QueryFits (first_some q other)
first_some-fits None other f g = g
first_some-fits (Some q) other f g = f

below-formed : (b o : Parts) → WellFormed b → WellFormed o → WellFormed (below b o)
below-formed b o fb fo = go (is_some o.scheme) (is_some o.authority)
  where
    query : (e : Bool) → QueryFits (cond e (first_some o.query b.query) o.query)
    query true = first_some-fits o.query b.query fo.query fb.query
    query false = fo.query

    go : (e f : Bool) → WellFormed (cond e o (cond f (record { scheme = b.scheme; authority = o.authority; path = o.path; query = o.query })
        (record { scheme = b.scheme; authority = b.authority; path = joined_path b o; query = joined_query b o })))
    go true f = fo
    go false true = record { scheme = fb.scheme; authority = fo.authority; path = fo.path; query = fo.query }
    go false false = record {
      scheme = fb.scheme;
      authority = joined-authority b.scheme b.authority b.path b.query o fb.authority;
      path = joined-without b o fb.path fo.path;
      query = query (is_empty o.path);
    }

-- ---- parts with a cleaned path
segments-without : (path : List ℕ) → IsPath path → All IsPath (segments path)
segments-without [] w = All-cons IsPath [] [] refl (All-nil IsPath)
segments-without (c ∷ cs) w =
    let p = or_parts (is_one_of (codes "?#") c) (list_any (is_one_of (codes "?#")) cs) w in
    go (is_slash c) p.0 (segments cs) (some_segment cs) (segments-without cs p.1)
  where
    go : (b : Bool) → is_one_of (codes "?#") c ≡ false → (segs : List (List ℕ)) → (segs ≡ [] → ⊥) → All IsPath segs → All IsPath (cond b ([] ∷ segs) (onto_first c segs))
    go true e segs some all = All-cons IsPath [] segs refl all
    go false e [] some all = absurd (some refl)
    go false e (p ∷ ps) some all =
        All-cons IsPath (c ∷ p) ps (none_both (is_one_of (codes "?#") c) (list_any (is_one_of (codes "?#")) p) e (All-head IsPath p ps all)) (All-tail IsPath p ps all)

names-without : (segs : List (List ℕ)) → All IsPath segs → All IsPath (names_kept 0 segs)
names-without [] all = all
names-without (s ∷ more) all = go (is_name_kept 0 s more) (names-without more (All-tail IsPath s more all))
  where
    go : (b : Bool) → All IsPath (names_kept 0 more) → All IsPath (cond b (s ∷ names_kept 0 more) (names_kept 0 more))
    go true ih = All-cons IsPath s (names_kept 0 more) (All-head IsPath s more all) ih
    go false ih = ih

ups-without : (a : Bool) (n : ℕ) → All IsPath (ups a n)
ups-without true n = All-nil IsPath
ups-without false n = All-replicate IsPath n (codes "..") refl

slash-without : (b : Bool) → IsPath (cond b (codes "/") [])
slash-without true = refl
slash-without false = refl

flat-without : (segs : List (List ℕ)) → All IsPath segs → IsPath (flat_map after_slash segs)
flat-without [] all = refl
flat-without (s ∷ more) all = without-append (codes "?#") s (flat_map after_slash more) (All-head IsPath s more all) (flat-without more (All-tail IsPath s more all))

path-without : (a c : Bool) (segs : List (List ℕ)) → All IsPath segs → IsPath (path_of a c segs)
path-without a c [] all = slash-without a
path-without a c (s ∷ more) all =
    let root = cond a (codes "/") [] in
    without-append (codes "?#") (root ++ between_slashes (s ∷ more)) (cond c (codes "/") [])
    (without-append (codes "?#") root (between_slashes (s ∷ more)) (slash-without a)
    (without-append (codes "?#") s (flat_map after_slash more) (All-head IsPath s more all) (flat-without more (All-tail IsPath s more all))))
    (slash-without c)

clean-without : (path : List ℕ) → IsPath path → IsPath (clean path)
clean-without path w =
    let a = is_absolute path in let n = surplus 0 (segments path) in let names = names_kept 0 (segments path) in
    ap (list_any (is_one_of (codes "?#"))) (clean-is path)
    ∙ path-without a (is_open path) (ups a n ++ names)
    (All-append IsPath (ups a n) names (ups-without a n) (names-without (segments path) (segments-without path w)))

clean-rooted : (path : List ℕ) → IsRooted path → IsRooted (clean path)
clean-rooted [] r = refl
clean-rooted (c ∷ cs) r =
    ap (λ (b : Bool). is_empty (clean (c ∷ cs)) || b) (clean-absolute (c ∷ cs) ∙ r) ∙ true_last (is_empty (clean (c ∷ cs)))

clean-authority : (a : Option (List ℕ)) (path : List ℕ) → AuthorityFits a path → AuthorityFits a (clean path)
clean-authority None path f = tt
clean-authority (Some a) path f = (f.0, clean-rooted path f.1)

clean-formed : (p : Parts) → WellFormed p → WellFormed (parts p.scheme p.authority (clean p.path) p.query)
clean-formed p f = record {
  scheme = f.scheme;
  authority = clean-authority p.authority p.path f.authority;
  path = clean-without p.path f.path;
  query = f.query;
}

-- ---- a joined value
pub cleaned-clean : (p : Parts) → WellFormed p → (p.scheme ≡ None → has_scheme (cleaned_value p) ≡ false) → IsClean (cleaned_value p)
cleaned-clean p f none =
    ap cleaned_value (cut-together p.scheme p.authority (clean p.path) p.query (clean-formed p f) none (clean-single p.path p.query))
    ∙ ap (λ (l : List ℕ). put_together p.scheme p.authority l p.query) (clean-clean p.path)

pub joined-clean : (base own : List ℕ) → (is_some (below (cut base) (cut own)).scheme ≡ false → has_scheme (join base own) ≡ false) → IsClean (join base own)
joined-clean base own none =
    let p = below (cut base) (cut own) in
    cleaned-clean p (below-formed (cut base) (cut own) (cut-formed base) (cut-formed own))
    (λ (e : p.scheme ≡ None). none (ap (λ (o : Option (List ℕ)). is_some o) e))
