-- What a cleaned value gives below a base, by what it begins with.
use Rattle.std.proofs.Common.{◌≡◌, ℕ, Bool, true, false, not, cond, List, [], ◌∷◌, ◌++◌, refl, ap, sym, ◌∙◌, append_assoc, append-nil}
use Rattle.std.specs.Prelude.{Option, Some, None}
use Rattle.c14n_bases.specs.Join.{Parts, is_empty, is_absolute, base_path, clean, relative_path, first_some, below, scheme_octets, authority_octets, query_octets, put_together, cleaned_value}
use Rattle.c14n_bases.specs.declared.kind.Kind.TheVariants.{Authority, Absolute, Empty, Relative}
use Rattle.c14n_bases.specs.Code.Clean.{kind_of}
use Rattle.c14n_bases.proofs.JoinLemmas.{clean-base_path}

abbrev pub parts : Option (List ℕ) → Option (List ℕ) → List ℕ → Option (List ℕ) → Parts
parts s a p q = record { scheme = s; authority = a; path = p; query = q }

abbrev roots : Parts → List ℕ
roots b = scheme_octets b.scheme ++ authority_octets b.authority

pub authority-front : (b : Parts) (s a : Option (List ℕ)) (p : List ℕ) (q : Option (List ℕ)) (v : List ℕ) → put_together s a (clean p) q ≡ v → Authority ≡ kind_of (parts s a p q)
    → scheme_octets b.scheme ++ v ≡ cleaned_value (below b (parts s a p q))
authority-front b (Some s) a p q v whole k = cc
authority-front b None (Some a) p q v whole k =
    ap (λ (l : List ℕ). scheme_octets b.scheme ++ l) (sym whole) ∙ go (scheme_octets b.scheme) (authority_octets (Some a)) (clean p) (query_octets q)
  where
    go : (a b c d : List ℕ) → a ++ ((b ++ c) ++ d) ≡ ((a ++ b) ++ c) ++ d
    go a b c d = simp append_assoc
authority-front b None None p q v whole k = absurd (go (is_absolute p) (is_empty p) k)
  where
    go : (x y : Bool) → Authority ≡ cond x Absolute (cond y Empty Relative) → ⊥
    go true y k = cc
    go false true k = cc
    go false false k = cc

pub absolute-front : (b : Parts) (s a : Option (List ℕ)) (p : List ℕ) (q : Option (List ℕ)) (v : List ℕ) → put_together s a (clean p) q ≡ v → Absolute ≡ kind_of (parts s a p q)
    → roots b ++ v ≡ cleaned_value (below b (parts s a p q))
absolute-front b (Some s) a p q v whole k = cc
absolute-front b None (Some a) p q v whole k = cc
absolute-front b None None [] q v whole k = cc
absolute-front b None None (c ∷ cs) q v whole k =
    let p = c ∷ cs in
    ap (λ (l : List ℕ). roots b ++ l) (sym whole) ∙ sym (append_assoc (roots b) (clean p) (query_octets q))
    ∙ ap (λ (t : Bool). (roots b ++ clean (cond t p (relative_path b p))) ++ query_octets q) (sym (go (is_absolute p) refl k))
  where
    go : (x : Bool) → is_absolute (c ∷ cs) ≡ x → Absolute ≡ cond x Absolute Relative → is_absolute (c ∷ cs) ≡ true
    go true e k = e
    go false e k = cc

pub empty-front : (b : Parts) (s a : Option (List ℕ)) (p : List ℕ) (q : Option (List ℕ)) (v : List ℕ) → put_together s a (clean p) q ≡ v → Empty ≡ kind_of (parts s a p q)
    → put_together b.scheme b.authority (clean b.path) (cond (not (is_empty v)) None b.query) ++ v ≡ cleaned_value (below b (parts s a p q))
empty-front b (Some s) a p q v whole k = cc
empty-front b None (Some a) p q v whole k = cc
empty-front b None None (c ∷ cs) q v whole k = absurd (go (is_absolute (c ∷ cs)) k)
  where
    go : (x : Bool) → Empty ≡ cond x Absolute Relative → ⊥
    go true k = cc
    go false k = cc
empty-front b None None [] q v whole k =
    ap (λ (l : List ℕ). put_together b.scheme b.authority (clean b.path) (cond (not (is_empty l)) None b.query) ++ l) (sym whole)
    ∙ ap (λ (p : List ℕ). put_together b.scheme b.authority p (cond (not (is_empty (query_octets q))) None b.query) ++ query_octets q) (sym (clean-base_path b.path))
    ∙ go q
  where
    front : List ℕ
    front = roots b ++ clean (base_path b.path)

    go : (q : Option (List ℕ)) → put_together b.scheme b.authority (clean (base_path b.path)) (cond (not (is_empty (query_octets q))) None b.query) ++ query_octets q
        ≡ cleaned_value (below b (parts None None [] q))
    go None = append-nil (put_together b.scheme b.authority (clean (base_path b.path)) b.query)
    go (Some q) = ap (λ (l : List ℕ). l ++ query_octets (Some q)) (append-nil (roots b ++ clean (base_path b.path)))

pub relative_parts : (s a : Option (List ℕ)) (p : List ℕ) (q : Option (List ℕ)) → Relative ≡ kind_of (parts s a p q)
    → (s ≡ None) × (a ≡ None) × (is_empty p ≡ false) × (is_absolute p ≡ false)
relative_parts (Some s) a p q k = cc
relative_parts None (Some a) p q k = cc
relative_parts None None p q k = let r = go (is_absolute p) (is_empty p) refl refl k in (refl, refl, r.0, r.1)
  where
    go : (x y : Bool) → is_absolute p ≡ x → is_empty p ≡ y → Relative ≡ cond x Absolute (cond y Empty Relative) → (is_empty p ≡ false) × (is_absolute p ≡ false)
    go true y e f k = cc
    go false true e f k = cc
    go false false e f k = (f, e)

-- the path and the query of a relative value
pub relative-value : (s a : Option (List ℕ)) (p : List ℕ) (q : Option (List ℕ)) → s ≡ None → a ≡ None → put_together s a p q ≡ p ++ query_octets q
relative-value s a p q no_scheme no_authority =
    ap (λ (o : Option (List ℕ)). put_together o a p q) no_scheme ∙ ap (λ (o : Option (List ℕ)). put_together None o p q) no_authority

pub relative-front : (b : Parts) (s a : Option (List ℕ)) (p : List ℕ) (q : Option (List ℕ)) → s ≡ None → a ≡ None → is_empty p ≡ false → is_absolute p ≡ false
    → roots b ++ (clean (relative_path b p) ++ query_octets q) ≡ cleaned_value (below b (parts s a p q))
relative-front b s a p q no_scheme no_authority some relative =
    sym (append_assoc (roots b) (clean (relative_path b p)) (query_octets q))
    ∙ sym (ap (λ (o : Option (List ℕ)). cleaned_value (below b (parts o a p q))) no_scheme
    ∙ ap (λ (o : Option (List ℕ)). cleaned_value (below b (parts None o p q))) no_authority
    ∙ ap (λ (e : Bool). put_together b.scheme b.authority (clean (cond e (base_path b.path) (cond (is_absolute p) p (relative_path b p)))) (cond e (first_some q b.query) q)) some
    ∙ ap (λ (e : Bool). put_together b.scheme b.authority (clean (cond e p (relative_path b p))) q) relative)
