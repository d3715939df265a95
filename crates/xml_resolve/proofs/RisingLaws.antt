-- Names that rise are apart, and stand in order.
use Rattle.std.proofs.Common.{◌≡◌, Bool, true, false, cond, ◌||◌, ℕ, List, [], ◌∷◌, ◌++◌, Option, Some, None, refl, sym, ap, ◌∙◌}
use Rattle.std.specs.Prelude.{is_some}
use Rattle.std.specs.List.{list_any}
use Rattle.std.specs.BTreeSet.{insert_key}
use Rattle.std.specs.BTreeMap.{insert_entry}
use Rattle.std.specs.Ordering.{is_eq, is_lt, ordering_reverse}
use Rattle.std.specs.declared.cmp.Ordering.{Ordering}
use Rattle.std.specs.declared.cmp.Ordering.TheVariants.{Less, Equal, Greater}
use Rattle.std.proofs.lemmas.Bool.{and_parts}
use Rattle.sig_base.specs.Options.{◌>>=◌}
use Rattle.xml_names.specs.Names.{qname_of}
use Rattle.xml_names.specs.Scopes.{Entry}
use Rattle.xml_syntax.specs.Tree.{Attribute}
use Rattle.xml_resolve.specs.Resolve.{attribute_uri, is_declaration}
use Rattle.xml_resolve.specs.Rows.{Ordered}
use Rattle.xml_resolve.specs.Table.{ordered_behind}
use Rattle.xml_resolve.specs.Steps.{Key, is_key, key_cmp, bound_in, names_behind}
use Rattle.xml_resolve.specs.Code.Steps.{is_behind, is_one, rises}
use Rattle.xml_resolve.proofs.KeyLaws.{at_key}
use Rattle.xml_resolve.proofs.OrderLaws.{key_total}
use Rattle.xml_resolve.proofs.ResolveLaws.{inserted_any}

is_less : (o : Ordering) → is_lt o ≡ true → o ≡ Less
is_less Less e = refl
is_less Equal e = absurd cc
is_less Greater e = absurd cc

less_is : (o : Ordering) → o ≡ Less → is_lt o ≡ true
less_is o e = ap is_lt e

behind_trans : (last : Option Key) (j k : Key) → is_behind last j ≡ true → is_behind (Some j) k ≡ true → is_behind last k ≡ true
behind_trans None j k e f = refl
behind_trans (Some i) j k e f = less_is (key_cmp i k) (key_total.trans i j k (is_less (key_cmp i j) e) (is_less (key_cmp j k) f))

-- a name that comes behind another is not the same
behind_apart : (j k : Key) → is_behind (Some j) k ≡ true → is_key k j ≡ false
behind_apart j k e = sym (at_key k j) ∙ ap is_eq (key_total.antisymm k j ∙ ap ordering_reverse (is_less (key_cmp j k) e))

-- what comes behind the last name is none of those that were seen
abbrev Ends : Option Key → List Key → Type 0
Ends last seen = (k : Key) → is_behind last k ≡ true → list_any (is_key k) seen ≡ false

ends_more : (last : Option Key) (seen : List Key) (j : Key) → Ends last seen → is_behind last j ≡ true → Ends (Some j) (insert_key key_cmp seen j)
ends_more last seen j ends e k f =
    inserted_any k j seen ∙ ap (λ (b : Bool). b || list_any (is_key k) seen) (behind_apart j k f) ∙ ends k (behind_trans last j k e f)

bind_some_if : {A X : Type 0} (o : Option A) (g : A → Bool) (f : A → Option X) → ((x : A) → g x ≡ true → is_some (f x) ≡ true) → is_one o g ≡ true → is_some (o >>= f) ≡ true
bind_some_if None g f h e = absurd cc
bind_some_if (Some x) g f h e = h x e

cond_some_if : {X : Type 0} (b g h : Bool) (x y : Option X) → (g ≡ true → is_some x ≡ true) → (h ≡ true → is_some y ≡ true) → cond b g h ≡ true → is_some (cond b x y) ≡ true
cond_some_if true g h x y p q e = p e
cond_some_if false g h x y p q e = q e

new_some : {X : Type 0} (b : Bool) (x : Option X) → b ≡ false → is_some x ≡ true → is_some (cond b None x) ≡ true
new_some true x e f = absurd cc
new_some false x e f = f

rises_apart : (attributes : List Attribute) (es : List Entry) (last : Option Key) (seen : List Key) → Ends last seen → rises (bound_in es) last attributes ≡ true → is_some (names_behind es seen attributes) ≡ true
unfolding rises names_behind
rises_apart [] es last seen ends e = refl
rises_apart (a ∷ others) es last seen ends e =
    bind_some_if (qname_of a.name) _ _ (λ q h.
    cond_some_if (is_declaration q) _ _ _ _ (rises_apart others es last seen ends)
    (bind_some_if (attribute_uri (bound_in es) q.0) _ _ (λ uri f.
    let parts = and_parts (is_behind last (uri, q.1)) (rises (bound_in es) (Some (uri, q.1)) others) f in
    new_some (list_any (is_key (uri, q.1)) seen) _ (ends (uri, q.1) parts.0)
    (rises_apart others es (Some (uri, q.1)) (insert_key key_cmp seen (uri, q.1)) (ends_more last seen (uri, q.1) ends parts.0) parts.1))) h) e

pub rising_apart : (attributes : List Attribute) (es : List Entry) → rises (bound_in es) None attributes ≡ true → is_some (names_behind es [] attributes) ≡ true
rising_apart attributes es = rises_apart attributes es None [] (λ k e. refl)

-- ---- in order
-- a name that comes behind another is greater
behind_greater : (j k : Key) → is_behind (Some j) k ≡ true → key_cmp k j ≡ Greater
behind_greater j k e = key_total.antisymm k j ∙ ap ordering_reverse (is_less (key_cmp j k) e)

-- the name is greater than that of each entry
abbrev pub Above : Key → Ordered → Type 0
Above k [] = Unit {0}
Above k (e ∷ es) = (key_cmp k e.0 ≡ Greater) × Above k es

above_more : (k : Key) (es : Ordered) (e : Key × (List ℕ × List ℕ)) → Above k es → key_cmp k e.0 ≡ Greater → Above k (es ++ e ∷ [])
above_more k [] e h g = (g, tt)
above_more k (x ∷ xs) e h g = (h.0, above_more k xs e h.1 g)

appended : (k : Key) (v : List ℕ × List ℕ) (es : Ordered) → Above k es → insert_entry key_cmp es k v ≡ es ++ (k, v) ∷ []
appended k v [] h = refl
appended k v (e ∷ es) h = rw h.0 (ap (λ (t : Ordered). e ∷ t) (appended k v es h.1))

-- what comes behind the last name is greater than the name of each entry
abbrev pub EndsBelow : Option Key → Ordered → Type 0
EndsBelow last es = (k : Key) → is_behind last k ≡ true → Above k es

pub none_below : EndsBelow None []
none_below k e = tt

pub below_more : (last : Option Key) (es : Ordered) (j : Key) (v : List ℕ × List ℕ) → EndsBelow last es → is_behind last j ≡ true → EndsBelow (Some j) (es ++ (j, v) ∷ [])
below_more last es j v ends e k f = above_more k es (j, v) (ends k (behind_trans last j k e f)) (behind_greater j k f)

put_last : (last : Option Key) (es : Ordered) (j : Key) (v : List ℕ × List ℕ) → EndsBelow last es → is_behind last j ≡ true → insert_entry key_cmp es j v ≡ es ++ (j, v) ∷ []
put_last last es j v ends e = appended j v es (ends j e)

bind_at : {A X : Type 0} (o : Option A) (x : A) (f : A → Option X) → o ≡ Some x → (o >>= f) ≡ f x
bind_at o x f e = ap (λ t. t >>= f) e

module _ (bound : List ℕ → Option (List ℕ)) (done : Ordered) (all others : List Attribute) (a : Attribute) (q : List ℕ × List ℕ) (is : all ≡ a ∷ others) (named : qname_of a.name ≡ Some q) where
  abbrev put : List ℕ × List ℕ → Option Ordered
  put r = attribute_uri bound r.0 >>= λ uri. ordered_behind bound (insert_entry key_cmp done (uri, r.1) (r.0, a.value)) others

  taken : ordered_behind bound done all ≡ cond (is_declaration q) (ordered_behind bound done others) (put q)
  unfolding ordered_behind
  taken = ap (ordered_behind bound done) is ∙ bind_at (qname_of a.name) q (λ r. cond (is_declaration r) (ordered_behind bound done others) (put r)) named

  -- a declaration is passed over
  pub passed_over : is_declaration q ≡ true → ordered_behind bound done others ≡ ordered_behind bound done all
  passed_over e = sym (taken ∙ ap (λ (b : Bool). cond b (ordered_behind bound done others) (put q)) e)

  -- an attribute whose name comes behind the others is put behind them
  pub put_behind : (last : Option Key) (uri : List ℕ) → is_declaration q ≡ false → attribute_uri bound q.0 ≡ Some uri → EndsBelow last done → is_behind last (uri, q.1) ≡ true
      → ordered_behind bound (done ++ ((uri, q.1), (q.0, a.value)) ∷ []) others ≡ ordered_behind bound done all
  put_behind last uri e found ends behind =
      sym (taken ∙ ap (λ (b : Bool). cond b (ordered_behind bound done others) (put q)) e
      ∙ bind_at (attribute_uri bound q.0) uri (λ u. ordered_behind bound (insert_entry key_cmp done (u, q.1) (q.0, a.value)) others) found
      ∙ ap (λ (t : Ordered). ordered_behind bound t others) (put_last last done (uri, q.1) (q.0, a.value) ends behind))
