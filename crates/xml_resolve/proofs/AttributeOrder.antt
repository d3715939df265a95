-- The attributes in order are those that were put in, each once.
use Rattle.std.proofs.Common.{◌≡◌, ℕ, Bool, true, false, not, ◌||◌, List, [], ◌∷◌, ◌++◌, map, refl, sym, ap, subst, ◌∙◌, append-nil}
use Rattle.std.specs.BTreeMap.{insert_entry}
use Rattle.std.specs.List.{AllByRecursion, list_any}
use Rattle.std.specs.List.Sorted.{IsPermutation}
use Rattle.std.specs.Map.{keys_of}
use Rattle.std.specs.Ordering.{is_eq, match_ordering}
use Rattle.std.specs.declared.cmp.Ordering.{Ordering}
use Rattle.std.specs.declared.cmp.Ordering.TheVariants.{Less, Equal, Greater}
use Rattle.std.proofs.lemmas.Bool.{and_parts}
use Rattle.std.proofs.lemmas.List.Sorted.{IsPermutation-refl, IsPermutation-trans, IsPermutation-cons, IsPermutation-middle, IsPermutation-append_left}
use Rattle.xml_resolve.specs.Resolve.{NamedValue, have_same_name, have_own_names}
use Rattle.xml_resolve.specs.Rows.{Ordered, in_order, named_entry}
use Rattle.xml_resolve.specs.Steps.{Key, is_key, key_cmp}
use Rattle.xml_resolve.proofs.KeyLaws.{at_key}
use Rattle.xml_resolve.proofs.OrderLaws.{all_insert, key_total}

-- no entry has this key
abbrev IsFresh : Key → Ordered → Type 0
IsFresh k es = AllByRecursion (λ (y : Key). is_key k y ≡ false) (keys_of es)

insert_step : (k : Key) (v : (List ℕ × List ℕ)) (e : Key × (List ℕ × List ℕ)) (es : Ordered) (c : Ordering) → key_cmp k e.0 ≡ c → is_key k e.0 ≡ false
    → IsPermutation ((k, v) ∷ es) (insert_entry key_cmp es k v)
    → IsPermutation ((k, v) ∷ (e ∷ es)) (match_ordering c ((k, v) ∷ (e ∷ es)) ((e.0, v) ∷ es) (e ∷ insert_entry key_cmp es k v))
insert_step k v e es Less is other h = IsPermutation-refl ((k, v) ∷ (e ∷ es))
insert_step k v e es Equal is other h = absurd (let clash : true ≡ false = sym (ap is_eq is) ∙ at_key k e.0 ∙ other in cc)
insert_step k v e es Greater is other h =
    IsPermutation-trans _ _ _ (IsPermutation-middle ((k, v) ∷ []) e es) (IsPermutation-cons e ((k, v) ∷ es) (insert_entry key_cmp es k v) h)

insert_new : (k : Key) (v : (List ℕ × List ℕ)) (es : Ordered) → IsFresh k es → IsPermutation ((k, v) ∷ es) (insert_entry key_cmp es k v)
insert_new k v [] h = IsPermutation-refl ((k, v) ∷ [])
insert_new k v (e ∷ es) h = insert_step k v e es (key_cmp k e.0) refl h.0 (insert_new k v es h.1)

-- no entry has the name of one of these attributes
abbrev AreFresh : List NamedValue → Ordered → Type 0
AreFresh [] es = Unit {0}
AreFresh (v ∷ vs) es = IsFresh (named_entry v).0 es × AreFresh vs es

all_fresh : (vs : List NamedValue) → AreFresh vs []
all_fresh [] = tt
all_fresh (v ∷ vs) = (tt, all_fresh vs)

or_false : (a b : Bool) → (a || b) ≡ false → (a ≡ false) × (b ≡ false)
or_false true b e = cc
or_false false b e = (refl, e)

not_true : (b : Bool) → not b ≡ true → b ≡ false
not_true true e = cc
not_true false e = refl

fresh_behind : (v : NamedValue) (vs : List NamedValue) (es : Ordered) → list_any (have_same_name v) vs ≡ false → AreFresh vs es
    → AreFresh vs (insert_entry key_cmp es (named_entry v).0 (named_entry v).1)
fresh_behind v [] es e h = tt
fresh_behind v (w ∷ vs) es e h =
    let other = or_false (have_same_name v w) (list_any (have_same_name v) vs) e in
    (all_insert key_total (λ (y : Key). is_key (named_entry w).0 y ≡ false) (named_entry v).0 (named_entry v).1 es other.0 h.0, fresh_behind v vs es other.1 h.1)

in_order_same : (vs : List NamedValue) (es : Ordered) → AreFresh vs es → have_own_names vs ≡ true → IsPermutation (es ++ map named_entry vs) (in_order es vs)
in_order_same [] es h own = subst (λ (t : Ordered). IsPermutation t es) (sym (append-nil es)) (IsPermutation-refl es)
in_order_same (v ∷ vs) es h own =
    let parts = and_parts (not (list_any (have_same_name v) vs)) (have_own_names vs) own in
    let apart = not_true (list_any (have_same_name v) vs) parts.0 in
    let more = insert_entry key_cmp es (named_entry v).0 (named_entry v).1 in
    let others = map named_entry vs in
    let here = insert_new (named_entry v).0 (named_entry v).1 es h.0 in
    let rest = in_order_same vs more (fresh_behind v vs es apart h.1) parts.1 in
    IsPermutation-trans _ _ _ (IsPermutation-middle es (named_entry v) others)
    (IsPermutation-trans _ _ _ (IsPermutation-append_left others (named_entry v ∷ es) more here) rest)

pub same_attributes : (vs : List NamedValue) → have_own_names vs ≡ true → IsPermutation (map named_entry vs) (in_order [] vs)
same_attributes vs own = in_order_same vs [] (all_fresh vs) own
