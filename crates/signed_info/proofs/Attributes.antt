-- The value of an attribute that is in no namespace: declarations and attributes of the namespace of `xml`, which a canonical form
-- may have besides, are not looked at.
use Rattle.std.proofs.Common.{◌≡◌, ℕ, ◌+◌, ◌<◌, ◌≤◌, Bool, true, false, cond, not, ◌&&◌, ◌||◌, eqb, inl, inr, List, [], ◌∷◌, ◌++◌, length, map, Option, Some, None, option_map, refl, sym, ap, ap₂, ◌∙◌, append_assoc, length-append, arith}
use Rattle.std.specs.List.{find, list_any}
use Rattle.std.specs.Str.{bytes_eq}
use Rattle.std.specs.BTreeMap.{insert_entry, is_at}
use Rattle.std.specs.Map.{lookup}
use Rattle.std.specs.Ordering.{is_eq, ordering_then}
use Rattle.std.specs.declared.cmp.Ordering.{Ordering}
use Rattle.std.specs.declared.cmp.Ordering.TheVariants.{Less, Equal, Greater}
use Rattle.std.proofs.lemmas.Bool.{cases_lt, false≢true, and_from, and_parts, eq-eqb, eqb-true}
use Rattle.std.proofs.lemmas.Cmp.{nat_list_cmp_total, tied_itself}
use Rattle.std.proofs.lemmas.Slice.Eq.{bytes_eq-Decides}
use Rattle.xml_doc.specs.Fields.{is_attribute_of}
use Rattle.xml_doc.specs.Kinds.{is_attribute}
use Rattle.xml_doc.specs.Rows.{RowOf}
use Rattle.xml_doc.specs.Searches.{passing, NonePass}
use Rattle.xml_doc.specs.Shape.{row_at, IsWellShaped}
use Rattle.xml_resolve.specs.Resolve.{NamedValue, have_same_name, have_own_names}
use Rattle.xml_resolve.specs.Rows.{Ordered, named_entry, in_order}
use Rattle.xml_resolve.specs.Rows as made
use Rattle.xml_resolve.specs.Steps.{Key, key_cmp}
use Rattle.xml_resolve.proofs.EachLaws.{EachRow, each_at}
use Rattle.xml_resolve.proofs.FieldLaws.{here, next_front, one_more, length_namespaces, length_attributes}
use Rattle.xml_resolve.specs.Resolve.{NamedTag, Resolved}
use Rattle.xml_resolve.specs.Rows.{Binding, field_rows}
use Rattle.xml_doc.proofs.FieldLemmas.{field_of_attribute}
use Rattle.xml_doc.proofs.Numbers.{passing-first}
use Rattle.xml_doc.proofs.SearchLemmas.{none_between, skip_front, skip_back}
use Rattle.c14n_text.specs.Code.Rows.{last_of}
use Rattle.signed_info.proofs.Standing.{ElementAt, own, fields, first, below, rest, most, split, most_long, inner_stands, last_is, within, no_fields}
use Rattle.xml_resolve.proofs.OrderLaws.{found_insert, key_total}
use Rattle.xml_resolve.proofs.ResolveLaws.{key_same}
use Rattle.dsig_fields.specs.Reading.{is_attribute_named, attribute}

less_equal : Less ≡ Equal → ⊥
less_equal e = cc

-- ---- by name
-- a name in no namespace
abbrev plain : List ℕ → Key
plain name = ([], name)

abbrev is_plain : List ℕ → Key → Bool
is_plain name k = bytes_eq k.0 [] && bytes_eq k.1 name

key_itself : (k : Key) → key_cmp k k ≡ Equal
key_itself k = ap₂ ordering_then (tied_itself nat_list_cmp_total k.0) (tied_itself nat_list_cmp_total k.1)

equal_is : (o : Ordering) → is_eq o ≡ true → o ≡ Equal
equal_is Less e = absurd (false≢true e)
equal_is Equal e = refl
equal_is Greater e = absurd (false≢true e)

plain_is : (name : List ℕ) (k : Key) → is_plain name k ≡ true → k ≡ plain name
plain_is name k e =
    let p = and_parts (bytes_eq k.0 []) (bytes_eq k.1 name) e in
    ap₂ (λ (a b : List ℕ). (a, b)) ((bytes_eq-Decides k.0 []).0 p.0) ((bytes_eq-Decides k.1 name).0 p.1)

is_plain_at : (name : List ℕ) (k : Key) → is_at (key_cmp (plain name)) k ≡ is_plain name k
is_plain_at name k = by (is_eq (key_cmp (plain name) k)) (is_plain name k) refl refl
  where
    by : (a b : Bool) → is_eq (key_cmp (plain name) k) ≡ a → is_plain name k ≡ b → a ≡ b
    by true true e f = refl
    by false false e f = refl
    by true false e f =
        let same : plain name ≡ k = key_same (plain name) k (equal_is _ e) in
        absurd (false≢true (sym f ∙ ap (is_plain name) (sym same) ∙ (bytes_eq-Decides name name).1 refl))
    by false true e f = absurd (false≢true (sym e ∙ ap (λ (q : Key). is_eq (key_cmp (plain name) q)) (plain_is name k f) ∙ ap is_eq (key_itself (plain name))))

lookup_same : {X : Type 0} (T U : Key → Bool) → ((k : Key) → T k ≡ U k) → (es : List (Key × X)) → lookup T es ≡ lookup U es
lookup_same T U same [] = refl
lookup_same {X} T U same (e ∷ es) = ap (λ (b : Bool). cond b (Some e.1) (lookup T es)) (same e.0) ∙ ap (λ (o : Option X). cond (U e.0) (Some e.1) o) (lookup_same T U same es)

-- the value that is found by a name in no namespace
abbrev pub value_named : List ℕ → Ordered → Option (List ℕ)
value_named name xs = option_map (λ v. v.1) (lookup (is_plain name) xs)

-- ---- attributes that were put in order
module _ (name : List ℕ) where
  abbrev found : Ordered → Option (List ℕ × List ℕ)
  found xs = lookup (is_at (key_cmp (plain name))) xs

  abbrev first_of : Option (List ℕ × List ℕ) → Option (List ℕ × List ℕ) → Option (List ℕ × List ℕ)
  first_of None o = o
  first_of (Some v) o = Some v

  abbrev key : NamedValue → Key
  key v = (v.name.uri, v.name.local)

  -- where one has the name, no other has
  no_other : (v : NamedValue) (vs : List NamedValue) → is_eq (key_cmp (plain name) (key v)) ≡ true → list_any (have_same_name v) vs ≡ false → found (map named_entry vs) ≡ None
  no_other v [] is apart = refl
  no_other v (u ∷ vs) is apart = by (is_eq (key_cmp (plain name) (key u))) (have_same_name v u) refl refl apart (λ g. no_other v vs is g)
    where
      same_keys : is_eq (key_cmp (plain name) (key u)) ≡ true → have_same_name v u ≡ true
      same_keys e =
          let one : plain name ≡ key v = key_same (plain name) (key v) (equal_is _ is) in
          let other : plain name ≡ key u = key_same (plain name) (key u) (equal_is _ e) in
          let both : key u ≡ key v = sym other ∙ one in
          and_from (bytes_eq u.name.uri v.name.uri) (bytes_eq u.name.local v.name.local)
          ((bytes_eq-Decides u.name.uri v.name.uri).1 (ap (λ (k : Key). k.0) both)) ((bytes_eq-Decides u.name.local v.name.local).1 (ap (λ (k : Key). k.1) both))

      by : (a b : Bool) → is_eq (key_cmp (plain name) (key u)) ≡ a → have_same_name v u ≡ b → (b || list_any (have_same_name v) vs) ≡ false
          → (list_any (have_same_name v) vs ≡ false → found (map named_entry vs) ≡ None)
          → cond a (Some (u.name.prefix, u.value)) (found (map named_entry vs)) ≡ None
      by true true e f g more = absurd (false≢true (sym g))
      by true false e f g more = absurd (false≢true (sym f ∙ same_keys e))
      by false true e f g more = absurd (false≢true (sym g))
      by false false e f g more = more g

  found_in_order : (vs : List NamedValue) (done : Ordered) → have_own_names vs ≡ true → found (in_order done vs) ≡ first_of (found (map named_entry vs)) (found done)
  found_in_order [] done apart = refl
  found_in_order (v ∷ vs) done apart =
      let p = and_parts (not (list_any (have_same_name v) vs)) (have_own_names vs) apart in
      found_in_order vs (insert_entry key_cmp done (key v) (v.name.prefix, v.value)) p.1
      ∙ ap (first_of (found (map named_entry vs))) (found_insert key_total (plain name) (key v) (v.name.prefix, v.value) done)
      ∙ by (is_eq (key_cmp (plain name) (key v))) refl p.0
    where
      no_one : (b : Bool) → not b ≡ true → b ≡ false
      no_one true e = absurd (false≢true e)
      no_one false e = refl

      by : (b : Bool) → is_eq (key_cmp (plain name) (key v)) ≡ b → not (list_any (have_same_name v) vs) ≡ true
          → first_of (found (map named_entry vs)) (cond b (Some (v.name.prefix, v.value)) (found done))
          ≡ first_of (cond b (Some (v.name.prefix, v.value)) (found (map named_entry vs))) (found done)
      by true e f = ap (λ (o : Option (List ℕ × List ℕ)). first_of o (Some (v.name.prefix, v.value))) (no_other v vs e (no_one _ f))
      by false e f = refl

  pub named_in_order : (vs : List NamedValue) → have_own_names vs ≡ true → value_named name (in_order [] vs) ≡ value_named name (map named_entry vs)
  named_in_order vs apart =
      let same : (xs : Ordered) → found xs ≡ lookup (is_plain name) xs = lookup_same (is_at (key_cmp (plain name))) (is_plain name) (is_plain_at name) in
      ap (option_map (λ v. v.1)) (sym (same (in_order [] vs)) ∙ found_in_order vs [] apart ∙ none_behind (found (map named_entry vs)) ∙ same (map named_entry vs))
    where
      none_behind : (o : Option (List ℕ × List ℕ)) → first_of o None ≡ o
      none_behind None = refl
      none_behind (Some v) = refl

-- ---- the attribute rows of an element
no_attributes : (n p : ℕ) (bs : List Binding) → EachRow (λ r. is_attribute r.kind ≡ false) (made.namespace_rows p n bs)
no_attributes n p [] = tt
no_attributes n p (b ∷ bs) = (refl, no_attributes (n + 1) p bs)

module _ (rows : List RowOf) (z : ℕ) where
  abbrev value_at : ℕ → List ℕ
  value_at y = (row_at rows y).value

  of_element : (j : ℕ) → is_attribute (row_at rows j).kind ≡ true → (row_at rows j).parent ≡ z → is_attribute_of rows z j ≡ true
  of_element j is up = and_from (is_attribute (row_at rows j).kind) (eqb (row_at rows j).parent z) is (eq-eqb (row_at rows j).parent z up)

  run_found : (name : List ℕ) (xs : Ordered) (front behind : List RowOf) (n m : ℕ) → rows ≡ front ++ (made.attribute_rows z n xs ++ behind) → length front ≡ n → m ≡ n + length xs
      → option_map value_at (find (is_attribute_named rows name) (passing (is_attribute_of rows z) n m)) ≡ value_named name xs
  run_found name [] front behind n m e long size =
      let none : passing (is_attribute_of rows z) n m ≡ [] = none_between (is_attribute_of rows z) n m (λ j ge less. absurd (omega (arith, ge, less, size))) in
      ap (λ (ys : List ℕ). option_map value_at (find (is_attribute_named rows name) ys)) none
  run_found name (a ∷ xs) front behind n m e long size =
      let r = here rows front (made.attribute_rows z (n + 1) xs ++ behind) _ n e long in
      let more = passing (is_attribute_of rows z) (n + 1) m in
      let is : is_attribute_of rows z n ≡ true = of_element n (ap (λ (q : RowOf). is_attribute q.kind) r) (ap (λ (q : RowOf). q.parent) r) in
      ap (λ (ys : List ℕ). option_map value_at (find (is_attribute_named rows name) ys)) (passing-first (is_attribute_of rows z) n m (omega (arith, size)) is)
      ∙ by (is_plain name a.0) (is_attribute_named rows name n) (ap (λ (q : RowOf). bytes_eq q.uri [] && bytes_eq q.local_name name) r) (ap (λ (q : RowOf). q.value) r)
      (run_found name xs (front ++ _ ∷ []) behind (n + 1) m (next_front rows front (made.attribute_rows z (n + 1) xs ++ behind) _ e) (one_more front _ n long) (omega (arith, size)))
    where
      by : (b c : Bool) → c ≡ b → value_at n ≡ a.1.1
          → option_map value_at (find (is_attribute_named rows name) (passing (is_attribute_of rows z) (n + 1) m)) ≡ value_named name xs
          → option_map value_at (cond c (Some n) (find (is_attribute_named rows name) (passing (is_attribute_of rows z) (n + 1) m))) ≡ option_map (λ v. v.1) (cond b (Some a.1) (lookup (is_plain name) xs))
      by true c same v ih = ap (λ (t : Bool). option_map value_at (cond t (Some n) (find (is_attribute_named rows name) (passing (is_attribute_of rows z) (n + 1) m)))) same ∙ ap (λ (u : List ℕ). Some u) v
      by false c same v ih = ap (λ (t : Bool). option_map value_at (cond t (Some n) (find (is_attribute_named rows name) (passing (is_attribute_of rows z) (n + 1) m)))) same ∙ ih

  module _ (w : IsWellShaped rows) (tag : NamedTag) (inner : Resolved) (at : ElementAt rows z tag inner) where
    abbrev bindings : List Binding
    bindings = own rows z at.parent at.bindings tag inner at.until at.rest at.stands

    abbrev values : Ordered
    values = in_order [] tag.attributes

    abbrev from : ℕ
    from = z + 1 + length bindings

    abbrev to : ℕ
    to = first rows z at.parent at.bindings tag inner at.until at.rest at.stands

    abbrev names : List RowOf
    names = made.namespace_rows z (z + 1) bindings

    abbrev front : List RowOf
    front = most rows z at.parent at.bindings tag inner at.until at.rest at.stands

    abbrev far : List RowOf
    far = below rows z at.parent at.bindings tag inner at.until at.rest at.stands ++ (rest rows z at.parent at.bindings tag inner at.until at.rest at.stands ++ at.stands.behind)

    cut : rows ≡ front ++ (names ++ (made.attribute_rows z from values ++ far))
    unfolding field_rows
    cut = split rows z at.parent at.bindings tag inner at.until at.rest at.stands ∙ simp append_assoc refl

    front_long : length front ≡ z + 1
    front_long = most_long rows z at.parent at.bindings tag inner at.until at.rest at.stands

    to_is : to ≡ from + length values
    unfolding field_rows
    to_is = omega (arith, length-append names (made.attribute_rows z from values), length_namespaces (z + 1) z bindings, length_attributes from z values)

    parts : (j : ℕ) → is_attribute_of rows z j ≡ true → (is_attribute (row_at rows j).kind ≡ true) × ((row_at rows j).parent ≡ z)
    parts j e = let p = and_parts (is_attribute (row_at rows j).kind) (eqb (row_at rows j).parent z) e in (p.0, eqb-true (row_at rows j).parent z p.1)

    never : (j : ℕ) → (is_attribute_of rows z j ≡ true → ⊥) → is_attribute_of rows z j ≡ false
    never j no_way = by (is_attribute_of rows z j) refl
      where
        by : (b : Bool) → is_attribute_of rows z j ≡ b → b ≡ false
        by true e = absurd (no_way e)
        by false e = refl

    there : z < length rows
    there = within rows z at.parent at.bindings tag inner at.until at.rest at.stands

    none_before : NonePass (is_attribute_of rows z) 1 from
    none_before j ge less = never j (λ e.
        let p = parts j e in
        let size = length_namespaces (z + 1) z bindings in
        let each = no_attributes (z + 1) z bindings in
        elim (cases_lt z j) [
          | inl later ↦
              let is = each_at (λ r. is_attribute r.kind ≡ false) names rows front (made.attribute_rows z from values ++ far) (z + 1) j each cut front_long
              (omega (arith, later)) (omega (arith, less, size)) in
              false≢true (sym is ∙ p.0)
          | inr le ↦ let up = w.nesting.parent_before j ge (omega (arith, le, there)) in absurd (omega (arith, up, p.1, le))
        ])

    none_behind : NonePass (is_attribute_of rows z) to (length rows)
    none_behind j ge less = never j (λ e.
        let p = parts j e in
        let reach = w.nesting.last_from j less in
        let nested = w.nesting.last_within j less in
        let same : (row_at rows (row_at rows j).parent).last ≡ (row_at rows z).last = ap (last_of rows) p.1 in
        let last = last_is rows z at.parent at.bindings tag inner at.until at.rest at.stands in
        let stands = inner_stands rows z at.parent at.bindings tag inner at.until at.rest at.stands in
        let is = no_fields rows w inner to z bindings j (omega arith) stands ge (omega (arith, reach, nested, same, last)) p.1 in
        false≢true (sym is ∙ field_of_attribute (row_at rows j).kind p.0))

    to_within : to ≤ length rows
    to_within =
        let own_fields = fields rows z at.parent at.bindings tag inner at.until at.rest at.stands in
        let all = ap length (split rows z at.parent at.bindings tag inner at.until at.rest at.stands) in
        omega (arith, all, length-append front (own_fields ++ far), length-append own_fields far, front_long)

    -- the attribute of an element's row is that of its tag
    pub attribute_is : (name : List ℕ) → have_own_names tag.attributes ≡ true → attribute rows z name ≡ value_named name (map named_entry tag.attributes)
    attribute_is name apart =
        ap (λ (ys : List ℕ). option_map value_at (find (is_attribute_named rows name) ys))
        (skip_front (is_attribute_of rows z) 1 from (length rows) (omega arith) none_before ∙ skip_back (is_attribute_of rows z) from to (length rows) to_within none_behind)
        ∙ run_found name values (front ++ names) far from to (cut ∙ sym (append_assoc front names (made.attribute_rows z from values ++ far)))
        (omega (arith, length-append front names, front_long, length_namespaces (z + 1) z bindings)) to_is
        ∙ named_in_order name tag.attributes apart
