-- The attributes in no namespace that the canonical form of an element has: they are those of the element.
use Rattle.std.proofs.Common.{◌≡◌, ◌≢◌, ℕ, ◌-◌, ◌<◌, Bool, true, false, cond, not, ◌&&◌, ◌||◌, ◌⊎◌, eqb, inl, inr, List, [], ◌∷◌, ◌++◌, length, map, Option, Some, None, option_map, refl, sym, ap, subst, ◌∙◌, arith}
use Rattle.std.specs.Prelude.{codes, is_some, if◌then◌else◌}
use Rattle.std.specs.List.{filter, find, list_any}
use Rattle.std.specs.Map.{lookup}
use Rattle.std.specs.Str.{bytes_eq}
use Rattle.std.specs.declared.cmp.Ordering.{Ordering}
use Rattle.std.specs.declared.cmp.Ordering.TheVariants.{Less, Equal, Greater}
use Rattle.std.proofs.lemmas.Bool.{false≢true, and_from, and_parts, eq-eqb}
use Rattle.std.proofs.lemmas.Slice.Eq.{bytes_eq-Decides}
use Rattle.sig_base.specs.Names.{xml_name}
use Rattle.xml_doc.specs.Fields.{attribute_rows, is_attribute_of}
use Rattle.xml_doc.specs.Kinds.{is_attribute}
use Rattle.xml_doc.specs.Rows.{RowOf}
use Rattle.xml_doc.specs.Shape.{row_at, IsWellShaped}
use Rattle.xml_doc.specs.declared.row.Kind.TheVariants as kinds
use Rattle.xml_resolve.specs.Resolve.{have_same_name, have_own_names}
use Rattle.xml_resolve.specs.Rows.{named_entry}
use Rattle.xml_resolve.proofs.ResolveLaws.{key_same}
use Rattle.c14n_text.specs.Rows.{kind_of, parent_of}
use Rattle.c14n_text.specs.Namespaces.{Rule, exclusive}
use Rattle.c14n_text.specs.Attributes.{is_xml, imported, attribute_cmp, placed, put_in, in_order, imports_attributes}
use Rattle.c14n_text.specs.Bases.{is_base, joined_base, base_place, is_own, joined_value, written_attributes, written_value}
use Rattle.c14n_subtrees.specs.Named.{AreWrittenSo, IsNamed}
use Rattle.c14n_subtrees.specs.Resolved.{named_value_at}
use Rattle.c14n_subtrees.proofs.Lists.{Each, each_at, each_told, find_some, find_none}
use Rattle.c14n_subtrees.proofs.OwnNames.{Ascends, names_apart, written_ascends}
use Rattle.c14n_subtrees.proofs.Written.{IsAttributeOf, MayWrite, each_attribute, written_each}
use Rattle.dsig_fields.specs.Reading.{is_attribute_named, attribute}
use Rattle.signed_info.proofs.Attributes.{value_named}

-- ---- lists
filter_all : (xs : List ℕ) → filter (λ z. true) xs ≡ xs
filter_all [] = refl
filter_all (x ∷ xs) = ap (λ (u : List ℕ). x ∷ u) (filter_all xs)

each_unfiltered : (P : ℕ → Type 0) (q : ℕ → Bool) (xs : List ℕ) → Each P (filter q xs) → Each (λ z. q z ≡ true → P z) xs
each_unfiltered P q [] h = tt
each_unfiltered P q (x ∷ xs) h = go (q x) refl h (each_unfiltered P q xs)
  where
    go : (b : Bool) → q x ≡ b → Each P (cond b (x ∷ filter q xs) (filter q xs)) → (Each P (filter q xs) → Each (λ z. q z ≡ true → P z) xs) → Each (λ z. q z ≡ true → P z) (x ∷ xs)
    go true is k more = (λ e. k.0, more k.1)
    go false is k more = (λ e. absurd (false≢true (sym is ∙ e)), more k)

each_left : (P : ℕ → Type 0) (xs ys : List ℕ) → Each P (xs ++ ys) → Each P xs
each_left P [] ys h = tt
each_left P (x ∷ xs) ys h = (h.0, each_left P xs ys h.1)

module _ (rows : List RowOf) where
  abbrev uri : ℕ → List ℕ
  uri z = (row_at rows z).uri

  abbrev local : ℕ → List ℕ
  local z = (row_at rows z).local_name

  abbrev value_at : ℕ → List ℕ
  value_at z = (row_at rows z).value

  -- ---- no expanded name stands twice
  no_other : (joined : Option (ℕ × List ℕ)) (a : ℕ) (zs : List ℕ) → Each (λ z. attribute_cmp rows a z ≡ Less) zs
      → list_any (have_same_name (named_value_at rows joined a)) (map (named_value_at rows joined) zs) ≡ false
  no_other joined a [] h = refl
  no_other joined a (z ∷ zs) h =
      ap (λ (b : Bool). b || list_any (have_same_name (named_value_at rows joined a)) (map (named_value_at rows joined) zs))
      (by (bytes_eq (uri z) (uri a)) (bytes_eq (local z) (local a)) refl refl)
      ∙ no_other joined a zs h.1
    where
      by : (b c : Bool) → bytes_eq (uri z) (uri a) ≡ b → bytes_eq (local z) (local a) ≡ c → (b && c) ≡ false
      by true true e f = absurd (names_apart rows a z h.0 (sym ((bytes_eq-Decides (uri z) (uri a)).0 e)) (sym ((bytes_eq-Decides (local z) (local a)).0 f)))
      by true false e f = refl
      by false c e f = refl

  pub names_own : (joined : Option (ℕ × List ℕ)) (zs : List ℕ) → Ascends rows zs → have_own_names (map (named_value_at rows joined) zs) ≡ true
  names_own joined [] h = refl
  names_own joined (z ∷ zs) h =
      and_from (not (list_any (have_same_name (named_value_at rows joined z)) (map (named_value_at rows joined) zs))) (have_own_names (map (named_value_at rows joined) zs))
      (ap not (no_other joined z zs h.0)) (names_own joined zs h.1)

  -- ---- attributes in no namespace
  module _ (name : List ℕ) where
    abbrev p : ℕ → Bool
    p z = is_attribute_named rows name z

    name_parts : (z : ℕ) → p z ≡ true → (uri z ≡ []) × (local z ≡ name)
    name_parts z e =
        let h = and_parts (bytes_eq (uri z) []) (bytes_eq (local z) name) e in
        ((bytes_eq-Decides (uri z) []).0 h.0, (bytes_eq-Decides (local z) name).0 h.1)

    -- they are none of the namespace of `xml`
    not_xml : (z : ℕ) → p z ≡ true → is_xml rows z ≡ false
    not_xml z e = ap (λ (u : List ℕ). bytes_eq u xml_name) (name_parts z e).0

    not_base : (z : ℕ) → p z ≡ true → is_base rows z ≡ false
    not_base z e = ap (λ (b : Bool). b && bytes_eq (local z) (codes "base")) (not_xml z e)

    value_is : (joined : Option (ℕ × List ℕ)) (z : ℕ) → p z ≡ true → written_value rows joined z ≡ value_at z
    value_is joined z e = ap (λ (b : Bool). if b then joined_value joined (value_at z) else value_at z) (not_base z e)

    named_found : (joined : Option (ℕ × List ℕ)) (zs : List ℕ) → value_named name (map named_entry (map (named_value_at rows joined) zs)) ≡ option_map (written_value rows joined) (find p zs)
    named_found joined [] = refl
    named_found joined (z ∷ zs) = by (p z) (named_found joined zs)
      where
        by : (b : Bool) → value_named name (map named_entry (map (named_value_at rows joined) zs)) ≡ option_map (written_value rows joined) (find p zs)
            → option_map (λ v. v.1) (cond b (Some ((row_at rows z).prefix_text, written_value rows joined z)) (lookup (λ k. bytes_eq k.0 [] && bytes_eq k.1 name) (map named_entry (map (named_value_at rows joined) zs))))
            ≡ option_map (written_value rows joined) (cond b (Some z) (find p zs))
        by true ih = refl
        by false ih = ih

    -- in rising order only one has the name
    only_one : (xs : List ℕ) (z : ℕ) → Ascends rows xs → find p xs ≡ Some z → Each (λ v. p v ≡ true → v ≡ z) xs
    only_one [] z h e = absurd cc
    only_one (a ∷ more) z h e = by (p a) refl e (only_one more z h.1)
      where
        by : (b : Bool) → p a ≡ b → cond b (Some a) (find p more) ≡ Some z → (find p more ≡ Some z → Each (λ v. p v ≡ true → v ≡ z) more) → Each (λ v. p v ≡ true → v ≡ z) (a ∷ more)
        by true is f later =
            let same : a ≡ z = cc in (
              λ _. same,
              each_told (λ v. attribute_cmp rows a v ≡ Less) (λ v. p v ≡ true → v ≡ z) more
                  (λ v less k. absurd (names_apart rows a v less ((name_parts a is).0 ∙ sym (name_parts v k).0) ((name_parts a is).1 ∙ sym (name_parts v k).1))) h.0,
            )
        by false is f later = (λ k. absurd (false≢true (sym is ∙ k)), later f)

    -- none of the members has the name, where none in order has it
    abbrev Fails : ℕ → Type 0
    Fails z = p z ≡ false

    fails_put : (a : ℕ) (ys : List ℕ) → Each Fails (put_in rows a ys) → Fails a × Each Fails ys
    fails_put a [] h = (h.0, tt)
    fails_put a (b ∷ more) h = go (attribute_cmp rows a b) refl (fails_put a more) h
      where
        go : (o : Ordering) → attribute_cmp rows a b ≡ o → (Each Fails (put_in rows a more) → Fails a × Each Fails more) → Each Fails (placed o a b more (put_in rows a more))
            → Fails a × Each Fails (b ∷ more)
        go Less e more_h k = (k.0, (k.1.0, k.1.1))
        go Equal e more_h k =
            let same : (uri a, local a) ≡ (uri b, local b) = key_same (uri a, local a) (uri b, local b) e in
            (k.0, (ap (λ (n : List ℕ × List ℕ). bytes_eq n.0 [] && bytes_eq n.1 name) (sym same) ∙ k.0, k.1))
        go Greater e more_h k = let r = more_h k.1 in (r.0, (k.0, r.1))

    fails_ordered : (ys : List ℕ) → Each Fails (in_order rows ys) → Each Fails ys
    fails_ordered [] h = tt
    fails_ordered (a ∷ more) h = let r = fails_put a (in_order rows more) h in (r.0, fails_ordered more r.1)

module _ (rows : List RowOf) (w : IsWellShaped rows) (written : AreWrittenSo rows) (named : IsNamed rows) (set : ℕ → Bool) (rule : Rule) (y : ℕ)
    (lt : y < length rows) (element : kind_of rows y ≡ kinds.Element) (member : (z : ℕ) → IsAttributeOf rows y z → set z ≡ true) where
  abbrev joined : Option (ℕ × List ℕ)
  joined = joined_base rows set rule y

  abbrev values : List ℕ
  values = written_attributes rows set rule joined y

  pub values_own : have_own_names (map (named_value_at rows joined) values) ≡ true
  values_own = names_own rows joined values (written_ascends rows w written named y lt element set rule joined)

  own_ascends : Ascends rows (attribute_rows rows y)
  own_ascends = subst (Ascends rows) (filter_all (attribute_rows rows y)) (written_ascends rows w written named y lt element (λ z. true) (exclusive []) None)

  may_write : Each (MayWrite rows y) values
  may_write = written_each rows w set rule (MayWrite rows y) y (λ z k. (k.0, inl k.1)) (λ z k. (k.0, inr k.1))

  at_own : (P : ℕ → Type 0) (z : ℕ) → IsAttributeOf rows y z → Each P (attribute_rows rows y) → P z
  at_own P z h each =
      let some : z ≢ 0 = λ e. absurd (let root : kinds.Attribute ≡ kinds.Root = sym h.0.1 ∙ ap (kind_of rows) e ∙ w.root_kind in cc) in
      let size = w.some in
      let there = h.0.0 in
      each_at P (is_attribute_of rows y) 1 (length rows - 1) z (omega (arith, some)) (omega (arith, size, there))
      (and_from (is_attribute (kind_of rows z)) (eqb (parent_of rows z) y) (ap is_attribute h.0.1) (eq-eqb (parent_of rows z) y h.1)) each

  module _ (name : List ℕ) where
    abbrev q : ℕ → Bool
    q z = is_attribute_named rows name z

    own_row : (z : ℕ) → q z ≡ true → MayWrite rows y z → IsAttributeOf rows y z
    own_row z e m = by m.1
      where
        by : (parent_of rows z ≡ y) ⊎ (is_xml rows z ≡ true) → IsAttributeOf rows y z
        by (inl up) = (m.0, up)
        by (inr xml) = absurd (false≢true (sym (not_xml rows name z e) ∙ xml))

    kept : (z : ℕ) → IsAttributeOf rows y z → q z ≡ true → Each (Fails rows name) values → ⊥
    kept z h e fails = false≢true (sym (by (imports_attributes rows set rule y) fails) ∙ e)
      where
        own : is_own rows set joined z ≡ true
        own = and_from (set z) (not (is_some joined && is_base rows z)) (member z h) (go (is_some joined) (is_base rows z) (not_base rows name z e))
          where
            go : (a b : Bool) → b ≡ false → not (a && b) ≡ true
            go true true f = sym f
            go true false f = refl
            go false b f = refl

        by : (b : Bool)
            → Each (Fails rows name) (if b then in_order rows (filter (is_own rows set joined) (attribute_rows rows y) ++ imported rows rule y ++ base_place joined) else filter set (attribute_rows rows y))
            → q z ≡ false
        by true k =
            let mine = each_left (Fails rows name) (filter (is_own rows set joined) (attribute_rows rows y)) (imported rows rule y)
            (each_left (Fails rows name) (filter (is_own rows set joined) (attribute_rows rows y) ++ imported rows rule y) (base_place joined) (fails_ordered rows name _ k)) in
            at_own (λ v. is_own rows set joined v ≡ true → Fails rows name v) z h (each_unfiltered (Fails rows name) (is_own rows set joined) (attribute_rows rows y) mine) own
        by false k = at_own (λ v. set v ≡ true → Fails rows name v) z h (each_unfiltered (Fails rows name) set (attribute_rows rows y) k) (member z h)

    pub values_are : value_named name (map named_entry (map (named_value_at rows joined) values)) ≡ attribute rows y name
    values_are = named_found rows name joined values ∙ by (find q values) (find q (attribute_rows rows y)) refl refl
      where
        by : (o u : Option ℕ) → find q values ≡ o → find q (attribute_rows rows y) ≡ u → option_map (written_value rows joined) o ≡ option_map (value_at rows) u
        by None None e f = refl
        by None (Some v) e f =
            let g = find_some (IsAttributeOf rows y) q (attribute_rows rows y) v (each_attribute rows w y) f in
            absurd (kept v g.1 g.0 (find_none q values e))
        by (Some z) None e f =
            let g = find_some (MayWrite rows y) q values z may_write e in
            absurd (false≢true (sym (at_own (Fails rows name) z (own_row z g.0 g.1) (find_none q (attribute_rows rows y) f)) ∙ g.0))
        by (Some z) (Some v) e f =
            let g = find_some (MayWrite rows y) q values z may_write e in
            let same : z ≡ v = at_own (λ k. q k ≡ true → k ≡ v) z (own_row z g.0 g.1) (only_one rows name (attribute_rows rows y) v own_ascends f) g.0 in
            ap (λ (u : List ℕ). Some u) (value_is rows name joined z g.0 ∙ ap (value_at rows) same)
