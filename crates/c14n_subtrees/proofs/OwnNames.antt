-- No tag of the tree has a name twice.
use Rattle.std.proofs.Common.{◌≡◌, ◌≢◌, ℕ, zero, suc, ◌+◌, ◌-◌, ◌<◌, ◌≤◌, Bool, true, false, cond, not, ◌&&◌, ◌||◌, ◌⊎◌, eqb, List, [], ◌∷◌, ◌++◌, length, map, Option, Some, None, option_map, refl, sym, ap, ap₂, subst, ◌∙◌, arith, inl, inr}
use Rattle.std.specs.Prelude.{codes, if◌then◌else◌}
use Rattle.std.specs.List.{flat_map, filter, find, range_with_len}
use Rattle.std.specs.Str.{bytes_eq}
use Rattle.std.specs.Cmp.{IsTotalOrder}
use Rattle.std.specs.Cmp.Lexicographic.{slice_cmp}
use Rattle.std.specs.Ordering.{nat_cmp, ordering_then}
use Rattle.std.specs.declared.cmp.Ordering.TheVariants.{Less, Equal}
use Rattle.std.proofs.lemmas.Bool.{false≢true, and_parts, and_from, eqb-true}
use Rattle.std.proofs.lemmas.Cmp.{nat_list_cmp_total, on_total, then_total, tied_itself}
use Rattle.std.proofs.lemmas.Slice.Eq.{bytes_eq-Decides}
use Rattle.sig_base.proofs.MethodLemmas.{differ}
use Rattle.xml_names.specs.Names.{qname_of}
use Rattle.xml_names.specs.Scopes.{is_empty, xml_name, xmlns_name, begins_with_scheme, declared_fault}
use Rattle.xml_names.specs.declared.scope.ScopeFault.{ScopeFault}
use Rattle.xml_names.specs.declared.scope.ScopeFault.TheVariants.{ReservedPrefix, EmptyPrefixed, RelativeNamespace}
use Rattle.xml_doc.specs.declared.row.Kind.{Kind}
use Rattle.xml_doc.specs.declared.row.Kind.TheVariants as kinds
use Rattle.xml_doc.specs.Kinds.{is_namespace, is_attribute, is_field}
use Rattle.xml_doc.specs.Rows.{RowOf}
use Rattle.xml_doc.specs.Shape.{row_at, IsWellShaped}
use Rattle.xml_doc.specs.Fields.{namespace_rows, attribute_rows, is_namespace_of, is_attribute_of}
use Rattle.xml_doc.proofs.FieldLemmas.{namespace_is}
use Rattle.xml_syntax.specs.Tree.{Attribute}
use Rattle.xml_syntax.specs.Grammar.{has_name, are_apart}
use Rattle.xml_resolve.specs.Resolve.{is_declaration, attribute_uri}
use Rattle.c14n_text.specs.Escapes.{qname}
use Rattle.c14n_text.specs.Rows.{kind_of, parent_of}
use Rattle.c14n_text.specs.Namespaces.{Rule, is_default, is_written, undeclares}
use Rattle.c14n_text.specs.Attributes.{is_xml, imported, attribute_cmp, in_order, imports_attributes}
use Rattle.c14n_text.specs.Bases.{joined_base, base_place, is_own, written_attributes}
use Rattle.c14n_text.proofs.ChoiceLemmas.{Ascending, in_order-ascends}
use Rattle.c14n_subtrees.specs.Subtree.{declaration_name, undeclared, declared, declarations, attribute_at, tag_at}
use Rattle.c14n_subtrees.specs.Spelled.{HaveOwnNames}
use Rattle.c14n_subtrees.specs.Rendered.{has_prefix_of, bound_at}
use Rattle.c14n_subtrees.specs.Named.{IsWrittenSo, AreWrittenSo, IsNamed, DeclaresPrefix}
use Rattle.c14n_subtrees.proofs.Lists.{Each, each_passing, each_filter, each_told, find_some, any_false}
use Rattle.c14n_subtrees.proofs.Prefixes.{IsOf, each_of, between_parent, unique}
use Rattle.c14n_subtrees.proofs.Shown.{written_parts, undeclared_parts}
use Rattle.c14n_subtrees.proofs.Written.{IsAttributeRow, IsAttributeOf, IsXmlRow, MayWrite, attribute_kind, written_each}
use Rattle.c14n_subtrees.proofs.Declarations.{default_declared}

-- ---- lists of attributes

-- none has this name
abbrev NoneNamed : List ℕ → List Attribute → Type 0
NoneNamed n [] = Unit {0}
NoneNamed n (v ∷ vs) = (n ≢ v.name) × NoneNamed n vs

-- no two have one name
abbrev AreDistinct : List Attribute → Type 0
AreDistinct [] = Unit {0}
AreDistinct (v ∷ vs) = NoneNamed v.name vs × AreDistinct vs

-- none has the name of one of the others
abbrev AreOthers : List Attribute → List Attribute → Type 0
AreOthers [] us = Unit {0}
AreOthers (v ∷ vs) us = NoneNamed v.name us × AreOthers vs us

none_has : (n : List ℕ) (vs : List Attribute) → NoneNamed n vs → has_name n vs ≡ false
none_has n [] h = refl
none_has n (v ∷ vs) h = ap (λ (b : Bool). cond b true (has_name n vs)) (differ n v.name h.0) ∙ none_has n vs h.1

distinct_apart : (vs : List Attribute) → AreDistinct vs → are_apart vs ≡ true
distinct_apart [] h = refl
distinct_apart (v ∷ vs) h = ap (λ (b : Bool). cond b false (are_apart vs)) (none_has v.name vs h.0) ∙ distinct_apart vs h.1

none_both : (n : List ℕ) (vs us : List Attribute) → NoneNamed n vs → NoneNamed n us → NoneNamed n (vs ++ us)
none_both n [] us h k = k
none_both n (v ∷ vs) us h k = (h.0, none_both n vs us h.1 k)

distinct_both : (vs us : List Attribute) → AreDistinct vs → AreDistinct us → AreOthers vs us → AreDistinct (vs ++ us)
distinct_both [] us h k o = k
distinct_both (v ∷ vs) us h k o = (none_both v.name vs us h.0 o.0, distinct_both vs us h.1 k o.1)

others_both : (vs ws us : List Attribute) → AreOthers vs us → AreOthers ws us → AreOthers (vs ++ ws) us
others_both [] ws us h k = k
others_both (v ∷ vs) ws us h k = (h.0, others_both vs ws us h.1 k)

same_declaration : (p q : List ℕ) → declaration_name p ≡ declaration_name q → p ≡ q
same_declaration [] [] e = refl
same_declaration [] (d ∷ q) e = absurd cc
same_declaration (c ∷ p) [] e = absurd cc
same_declaration (c ∷ p) (d ∷ q) e = cc

-- no other prefix than `xml` may have its name
reserved : (p : List ℕ) → bytes_eq p (codes "xml") ≡ false → declared_fault p xml_name ≡ None → ⊥
unfolding declared_fault
reserved p other e =
    let none : ◌≡◌ {A = Option ScopeFault} (Some ReservedPrefix) None =
    sym (ap (λ (b : Bool). cond b (Some ReservedPrefix) (cond (not (is_empty p) && is_empty xml_name) (Some EmptyPrefixed)
    (cond (not (is_empty xml_name) && not (begins_with_scheme xml_name)) (Some RelativeNamespace) None))) (by (bytes_eq p (codes "xmlns")) (bytes_eq p (codes "xml")) other)) ∙ e in
    absurd cc
  where
    by : (a b : Bool) → b ≡ false → (a || ((if b then not (bytes_eq xml_name xml_name) else bytes_eq xml_name xml_name) || bytes_eq xml_name xmlns_name)) ≡ true
    by true b f = refl
    by false false f = refl
    by false true f = absurd (false≢true (sym f))

less_equal : Less ≡ Equal → ⊥
less_equal e = cc

-- ---- attributes in order

module _ (rows : List RowOf) where
  -- each goes behind the one before it
  abbrev pub Ascends : List ℕ → Type 0
  Ascends [] = Unit {0}
  Ascends (a ∷ more) = Each (λ z. attribute_cmp rows a z ≡ Less) more × Ascends more

  behind_first : (a : ℕ) (s : List ℕ) → Ascending rows (a ∷ s) → Each (λ z. attribute_cmp rows a z ≡ Less) s
  behind_first a [] h = tt
  behind_first a (b ∷ s) h = (h.0.0, behind_first a s (h.0.1, h.1.1))

  ascends_of : (s : List ℕ) → Ascending rows s → Ascends s
  ascends_of [] h = tt
  ascends_of (a ∷ s) h = (behind_first a s h, ascends_of s h.1)

  ascends_filtered : (q : ℕ → Bool) (s : List ℕ) → Ascends s → Ascends (filter q s)
  ascends_filtered q [] h = tt
  ascends_filtered q (a ∷ s) h = go (q a) (ascends_filtered q s h.1)
    where
      go : (b : Bool) → Ascends (filter q s) → Ascends (cond b (a ∷ filter q s) (filter q s))
      go true more = (each_filter (λ z. attribute_cmp rows a z ≡ Less) q s h.0, more)
      go false more = more

  total : IsTotalOrder (attribute_cmp rows)
  total = then_total (on_total (λ a. (row_at rows a).uri) nat_list_cmp_total) (on_total (λ a. (row_at rows a).local_name) nat_list_cmp_total)

  -- attributes that stand apart differ in their namespace name or their local name
  pub names_apart : (a b : ℕ) → attribute_cmp rows a b ≡ Less → (row_at rows a).uri ≡ (row_at rows b).uri → (row_at rows a).local_name ≡ (row_at rows b).local_name → ⊥
  names_apart a b less u v =
      let equal : attribute_cmp rows a b ≡ Equal =
      ap₂ (λ (m n : List ℕ). ordering_then (slice_cmp nat_cmp (row_at rows a).uri m) (slice_cmp nat_cmp (row_at rows a).local_name n)) (sym u) (sym v)
      ∙ ap₂ ordering_then (tied_itself nat_list_cmp_total (row_at rows a).uri) (tied_itself nat_list_cmp_total (row_at rows a).local_name) in
      less_equal (sym less ∙ equal)

  module _ (w : IsWellShaped rows) (x : ℕ) where
    -- between two attributes of an element stand only attributes of it
    between : (i j k : ℕ) → IsAttributeOf rows x i → IsAttributeOf rows x k → i < j → j < k → IsAttributeOf rows x j
    between i j k h g after before =
        let lt = g.0.0 in
        let field : is_field (kind_of rows k) ≡ true = ap is_field g.0.1 in
        let some : i ≢ 0 = λ z. absurd (let no : kinds.Attribute ≡ kinds.Root = sym h.0.1 ∙ ap (kind_of rows) z ∙ w.root_kind in cc) in
        let above = w.nesting.parent_before i (omega (arith, some)) h.0.0 in
        let up = h.1 in
        let of = g.1 in
        let parent = between_parent rows w x k j lt field of (omega arith) before in
        ((omega arith, by (kind_of rows j) refl (w.fields.fields_first k j lt field (omega arith) before) (omega arith) (omega arith) after), parent)
      where
        by : (kind : Kind) → kind_of rows j ≡ kind → is_field kind ≡ true → j < length rows → parent_of rows j < i → i < j → kind ≡ kinds.Attribute
        by kinds.Attribute e is lt gt after = refl
        by kinds.Namespace e is lt gt after = absurd (let no : kinds.Attribute ≡ kinds.Namespace = sym h.0.1 ∙ w.fields.namespaces_first j i lt e gt after in cc)
        by kinds.Root e is lt gt after = absurd (false≢true is)
        by kinds.Element e is lt gt after = absurd (false≢true is)
        by kinds.Text e is lt gt after = absurd (false≢true is)
        by kinds.Comment e is lt gt after = absurd (false≢true is)
        by kinds.Instruction e is lt gt after = absurd (false≢true is)

    rising_one : (i k : ℕ) → i + 1 ≡ k → IsAttributeOf rows x i → IsAttributeOf rows x k → attribute_cmp rows i k ≡ Less
    rising_one i k next h g =
        let within = g.0.0 in
        let P : ℕ → Type 0 = λ m. attribute_cmp rows i m ≡ Less in
        subst P next (w.fields.attribute_order i (omega arith) h.0.1 (ap (kind_of rows) next ∙ g.0.1) (h.1 ∙ sym g.1 ∙ ap (parent_of rows) (sym next)))

    rising : (n i k : ℕ) → k ≡ i + n + 1 → IsAttributeOf rows x i → IsAttributeOf rows x k → attribute_cmp rows i k ≡ Less
    rising zero i k e h g = rising_one i k (omega arith) h g
    rising (suc n) i k e h g =
        let m = between i (i + n + 1) k h g (omega arith) (omega arith) in
        total.trans i (i + n + 1) k (rising n i (i + n + 1) refl h m) (rising_one (i + n + 1) k (omega arith) m g)

    of_attribute : (j : ℕ) → j < length rows → is_attribute_of rows x j ≡ true → IsAttributeOf rows x j
    of_attribute j lt e =
        let p = and_parts (is_attribute (kind_of rows j)) (eqb (parent_of rows j) x) e in
        ((lt, attribute_kind (kind_of rows j) p.0), eqb-true (parent_of rows j) x p.1)

    range_ascends : (n a : ℕ) → a + n ≤ length rows → Ascends (filter (is_attribute_of rows x) (range_with_len a n))
    range_ascends zero a le = tt
    range_ascends (suc n) a le = go (is_attribute_of rows x a) refl (range_ascends n (a + 1) (omega arith))
      where
        rest : List ℕ
        rest = filter (is_attribute_of rows x) (range_with_len (a + 1) n)

        go : (b : Bool) → is_attribute_of rows x a ≡ b → Ascends rest → Ascends (cond b (a ∷ rest) rest)
        go true here more = (
          each_passing (λ z. attribute_cmp rows a z ≡ Less) (is_attribute_of rows x) (a + 1) n
              (λ j ge lt passes. rising (j - a - 1) a j (omega arith) (of_attribute a (omega arith) here) (of_attribute j (omega arith) passes)),
          more,
        )
        go false here more = more

    own_ascends : Ascends (attribute_rows rows x)
    own_ascends = let some = w.some in range_ascends (length rows - 1) 1 (omega arith)

module _ (rows : List RowOf) (w : IsWellShaped rows) (written : AreWrittenSo rows) (named : IsNamed rows) where
  abbrev local : ℕ → List ℕ
  local z = (row_at rows z).local_name

  abbrev prefix : ℕ → List ℕ
  prefix z = (row_at rows z).prefix_text

  abbrev uri : ℕ → List ℕ
  uri z = (row_at rows z).uri

  abbrev name : ℕ → List ℕ
  name z = qname (prefix z) (local z)

  pub namespace_written : (x z : ℕ) → IsOf rows w x z → IsWrittenSo (row_at rows z) kinds.Namespace
  namespace_written x z h = subst (IsWrittenSo (row_at rows z)) h.kind (written z h.within)

  pub attribute_written : (z : ℕ) → IsAttributeRow rows z → IsWrittenSo (row_at rows z) kinds.Attribute
  attribute_written z h = subst (IsWrittenSo (row_at rows z)) h.1 (written z h.0)

  -- no attribute is a declaration
  no_declaration : (p : List ℕ) (z : ℕ) → DeclaresPrefix p → IsAttributeRow rows z → declaration_name p ≢ name z
  no_declaration p z d h e =
      let s = attribute_written z h in
      let same : ◌≡◌ {A = Option (List ℕ × List ℕ)} (Some d.parts) (Some (prefix z, local z)) = sym d.split ∙ ap qname_of e ∙ s.0 in
      let parts : d.parts ≡ (prefix z, local z) = cc in
      false≢true (sym s.1 ∙ ap is_declaration (sym parts) ∙ d.declares)

  -- ---- namespace names

  found_row : (x : ℕ) (p v : List ℕ) → bound_at rows x p ≡ Some v → (z : ℕ) × IsOf rows w x z × (local z ≡ p) × ((row_at rows z).value ≡ v)
  found_row x p v e = by (find (has_prefix_of rows p) (namespace_rows rows x)) refl e
    where
      by : (o : Option ℕ) → find (has_prefix_of rows p) (namespace_rows rows x) ≡ o → option_map (λ z. (row_at rows z).value) o ≡ Some v
          → (z : ℕ) × IsOf rows w x z × (local z ≡ p) × ((row_at rows z).value ≡ v)
      by None f g = absurd cc
      by (Some z) f g =
          let h = find_some (IsOf rows w x) (has_prefix_of rows p) (namespace_rows rows x) z (each_of rows w x) f in
          (z, h.1, (bytes_eq-Decides (local z) p).0 h.0, cc)

  -- a prefix that has the name of `xml` is `xml`
  only_xml : (x : ℕ) (p : List ℕ) → bound_at rows x p ≡ Some xml_name → p ≡ codes "xml"
  only_xml x p e = by (bytes_eq p (codes "xml")) refl
    where
      by : (b : Bool) → bytes_eq p (codes "xml") ≡ b → p ≡ codes "xml"
      by true f = (bytes_eq-Decides p (codes "xml")).0 f
      by false f =
          let r = found_row x p xml_name e in
          let s = namespace_written x r.0 r.1 in
          absurd (reserved p f (sym (ap₂ declared_fault r.2 r.3) ∙ s.1 (ap (λ (q : List ℕ). bytes_eq q (codes "xml")) r.2 ∙ f)))

  -- and `xml` has its own name
  pub xml_named : (x : ℕ) (v : List ℕ) → x < length rows → kind_of rows x ≡ kinds.Element → bound_at rows x (codes "xml") ≡ Some v → v ≡ xml_name
  xml_named x v lt kind e =
      let r = found_row x (codes "xml") v e in
      let k = w.namespaces.xml_bound x lt kind in
      let some : k.0 ≢ 0 = λ z. absurd (let no : kinds.Namespace ≡ kinds.Root = sym k.2 ∙ ap (kind_of rows) z ∙ w.root_kind in cc) in
      let is : IsOf rows w x k.0 = record { behind = omega (arith, some); within = k.1; kind = k.2; parent = k.3 } in
      let same : r.0 ≡ k.0 = unique rows w x r.0 k.0 r.1 is (r.2 ∙ sym k.4) in
      sym r.3 ∙ ap (λ (z : ℕ). (row_at rows z).value) same ∙ k.5

  pub attribute_named : (z : ℕ) → IsAttributeRow rows z → attribute_uri (bound_at rows (parent_of rows z)) (prefix z) ≡ Some (uri z)
  attribute_named z h = named.attributes z h.0 h.1

  -- the prefix of an attribute of the namespace of `xml`
  pub xml_prefix : (z : ℕ) → IsXmlRow rows z → prefix z ≡ codes "xml"
  xml_prefix z h = by (is_empty (prefix z)) refl
    where
      is : uri z ≡ xml_name
      is = (bytes_eq-Decides (uri z) xml_name).0 h.1

      by : (b : Bool) → is_empty (prefix z) ≡ b → prefix z ≡ codes "xml"
      by true e =
          let none : ◌≡◌ {A = Option (List ℕ)} (Some []) (Some xml_name) =
          sym (ap (λ (b : Bool). cond b (Some []) (bound_at rows (parent_of rows z) (prefix z))) e) ∙ attribute_named z h.0 ∙ ap (λ (u : List ℕ). Some u) is in
          absurd cc
      by false e =
          only_xml (parent_of rows z) (prefix z)
          (sym (ap (λ (b : Bool). cond b (Some []) (bound_at rows (parent_of rows z) (prefix z))) e) ∙ attribute_named z h.0 ∙ ap (λ (u : List ℕ). Some u) is)

  module _ (x : ℕ) (there : x < length rows) (element : kind_of rows x ≡ kinds.Element) where
    own_named : (z : ℕ) → IsAttributeRow rows z → parent_of rows z ≡ x → attribute_uri (bound_at rows x) (prefix z) ≡ Some (uri z)
    own_named z h up = ap (λ (e : ℕ). attribute_uri (bound_at rows e) (prefix z)) (sym up) ∙ attribute_named z h

    -- one of its own with the prefix of another of the namespace of `xml`
    own_xml : (a b : ℕ) → IsAttributeRow rows a → parent_of rows a ≡ x → IsXmlRow rows b → prefix a ≡ prefix b → uri a ≡ uri b
    own_xml a b h up k same =
        let p : prefix a ≡ codes "xml" = same ∙ xml_prefix b k in
        xml_named x (uri a) there element (ap (attribute_uri (bound_at rows x)) (sym p) ∙ own_named a h up) ∙ sym ((bytes_eq-Decides (uri b) xml_name).0 k.1)

    same_uri : (a b : ℕ) → MayWrite rows x a → MayWrite rows x b → prefix a ≡ prefix b → uri a ≡ uri b
    same_uri a b h k same = by h.1 k.1
      where
        by : (parent_of rows a ≡ x) ⊎ (is_xml rows a ≡ true) → (parent_of rows b ≡ x) ⊎ (is_xml rows b ≡ true) → uri a ≡ uri b
        by (inl up) (inl down) =
            let e : ◌≡◌ {A = Option (List ℕ)} (Some (uri a)) (Some (uri b)) = sym (own_named a h.0 up) ∙ ap (attribute_uri (bound_at rows x)) same ∙ own_named b k.0 down in
            cc
        by (inl up) (inr is) = own_xml a b h.0 up (k.0, is) same
        by (inr is) (inl up) = sym (own_xml b a k.0 up (h.0, is) (sym same))
        by (inr is) (inr also) = (bytes_eq-Decides (uri a) xml_name).0 is ∙ sym ((bytes_eq-Decides (uri b) xml_name).0 also)

    -- two attributes that stand apart have different names
    names_differ : (a b : ℕ) → MayWrite rows x a → MayWrite rows x b → attribute_cmp rows a b ≡ Less → name a ≢ name b
    names_differ a b h k less e =
        let s = attribute_written a h.0 in
        let t = attribute_written b k.0 in
        let parts : ◌≡◌ {A = Option (List ℕ × List ℕ)} (Some (prefix a, local a)) (Some (prefix b, local b)) = sym s.0 ∙ ap qname_of e ∙ t.0 in
        let pair : (prefix a, local a) ≡ (prefix b, local b) = cc in
        let u = same_uri a b h k (ap (λ (q : List ℕ × List ℕ). q.0) pair) in
        let v = ap (λ (q : List ℕ × List ℕ). q.1) pair in
        names_apart rows a b less u v

    -- ---- the attributes that are no declarations

    none_alike : (joined : Option (ℕ × List ℕ)) (a : ℕ) (zs : List ℕ) → MayWrite rows x a → Each (MayWrite rows x) zs → Each (λ z. attribute_cmp rows a z ≡ Less) zs
        → NoneNamed (name a) (map (attribute_at rows joined) zs)
    none_alike joined a [] h k less = tt
    none_alike joined a (z ∷ zs) h k less = (names_differ a z h k.0 less.0, none_alike joined a zs h k.1 less.1)

    attributes_distinct : (joined : Option (ℕ × List ℕ)) (zs : List ℕ) → Each (MayWrite rows x) zs → Ascends rows zs → AreDistinct (map (attribute_at rows joined) zs)
    attributes_distinct joined [] h asc = tt
    attributes_distinct joined (z ∷ zs) h asc = (none_alike joined z zs h.0 h.1 asc.0, attributes_distinct joined zs h.1 asc.1)

    none_declaring : (joined : Option (ℕ × List ℕ)) (p : List ℕ) (zs : List ℕ) → DeclaresPrefix p → Each (MayWrite rows x) zs
        → NoneNamed (declaration_name p) (map (attribute_at rows joined) zs)
    none_declaring joined p [] d h = tt
    none_declaring joined p (z ∷ zs) d h = (no_declaration p z d h.0.0, none_declaring joined p zs d h.1)

    module _ (set : ℕ → Bool) (rule : Rule) where
      -- ---- the declarations

      none_declared : (n : List ℕ) (ys : List ℕ) → Each (λ z. is_written rows set rule x z ≡ true → n ≢ declaration_name (local z)) ys
          → NoneNamed n (flat_map (declared rows set rule x) ys)
      none_declared n [] h = tt
      none_declared n (y ∷ ys) h = by (is_written rows set rule x y) refl (none_declared n ys h.1)
        where
          by : (b : Bool) → is_written rows set rule x y ≡ b → NoneNamed n (flat_map (declared rows set rule x) ys)
              → NoneNamed n ((if b then record { name = declaration_name (local y); value = (row_at rows y).value } ∷ [] else []) ++ flat_map (declared rows set rule x) ys)
          by true is more = (h.0 is, more)
          by false is more = more

      of_passing : (j : ℕ) → 1 ≤ j → j < length rows → is_namespace_of rows x j ≡ true → IsOf rows w x j
      of_passing j pos lt e =
          let p = and_parts (is_namespace (kind_of rows j)) (eqb (parent_of rows j) x) e in
          record { behind = omega arith; within = lt; kind = namespace_is (kind_of rows j) p.0; parent = eqb-true (parent_of rows j) x p.1 }

      -- the namespace rows from one on
      abbrev names_from : ℕ → ℕ → List ℕ
      names_from a n = filter (is_namespace_of rows x) (range_with_len a n)

      other_prefixes : (a n : ℕ) → 1 ≤ a → a + 1 + n ≤ length rows → is_namespace_of rows x a ≡ true
          → Each (λ z. is_written rows set rule x z ≡ true → declaration_name (local a) ≢ declaration_name (local z)) (names_from (a + 1) n)
      other_prefixes a n pos le here =
          each_passing (λ z. is_written rows set rule x z ≡ true → declaration_name (local a) ≢ declaration_name (local z)) (is_namespace_of rows x) (a + 1) n
          (λ j ge lt passes _ e.
          let same : a ≡ j = unique rows w x a j (of_passing a pos (omega arith) here) (of_passing j (omega arith) (omega arith) passes) (same_declaration (local a) (local j) e) in
          omega arith)

      declared_distinct : (n a : ℕ) → 1 ≤ a → a + n ≤ length rows → AreDistinct (flat_map (declared rows set rule x) (names_from a n))
      declared_distinct zero a pos le = tt
      declared_distinct (suc n) a pos le = go (is_namespace_of rows x a) refl (declared_distinct n (a + 1) (omega arith) (omega arith))
        where
          rest : List ℕ
          rest = names_from (a + 1) n

          by : (b : Bool) → is_namespace_of rows x a ≡ true → AreDistinct (flat_map (declared rows set rule x) rest)
              → AreDistinct ((if b then record { name = declaration_name (local a); value = (row_at rows a).value } ∷ [] else []) ++ flat_map (declared rows set rule x) rest)
          by true here more = (none_declared (declaration_name (local a)) rest (other_prefixes a n pos (omega arith) here), more)
          by false here more = more

          go : (b : Bool) → is_namespace_of rows x a ≡ b → AreDistinct (flat_map (declared rows set rule x) rest)
              → AreDistinct (flat_map (declared rows set rule x) (cond b (a ∷ rest) rest))
          go true here more = by (is_written rows set rule x a) here more
          go false here more = more

      -- `xmlns=""` is no other declaration
      undeclared_alone : undeclares rows set rule x ≡ true → NoneNamed (codes "xmlns") (flat_map (declared rows set rule x) (namespace_rows rows x))
      undeclared_alone e =
          none_declared (codes "xmlns") (namespace_rows rows x)
          (each_told (λ z. is_default rows set z ≡ false) (λ z. is_written rows set rule x z ≡ true → codes "xmlns" ≢ declaration_name (local z)) (namespace_rows rows x)
          (λ z no is same.
          let default : bytes_eq (local z) [] ≡ true = (bytes_eq-Decides (local z) []).1 (sym (same_declaration [] (local z) same)) in
          false≢true (sym no ∙ and_from (set z) (bytes_eq (local z) []) (written_parts rows set rule x z is).member default))
          (any_false (is_default rows set) (namespace_rows rows x) (undeclared_parts rows set rule x e).no_default))

      declarations_distinct : AreDistinct (declarations rows set rule x)
      declarations_distinct = by (undeclares rows set rule x) refl
        where
          some : 0 < length rows
          some = w.some

          more : AreDistinct (flat_map (declared rows set rule x) (namespace_rows rows x))
          more = declared_distinct (length rows - 1) 1 (omega arith) (omega (arith, some))

          by : (b : Bool) → undeclares rows set rule x ≡ b → AreDistinct ((if b then record { name = codes "xmlns"; value = [] } ∷ [] else []) ++ flat_map (declared rows set rule x) (namespace_rows rows x))
          by true e = (undeclared_alone e, more)
          by false e = more

      -- ---- the tag

      declared_others : (joined : Option (ℕ × List ℕ)) (zs ys : List ℕ) → Each (MayWrite rows x) zs → Each (IsOf rows w x) ys
          → AreOthers (flat_map (declared rows set rule x) ys) (map (attribute_at rows joined) zs)
      declared_others joined zs [] h k = tt
      declared_others joined zs (y ∷ ys) h k =
          others_both (declared rows set rule x y) (flat_map (declared rows set rule x) ys) (map (attribute_at rows joined) zs) (by (is_written rows set rule x y)) (declared_others joined zs ys h k.1)
        where
          by : (b : Bool) → AreOthers (if b then record { name = declaration_name (local y); value = (row_at rows y).value } ∷ [] else []) (map (attribute_at rows joined) zs)
          by true = (none_declaring joined (local y) zs (namespace_written x y k.0).0 h, tt)
          by false = tt

      declarations_others : (joined : Option (ℕ × List ℕ)) (zs : List ℕ) → Each (MayWrite rows x) zs → AreOthers (declarations rows set rule x) (map (attribute_at rows joined) zs)
      declarations_others joined zs h =
          others_both (undeclared rows set rule x) (flat_map (declared rows set rule x) (namespace_rows rows x)) (map (attribute_at rows joined) zs)
          (by (undeclares rows set rule x)) (declared_others joined zs (namespace_rows rows x) h (each_of rows w x))
        where
          by : (b : Bool) → AreOthers (if b then record { name = codes "xmlns"; value = [] } ∷ [] else []) (map (attribute_at rows joined) zs)
          by true = (none_declaring joined [] zs default_declared h, tt)
          by false = tt

      pub written_ascends : (joined : Option (ℕ × List ℕ)) → Ascends rows (written_attributes rows set rule joined x)
      written_ascends joined = by (imports_attributes rows set rule x)
        where
          by : (b : Bool) → Ascends rows (if b then in_order rows (filter (is_own rows set joined) (attribute_rows rows x) ++ imported rows rule x ++ base_place joined) else filter set (attribute_rows rows x))
          by true = ascends_of rows (in_order rows (filter (is_own rows set joined) (attribute_rows rows x) ++ imported rows rule x ++ base_place joined))
              (in_order-ascends rows (filter (is_own rows set joined) (attribute_rows rows x) ++ imported rows rule x ++ base_place joined))
          by false = ascends_filtered rows set (attribute_rows rows x) (own_ascends rows w x)

      tag_apart : are_apart (tag_at rows set rule x).attributes ≡ true
      tag_apart =
          let joined = joined_base rows set rule x in
          let zs = written_attributes rows set rule joined x in
          let each : Each (MayWrite rows x) zs = written_each rows w set rule (MayWrite rows x) x (λ z h. (h.0, inl h.1)) (λ z h. (h.0, inr h.1)) in
          distinct_apart (tag_at rows set rule x).attributes
          (distinct_both (declarations rows set rule x) (map (attribute_at rows joined) zs) declarations_distinct (attributes_distinct joined zs each (written_ascends joined)) (declarations_others joined zs each))

pub own_names : (rule : Rule) (rows : List RowOf) (set : ℕ → Bool) → IsWellShaped rows → AreWrittenSo rows → IsNamed rows → HaveOwnNames rows set rule
own_names rule rows set w written named x there element member = tag_apart rows w written named x there element set rule
