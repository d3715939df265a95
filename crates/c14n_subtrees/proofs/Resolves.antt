-- The tree of an element resolves, with the names of the rows.
use Rattle.std.proofs.Common.{◌≡◌, ◌≢◌, ℕ, zero, suc, ◌+◌, ◌-◌, ◌<◌, ◌≤◌, Bool, true, false, cond, not, ◌&&◌, ◌||◌, ◌⊎◌, eqb, List, [], ◌∷◌, ◌++◌, length, map, Option, Some, None, refl, sym, ap, subst, ◌∙◌, arith, inl, inr}
use Rattle.std.specs.Prelude.{codes, if◌then◌else◌}
use Rattle.std.specs.List.{flat_map, filter, list_any, range_with_len}
use Rattle.std.specs.Str.{bytes_eq}
use Rattle.std.specs.declared.cmp.Ordering.TheVariants.{Less}
use Rattle.std.proofs.lemmas.Bool.{cases_eq, false≢true, and_from, eq-eqb, ne_eqb}
use Rattle.std.proofs.lemmas.Slice.Eq.{bytes_eq-Decides}
use Rattle.sig_base.proofs.OptionLemmas.{some_is, bind_some, cond_some}
use Rattle.sig_base.specs.Options.{◌>>=◌}
use Rattle.xml_names.specs.Names.{qname_of, is_ncname}
use Rattle.xml_names.specs.Scopes.{is_empty, xml_name, undeclared_is_none}
use Rattle.xml_doc.specs.declared.row.Kind.{Kind}
use Rattle.xml_doc.specs.declared.row.Kind.TheVariants as kinds
use Rattle.xml_doc.specs.Kinds.{is_attribute}
use Rattle.xml_doc.specs.Rows.{RowOf}
use Rattle.xml_doc.specs.Shape.{row_at, IsWellShaped}
use Rattle.xml_doc.specs.Fields.{namespace_rows, attribute_rows, is_attribute_of}
use Rattle.xml_syntax.specs.Tree.{Attribute, Tag, Content, nothing, text, text_before, comment, instruction, element}
use Rattle.xml_resolve.specs.Resolve.{Name, NamedValue, NamedTag, Resolved, nothing_in, text_in, comment_in, instruction_in, element_in, Above, found_above, bound_above, is_declaration, declared_by, or_empty, element_name, attribute_uri, named_by, have_same_name, have_own_names, resolve_tag, resolve}
use Rattle.xml_resolve.proofs.BuiltLaws.{element_parts}
use Rattle.node_sets.specs.Members.{in_subtree}
use Rattle.c14n_text.specs.Escapes.{qname}
use Rattle.c14n_text.specs.Rows.{kind_of, parent_of, is_child}
use Rattle.c14n_text.specs.Tree.{children, chain_within}
use Rattle.c14n_text.specs.Namespaces.{Rule, follows_inclusive_rule, has_prefix, visibly_utilizes, renders, is_written, undeclares}
use Rattle.c14n_text.specs.Attributes.{is_xml, attribute_cmp}
use Rattle.c14n_text.specs.Bases.{joined_base, written_attributes, written_value}
use Rattle.c14n_text.proofs.TreeLemmas.{children_of}
use Rattle.c14n_subtrees.specs.Subtree.{declaration_name, declared, declarations, attribute_at, tag_at, node_of, nodes, node_at, subtree}
use Rattle.c14n_subtrees.specs.Rendered.{rendered, rendered_above, bound_at}
use Rattle.c14n_subtrees.specs.Named.{IsWrittenSo, AreWrittenSo, element_uri, IsNamed, DeclaresPrefix}
use Rattle.c14n_subtrees.specs.Resolved.{named_value_at, named_tag_at, text_before_in, resolved_node_of, resolved_nodes, resolved_node_at, resolved_subtree}
use Rattle.c14n_subtrees.proofs.Lists.{Each, each_at, any_false}
use Rattle.c14n_subtrees.proofs.Prefixes.{IsOf, each_of}
use Rattle.c14n_subtrees.proofs.Written.{IsAttributeOf, MayWrite, written_each}
use Rattle.c14n_subtrees.proofs.Rendered.{chain_more, named_right}
use Rattle.c14n_subtrees.proofs.Declarations.{default_declared, declared_is}
use Rattle.c14n_subtrees.proofs.OwnNames.{Ascends, names_apart, attribute_written, namespace_written, attribute_named, xml_named, xml_prefix, written_ascends}
use Rattle.c14n_subtrees.proofs.Alone.{out_below, member_from, down, behind_root}

-- ---- attributes one before the other

-- a declaration is no attribute
named_behind : (bound : List ℕ → Option (List ℕ)) (p uri : List ℕ) (others : List Attribute) → DeclaresPrefix p
    → named_by bound (record { name = declaration_name p; value = uri } ∷ others) ≡ named_by bound others
unfolding named_by
named_behind bound p uri others d = rw (d.split, d.declares) refl

named_first : (bound : List ℕ → Option (List ℕ)) (prefix local uri value : List ℕ) (others : List Attribute) (vs : List NamedValue)
    → qname_of (qname prefix local) ≡ Some (prefix, local) → is_declaration (prefix, local) ≡ false → attribute_uri bound prefix ≡ Some uri → named_by bound others ≡ Some vs
    → named_by bound (record { name = qname prefix local; value = value } ∷ others) ≡ Some (record { name = record { prefix = prefix; local = local; uri = uri }; value = value } ∷ vs)
unfolding named_by
named_first bound prefix local uri value others vs split apart is more = rw (split, apart, is, more) refl

element_first : (bound : List ℕ → Option (List ℕ)) (prefix local uri : List ℕ) → qname_of (qname prefix local) ≡ Some (prefix, local)
    → element_uri bound prefix ≡ Some uri → element_name bound (qname prefix local) ≡ Some (record { prefix = prefix; local = local; uri = uri })
unfolding element_name
element_first bound prefix local uri split is =
    ap (λ (o : Option (List ℕ × List ℕ)). o >>= found) split ∙ by (is_empty prefix) (bound prefix) is
  where
    found : List ℕ × List ℕ → Option Name
    found q = if is_empty q.0 then Some (record { prefix = q.0; local = q.1; uri = or_empty (bound q.0) }) else (bound q.0 >>= λ u. Some (record { prefix = q.0; local = q.1; uri = u }))

    with_uri : List ℕ → Name
    with_uri u = record { prefix = prefix; local = local; uri = u }

    by : (b : Bool) (o : Option (List ℕ)) → cond b (Some (or_empty o)) o ≡ Some uri
        → cond b (Some (with_uri (or_empty o))) (o >>= λ u. Some (with_uri u)) ≡ Some (with_uri uri)
    by true o e = ap (λ (u : List ℕ). Some (with_uri u)) (some_is (or_empty o) uri e)
    by false o e = ap (λ (p : Option (List ℕ)). p >>= λ u. Some (with_uri u)) e

tag_resolves : (above : Above) (tag : Tag) (t : NamedTag) → declared_by tag.attributes ≡ Some t.declared → element_name (bound_above (t.declared ∷ above)) tag.name ≡ Some t.name
    → named_by (bound_above (t.declared ∷ above)) tag.attributes ≡ Some t.attributes → have_own_names t.attributes ≡ true
    → tag.from ≡ t.from → tag.body_from ≡ t.body_from → tag.is_empty ≡ t.is_empty → resolve_tag above tag ≡ Some t
unfolding resolve_tag
tag_resolves above tag t d n v own f b e = rw (d, n, v, own, f, b, e) refl

-- ---- what prefixes are bound to

bound_xml : (above : Above) (p : List ℕ) → bytes_eq p (codes "xml") ≡ true → bound_above above p ≡ Some xml_name
unfolding bound_above
bound_xml above p e = ap (λ (b : Bool). cond b (Some xml_name) (cond (is_empty p) (undeclared_is_none (found_above p above)) (found_above p above))) e

-- ---- texts

-- a text before nodes that begin with no text
stands_before : (above : Above) (c : ℕ) (w : List ℕ) (k : Content) (r q : Resolved) → resolve above k ≡ Some r → q ≡ r
    → text_in (c ∷ w) q ≡ text_before_in (c ∷ w) q → (resolve above k >>= λ m. Some (text_in (c ∷ w) m)) ≡ Some (text_before_in (c ∷ w) r)
stands_before above c w k r q e is before =
    ap (λ (o : Option Resolved). o >>= λ m. Some (text_in (c ∷ w) m)) e
    ∙ subst (λ (m : Resolved). ◌≡◌ {A = Option Resolved} (Some (text_in (c ∷ w) m)) (Some (text_before_in (c ∷ w) m))) is (ap (λ (m : Resolved). Some m) before)

text_resolves : (above : Above) (w : List ℕ) (k : Content) (r : Resolved) → resolve above k ≡ Some r → resolve above (text_before w k) ≡ Some (text_before_in w r)
unfolding resolve
text_resolves above [] k r e = e
text_resolves above (c ∷ w) nothing r e = stands_before above c w nothing r nothing_in e (some_is nothing_in r e) refl
text_resolves above (c ∷ w) (text v k) r e =
    let m = bind_some (resolve above k) _ r e in
    ap (λ (o : Option Resolved). o >>= λ q. Some (text_in ((c ∷ w) ++ v) q)) m.1 ∙ ap (λ (q : Resolved). Some (text_before_in (c ∷ w) q)) (some_is (text_in v m.0) r m.2)
text_resolves above (c ∷ w) (comment v k) r e =
    let m = bind_some (resolve above k) _ r e in
    stands_before above c w (comment v k) r (comment_in v m.0) e (some_is (comment_in v m.0) r m.2) refl
text_resolves above (c ∷ w) (instruction target v k) r e =
    let t = cond_some (is_ncname target) _ r e in
    let m = bind_some (resolve above k) _ r t.1 in
    stands_before above c w (instruction target v k) r (instruction_in target v m.0) e (some_is (instruction_in target v m.0) r m.2) refl
text_resolves above (c ∷ w) (element tag inner until k) r e =
    let p = element_parts above tag inner until k r e in
    stands_before above c w (element tag inner until k) r (element_in p.t p.i until p.m) e p.whole refl

-- ---- nodes one behind the other

comment_resolves : (above : Above) (comments : Bool) (w : List ℕ) (k : Content) (r : Resolved) → resolve above k ≡ Some r
    → resolve above (if comments then comment w k else k) ≡ Some (if comments then comment_in w r else r)
unfolding resolve
comment_resolves above true w k r e = ap (λ (o : Option Resolved). o >>= λ m. Some (comment_in w m)) e
comment_resolves above false w k r e = e

instruction_resolves : (above : Above) (target w : List ℕ) (k : Content) (r : Resolved) → is_ncname target ≡ true → resolve above k ≡ Some r
    → resolve above (instruction target w k) ≡ Some (instruction_in target w r)
unfolding resolve
instruction_resolves above target w k r is e =
    ap (λ (b : Bool). cond b (resolve above k >>= λ m. Some (instruction_in target w m)) None) is ∙ ap (λ (o : Option Resolved). o >>= λ m. Some (instruction_in target w m)) e

element_resolves : (above : Above) (tag : Tag) (t : NamedTag) (inner k : Content) (i r : Resolved) (until : ℕ) → resolve_tag above tag ≡ Some t
    → resolve (t.declared ∷ above) inner ≡ Some i → resolve above k ≡ Some r → resolve above (element tag inner until k) ≡ Some (element_in t i until r)
unfolding resolve
element_resolves above tag t inner k i r until tagged inside behind = rw (tagged, inside, behind) refl

nodes_resolve : (above : Above) (f : ℕ → Content → Content) (g : ℕ → Resolved → Resolved) (p : ℕ → Bool) (a n : ℕ)
    → ((y : ℕ) → a ≤ y → y < a + n → p y ≡ true → (k : Content) (r : Resolved) → resolve above k ≡ Some r → resolve above (f y k) ≡ Some (g y r))
    → resolve above (nodes f (filter p (range_with_len a n))) ≡ Some (resolved_nodes g (filter p (range_with_len a n)))
unfolding resolve
nodes_resolve above f g p a zero each = refl
nodes_resolve above f g p a (suc n) each = go (p a) refl (nodes_resolve above f g p (a + 1) n (λ y ge lt passes. each y (omega arith) (omega arith) passes))
  where
    rest : List ℕ
    rest = filter p (range_with_len (a + 1) n)

    go : (b : Bool) → p a ≡ b → resolve above (nodes f rest) ≡ Some (resolved_nodes g rest) → resolve above (nodes f (cond b (a ∷ rest) rest)) ≡ Some (resolved_nodes g (cond b (a ∷ rest) rest))
    go true is more = each a (omega arith) (omega arith) is (nodes f rest) (resolved_nodes g rest) more
    go false is more = more

at_attribute : (rows : List RowOf) (w : IsWellShaped rows) (x z : ℕ) (P : ℕ → Type 0) → IsAttributeOf rows x z → Each P (attribute_rows rows x) → P z
at_attribute rows w x z P h all =
    let within = h.0.0 in
    let some : z ≢ 0 = λ e. absurd (let root : kinds.Attribute ≡ kinds.Root = sym h.0.1 ∙ ap (kind_of rows) e ∙ w.root_kind in cc) in
    each_at P (is_attribute_of rows x) 1 (length rows - 1) z (omega (arith, some)) (omega arith) (and_from (is_attribute (kind_of rows z)) (eqb (parent_of rows z) x) (ap is_attribute h.0.1) (eq-eqb (parent_of rows z) x h.1)) all

module _ (rows : List RowOf) (w : IsWellShaped rows) (written : AreWrittenSo rows) (named : IsNamed rows) (set : ℕ → Bool) (rule : Rule)
    (down : (y : ℕ) → 0 < y → y < length rows → set (parent_of rows y) ≡ true → set y ≡ true) where
  abbrev prefix : ℕ → List ℕ
  prefix z = (row_at rows z).prefix_text

  abbrev uri : ℕ → List ℕ
  uri z = (row_at rows z).uri

  -- an element of the set
  record IsMember (y : ℕ) : Type 0 where
    behind : 0 < y
    within : y < length rows
    element : kind_of rows y ≡ kinds.Element
    member : set y ≡ true

  shown : (y : ℕ) (p : List ℕ) → IsMember y → visibly_utilizes rows set y p ≡ true → renders rows set rule p y ≡ true
  shown y p h e = and_from (set y) (follows_inclusive_rule rule p || visibly_utilizes rows set y p) h.member (by (follows_inclusive_rule rule p) e)
    where
      by : (b : Bool) → visibly_utilizes rows set y p ≡ true → (b || visibly_utilizes rows set y p) ≡ true
      by true e = refl
      by false e = e

  bound_right : (y : ℕ) (p : List ℕ) → IsMember y → renders rows set rule p y ≡ true → bytes_eq p (codes "xml") ≡ false → bound_above (rendered_above rows set rule y) p ≡ bound_at rows y p
  bound_right y p h e other = named_right rows w set rule down p y other (record { behind = h.behind; within = h.within; kind = h.element; renders_it = e })

  -- a prefix that is bound in the document
  bound_some : (y : ℕ) (p u : List ℕ) → IsMember y → renders rows set rule p y ≡ true → bound_at rows y p ≡ Some u → bound_above (rendered_above rows set rule y) p ≡ Some u
  bound_some y p u h e is = by (bytes_eq p (codes "xml")) refl
    where
      by : (b : Bool) → bytes_eq p (codes "xml") ≡ b → bound_above (rendered_above rows set rule y) p ≡ Some u
      by false f = bound_right y p h e f ∙ is
      by true f =
          let own = xml_named rows w written named y u h.within h.element (ap (bound_at rows y) (sym ((bytes_eq-Decides p (codes "xml")).0 f)) ∙ is) in
          bound_xml (rendered_above rows set rule y) p f ∙ ap (λ (v : List ℕ). Some v) (sym own)

  -- ---- names

  element_bound : (y : ℕ) → IsMember y → element_uri (bound_above (rendered_above rows set rule y)) (prefix y) ≡ Some (uri y)
  element_bound y h = by (is_empty (prefix y)) refl (named.elements y h.within h.element)
    where
      e : renders rows set rule (prefix y) y ≡ true
      e = shown y (prefix y) h (ap (λ (b : Bool). b || list_any (has_prefix rows set (prefix y)) (attribute_rows rows y)) ((bytes_eq-Decides (prefix y) (prefix y)).1 refl))

      by : (b : Bool) → is_empty (prefix y) ≡ b → cond b (Some (or_empty (bound_at rows y (prefix y)))) (bound_at rows y (prefix y)) ≡ Some (uri y)
          → cond b (Some (or_empty (bound_above (rendered_above rows set rule y) (prefix y)))) (bound_above (rendered_above rows set rule y) (prefix y)) ≡ Some (uri y)
      by true none is =
          let no_xml : bytes_eq (prefix y) (codes "xml") ≡ false = ap (λ (p : List ℕ). bytes_eq p (codes "xml")) ((bytes_eq-Decides (prefix y) []).0 none) in
          ap (λ (o : Option (List ℕ)). Some (or_empty o)) (bound_right y (prefix y) h e no_xml) ∙ is
      by false some is = bound_some y (prefix y) (uri y) h e is

  -- the prefix of an attribute of the set
  attribute_shown : (y z : ℕ) → IsMember y → IsAttributeOf rows y z → is_empty (prefix z) ≡ false → visibly_utilizes rows set y (prefix z) ≡ true
  attribute_shown y z h is some = either (bytes_eq (prefix y) (prefix z)) (by (list_any (has_prefix rows set (prefix z)) (attribute_rows rows y)) refl)
    where
      either : (b : Bool) → list_any (has_prefix rows set (prefix z)) (attribute_rows rows y) ≡ true → (b || list_any (has_prefix rows set (prefix z)) (attribute_rows rows y)) ≡ true
      either true e = refl
      either false e = e

      here : has_prefix rows set (prefix z) z ≡ true
      here =
          let pos : z ≢ 0 = λ e. absurd (let root : kinds.Attribute ≡ kinds.Root = sym is.0.1 ∙ ap (kind_of rows) e ∙ w.root_kind in cc) in
          let inside : set z ≡ true = down z (omega (arith, pos)) is.0.0 (ap set is.1 ∙ h.member) in
          and_from (set z && not (bytes_eq (prefix z) [])) (bytes_eq (prefix z) (prefix z))
          (and_from (set z) (not (bytes_eq (prefix z) [])) inside (ap not some)) ((bytes_eq-Decides (prefix z) (prefix z)).1 refl)

      by : (b : Bool) → list_any (has_prefix rows set (prefix z)) (attribute_rows rows y) ≡ b → b ≡ true
      by true e = refl
      by false e = absurd (false≢true (sym (at_attribute rows w y z (λ a. has_prefix rows set (prefix z) a ≡ false) is (any_false (has_prefix rows set (prefix z)) (attribute_rows rows y) e)) ∙ here))

  attribute_bound : (y z : ℕ) → IsMember y → MayWrite rows y z → attribute_uri (bound_above (rendered_above rows set rule y)) (prefix z) ≡ Some (uri z)
  attribute_bound y z h m = by (is_empty (prefix z)) refl m.1 (attribute_named rows w written named z m.0)
    where
      by : (b : Bool) → is_empty (prefix z) ≡ b → (parent_of rows z ≡ y) ⊎ (is_xml rows z ≡ true) → cond b (Some []) (bound_at rows (parent_of rows z) (prefix z)) ≡ Some (uri z)
          → cond b (Some []) (bound_above (rendered_above rows set rule y) (prefix z)) ≡ Some (uri z)
      by true none o is = is
      by false some (inl up) is =
          bound_some y (prefix z) (uri z) h (shown y (prefix z) h (attribute_shown y z h (m.0, up) some)) (ap (λ (e : ℕ). bound_at rows e (prefix z)) (sym up) ∙ is)
      by false some (inr xml) is =
          bound_xml (rendered_above rows set rule y) (prefix z) ((bytes_eq-Decides (prefix z) (codes "xml")).1 (xml_prefix rows w written named z (m.0, xml)))
          ∙ ap (λ (v : List ℕ). Some v) (sym ((bytes_eq-Decides (uri z) xml_name).0 xml))

  -- ---- a tag

  abbrev bound : ℕ → List ℕ → Option (List ℕ)
  bound y = bound_above (rendered_above rows set rule y)

  values_named : (y : ℕ) (joined : Option (ℕ × List ℕ)) (zs : List ℕ) → IsMember y → Each (MayWrite rows y) zs
      → named_by (bound y) (map (attribute_at rows joined) zs) ≡ Some (map (named_value_at rows joined) zs)
  unfolding named_by
  values_named y joined [] h m = refl
  values_named y joined (z ∷ zs) h m =
      let s = attribute_written rows w written named z m.0.0 in
      named_first (bound y) (prefix z) (row_at rows z).local_name (uri z) (written_value rows joined z) (map (attribute_at rows joined) zs) (map (named_value_at rows joined) zs)
      s.0 s.1 (attribute_bound y z h m.0) (values_named y joined zs h m.1)

  declared_skipped : (y : ℕ) (zs : List ℕ) (others : List Attribute) → Each (IsOf rows w y) zs
      → named_by (bound y) (flat_map (declared rows set rule y) zs ++ others) ≡ named_by (bound y) others
  declared_skipped y [] others h = refl
  declared_skipped y (z ∷ zs) others h = by (is_written rows set rule y z) (declared_skipped y zs others h.1)
    where
      rest : List Attribute
      rest = flat_map (declared rows set rule y) zs

      by : (b : Bool) → named_by (bound y) (rest ++ others) ≡ named_by (bound y) others
          → named_by (bound y) (((if b then record { name = declaration_name (row_at rows z).local_name; value = (row_at rows z).value } ∷ [] else []) ++ rest) ++ others) ≡ named_by (bound y) others
      by true e = named_behind (bound y) (row_at rows z).local_name (row_at rows z).value (rest ++ others) (namespace_written rows w written named y z h.0).0 ∙ e
      by false e = e

  declarations_skipped : (y : ℕ) (others : List Attribute) → named_by (bound y) (declarations rows set rule y ++ others) ≡ named_by (bound y) others
  declarations_skipped y others = by (undeclares rows set rule y)
    where
      rest : List Attribute
      rest = flat_map (declared rows set rule y) (namespace_rows rows y)

      more : named_by (bound y) (rest ++ others) ≡ named_by (bound y) others
      more = declared_skipped y (namespace_rows rows y) others (each_of rows w y)

      by : (b : Bool) → named_by (bound y) (((if b then record { name = codes "xmlns"; value = [] } ∷ [] else []) ++ rest) ++ others) ≡ named_by (bound y) others
      by true = named_behind (bound y) [] [] (rest ++ others) default_declared ∙ more
      by false = more

  -- no expanded name stands twice
  no_other : (joined : Option (ℕ × List ℕ)) (a : ℕ) (zs : List ℕ) → Each (λ z. attribute_cmp rows a z ≡ Less) zs
      → list_any (have_same_name (named_value_at rows joined a)) (map (named_value_at rows joined) zs) ≡ false
  no_other joined a [] h = refl
  no_other joined a (z ∷ zs) h = ap (λ (b : Bool). b || list_any (have_same_name (named_value_at rows joined a)) (map (named_value_at rows joined) zs)) (by (bytes_eq (uri z) (uri a)) (bytes_eq (row_at rows z).local_name (row_at rows a).local_name) refl refl) ∙ no_other joined a zs h.1
    where
      by : (b c : Bool) → bytes_eq (uri z) (uri a) ≡ b → bytes_eq (row_at rows z).local_name (row_at rows a).local_name ≡ c → (b && c) ≡ false
      by true true e f = absurd (names_apart rows a z h.0 (sym ((bytes_eq-Decides (uri z) (uri a)).0 e)) (sym ((bytes_eq-Decides (row_at rows z).local_name (row_at rows a).local_name).0 f)))
      by true false e f = refl
      by false c e f = refl

  names_own : (joined : Option (ℕ × List ℕ)) (zs : List ℕ) → Ascends rows zs → have_own_names (map (named_value_at rows joined) zs) ≡ true
  names_own joined [] h = refl
  names_own joined (z ∷ zs) h =
      and_from (not (list_any (have_same_name (named_value_at rows joined z)) (map (named_value_at rows joined) zs))) (have_own_names (map (named_value_at rows joined) zs))
      (ap not (no_other joined z zs h.0)) (names_own joined zs h.1)

  -- what is rendered above an element of the set
  above_is : (y : ℕ) → IsMember y → rendered rows set rule y ∷ rendered_above rows set rule (parent_of rows y) ≡ rendered_above rows set rule y
  above_is y h =
      let some : y ≢ 0 = λ e. let behind = h.behind in absurd (omega (arith, e, behind)) in
      sym (ap (λ (ys : List ℕ). map (rendered rows set rule) (filter set ys)) (chain_more rows w set rule down y some h.within)
      ∙ ap (λ (b : Bool). map (rendered rows set rule) (cond b (y ∷ filter set (chain_within (parent_of rows) (length rows) (parent_of rows y))) (filter set (chain_within (parent_of rows) (length rows) (parent_of rows y))))) h.member)

  tag_at_resolves : (y : ℕ) → IsMember y → resolve_tag (rendered_above rows set rule (parent_of rows y)) (tag_at rows set rule y) ≡ Some (named_tag_at rows set rule y)
  tag_at_resolves y h =
      let joined = joined_base rows set rule y in
      let zs = written_attributes rows set rule joined y in
      let up = rendered_above rows set rule (parent_of rows y) in
      let each : Each (MayWrite rows y) zs = written_each rows w set rule (MayWrite rows y) y (λ z k. (k.0, inl k.1)) (λ z k. (k.0, inr k.1)) in
      let split = subst (IsWrittenSo (row_at rows y)) h.element (written y h.within) in
      tag_resolves up (tag_at rows set rule y) (named_tag_at rows set rule y)
      (declared_is rows w set rule written down y)
      (ap (λ (a : Above). element_name (bound_above a) (tag_at rows set rule y).name) (above_is y h) ∙ element_first (bound y) (prefix y) (row_at rows y).local_name (uri y) split (element_bound y h))
      (ap (λ (a : Above). named_by (bound_above a) (tag_at rows set rule y).attributes) (above_is y h)
      ∙ declarations_skipped y (map (attribute_at rows joined) zs) ∙ values_named y joined zs h each)
      (names_own joined zs (written_ascends rows w written named y h.within h.element set rule joined))
      refl refl refl

  -- ---- nodes

  module _ (comments : Bool) where
    by_kind : (y : ℕ) (inner k : Content) (i r : Resolved) → 0 < y → y < length rows → set y ≡ true
        → (IsMember y → resolve (rendered_above rows set rule y) inner ≡ Some i) → resolve (rendered_above rows set rule (parent_of rows y)) k ≡ Some r
        → (kind : Kind) → kind_of rows y ≡ kind
        → resolve (rendered_above rows set rule (parent_of rows y)) (node_of rows set rule comments y inner k kind) ≡ Some (resolved_node_of rows set rule comments y i r kind)
    by_kind y inner k i r pos lt member inside e kinds.Element is =
        let up = rendered_above rows set rule (parent_of rows y) in
        let h : IsMember y = record { behind = pos; within = lt; element = is; member = member } in
        element_resolves up (tag_at rows set rule y) (named_tag_at rows set rule y) inner k i r 0 (tag_at_resolves y h)
        (ap (λ (a : Above). resolve a inner) (above_is y h) ∙ inside h) e
    by_kind y inner k i r pos lt member inside e kinds.Text is = text_resolves (rendered_above rows set rule (parent_of rows y)) (row_at rows y).value k r e
    by_kind y inner k i r pos lt member inside e kinds.Comment is = comment_resolves (rendered_above rows set rule (parent_of rows y)) comments (row_at rows y).value k r e
    by_kind y inner k i r pos lt member inside e kinds.Instruction is =
        instruction_resolves (rendered_above rows set rule (parent_of rows y)) (row_at rows y).local_name (row_at rows y).value k r (subst (IsWrittenSo (row_at rows y)) is (written y lt)) e
    by_kind y inner k i r pos lt member inside e kinds.Root is = e
    by_kind y inner k i r pos lt member inside e kinds.Namespace is = e
    by_kind y inner k i r pos lt member inside e kinds.Attribute is = e

    pub node_resolves : (depth y : ℕ) → 0 < y → y < length rows → set y ≡ true → (k : Content) (r : Resolved) → resolve (rendered_above rows set rule (parent_of rows y)) k ≡ Some r
        → resolve (rendered_above rows set rule (parent_of rows y)) (node_at rows set rule comments depth y k) ≡ Some (resolved_node_at rows set rule comments depth y r)
    node_resolves zero y pos lt member k r e = e
    node_resolves (suc depth) y pos lt member k r e =
        let below = children (length rows) (parent_of rows) (is_child rows) y in
        let some = w.some in
        by_kind y (nodes (node_at rows set rule comments depth) below) k (resolved_nodes (resolved_node_at rows set rule comments depth) below) r pos lt member
        (λ h. nodes_resolve (rendered_above rows set rule y) (node_at rows set rule comments depth) (resolved_node_at rows set rule comments depth) (λ z. is_child rows z && eqb (parent_of rows z) y) 1 (length rows - 1)
        (λ z ge below_end passes k' r' f.
        let up : parent_of rows z ≡ y = (children_of (parent_of rows) (is_child rows) y z passes).1 in
        subst (λ (q : ℕ). resolve (rendered_above rows set rule q) (node_at rows set rule comments depth z k') ≡ Some (resolved_node_at rows set rule comments depth z r')) up
        (node_resolves depth z (omega arith) (omega arith) (down z (omega arith) (omega arith) (ap set up ∙ member)) k' r'
        (subst (λ (q : ℕ). resolve (rendered_above rows set rule q) k' ≡ Some r') (sym up) f))))
        e (kind_of rows y) refl

-- above the element nothing is rendered
module _ (rule : Rule) (rows : List RowOf) (x : ℕ) (w : IsWellShaped rows) (there : x < length rows) (kind : kind_of rows x ≡ kinds.Element) where
  abbrev members : ℕ → Bool
  members = in_subtree rows x

  none_above : (fuel k : ℕ) → k < x → filter members (chain_within (parent_of rows) fuel k) ≡ []
  none_above zero k lt = refl
  none_above (suc fuel) k lt = elim (cases_eq k 0) [
    | inl root ↦ ap (λ (b : Bool). filter members (cond b [] (k ∷ chain_within (parent_of rows) fuel (parent_of rows k)))) (eq-eqb k 0 root)
    | inr some ↦
        let before = w.nesting.parent_before k (omega (arith, some)) (omega arith) in
        ap (λ (b : Bool). filter members (cond b [] (k ∷ chain_within (parent_of rows) fuel (parent_of rows k)))) (ne_eqb k 0 some)
        ∙ ap (λ (b : Bool). cond b (k ∷ filter members (chain_within (parent_of rows) fuel (parent_of rows k))) (filter members (chain_within (parent_of rows) fuel (parent_of rows k)))) (out_below rule true rows x w there kind k (omega (arith, some)) lt)
        ∙ none_above fuel (parent_of rows k) (omega arith)
  ]

  nothing_above : rendered_above rows members rule (parent_of rows x) ≡ []
  nothing_above =
      let before = w.nesting.parent_before x (behind_root rule true rows x w there kind) there in
      ap (map (rendered rows members rule)) (none_above (length rows) (parent_of rows x) before)

pub tree_resolves : (rule : Rule) (comments : Bool) (rows : List RowOf) (x : ℕ) → IsWellShaped rows → x < length rows → (row_at rows x).kind ≡ kinds.Element
    → AreWrittenSo rows → IsNamed rows → resolve [] (subtree rule comments rows (in_subtree rows x) x) ≡ Some (resolved_subtree rule comments rows (in_subtree rows x) x)
unfolding resolve
tree_resolves rule comments rows x w there kind written named =
    let set = in_subtree rows x in
    let up = nothing_above rule rows x w there kind in
    subst (λ (a : Above). resolve a (subtree rule comments rows set x) ≡ Some (resolved_subtree rule comments rows set x)) up
    (node_resolves rows w written named set rule (down rule true rows x w there kind) comments (length rows) x (behind_root rule true rows x w there kind) there
    (member_from rule true rows x w there kind x (omega arith) (w.nesting.last_from x there)) nothing nothing_in refl)
