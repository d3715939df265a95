-- The canonical form of rows in front of an element looks at rows in front of it alone.
use Rattle.std.proofs.Common.{◌≡◌, ℕ, ◌+◌, ◌<◌, ◌≤◌, Bool, true, false, if◌then◌else◌, not, ◌&&◌, ◌||◌, eqb, nat_lt, nat_le, Option, Some, None, List, [], ◌∷◌, ◌++◌, length, refl, sym, ap, ◌∙◌, arith, inl, inr}
use Rattle.std.specs.Prelude.{codes, is_some}
use Rattle.std.specs.List.{filter, find, flat_map, list_any, take_while}
use Rattle.std.specs.Str.{bytes_eq}
use Rattle.std.specs.Cmp.Lexicographic.{slice_cmp}
use Rattle.std.specs.Ordering.{nat_cmp, ordering_then}
use Rattle.std.specs.declared.cmp.Ordering.{Ordering}
use Rattle.std.specs.declared.cmp.Ordering.TheVariants.{Less, Equal, Greater}
use Rattle.std.proofs.lemmas.Bool.{cases_lt, eqb-true, and_parts, and_right, ltb-true, leb-true, le-ltb}
use Rattle.sig_base.specs.Names.{xml_name}
use Rattle.xml_doc.specs.declared.row.Kind.{Kind}
use Rattle.xml_doc.specs.declared.row.Kind.TheVariants.{Root, Element, Namespace, Attribute, Text, Comment, Instruction}
use Rattle.xml_doc.specs.Kinds.{is_element, is_field}
use Rattle.xml_doc.specs.Rows.{RowOf}
use Rattle.xml_doc.specs.Shape.{row_at, IsWellShaped}
use Rattle.xml_doc.proofs.ShapeLemmas.{last_below}
use Rattle.xml_doc.specs.Fields.{namespace_rows, attribute_rows}
use Rattle.node_sets.specs.Members.{in_subtree}
use Rattle.c14n_text.specs.Rows.{kind_of, parent_of, is_child, above}
use Rattle.c14n_text.specs.Code.Rows.{last_of}
use Rattle.c14n_text.specs.Escapes.{text_octets, pi_octets, attribute_octets, qname}
use Rattle.c14n_text.specs.Namespaces.{Rule, follows_inclusive_rule, has_prefix, visibly_utilizes, renders, nearest, binds, has_binding, is_default, has_default, declaration, row_declaration, undeclaration, namespace_octets}
use Rattle.c14n_text.specs.Attributes.{is_xml, xml_attributes, xml_above, same_name, is_row, is_imported, imported, attribute_cmp, placed, put_in, in_order, is_inclusive, is_inheritable, imports_attributes}
use Rattle.c14n_text.specs.Bases.{is_base, bases, omitted, omitted_bases, with_base, with_bases, is_eleven, is_none, joined_base, base_place, is_own, written_attributes, joined_value, written_value, row_attribute, attributes_octets}
use Rattle.c14n_text.specs.Canon.{with_line_feed, is_before_element, document_element, comment_octets, start_tag, end_tag, opening_of, closing_of, opening, closing, canon}
use Rattle.c14n_bases.specs.Join.{join}
use Rattle.c14n_text.proofs.RowTree.{tree_of}
use Rattle.c14n_text.proofs.QuietRows.{quiet_behind, no_opening, no_closing}
use Rattle.canon_local.specs.Begin.{BeginAlike, StandsInside}
use Rattle.canon_local.proofs.Lists.{Below, below_append, below_filter, below_flat_map, below_take_while, filter_same, any_same, find_same, flat_map_same, found_below}
use Rattle.canon_local.proofs.Nodes.{some, same_parent, parent_front, above_same, above_below, namespaces_same, attributes_same, namespaces_below, attributes_below}
use Rattle.canon_local.proofs.Output.{outputs_agree}

if_same : (b : Bool) (x y z : List ℕ) → (b ≡ true → x ≡ y) → (if b then x else z) ≡ (if b then y else z)
if_same true x y z same = same refl
if_same false x y z same = refl

with_line_feed-none : (rows : List RowOf) (x : ℕ) (octets : List ℕ) → ((row_at rows x).parent ≡ 0 → ⊥) → with_line_feed rows x octets ≡ octets
with_line_feed-none rows x octets ne = go (eqb (row_at rows x).parent 0) refl
  where
    go : (b : Bool) → eqb (row_at rows x).parent 0 ≡ b → (if b then (if is_before_element x (document_element rows) then octets ++ codes "\n" else codes "\n" ++ octets) else octets) ≡ octets
    go true e = absurd (ne (eqb-true _ 0 e))
    go false e = refl

module _ (rows others : List RowOf) (w : IsWellShaped rows) (w' : IsWellShaped others) (m : ℕ) (alike : BeginAlike m rows others) (set : ℕ → Bool) (rule : Rule) where
  -- ---- namespaces
  has_prefix_same : (p : List ℕ) (a : ℕ) → a < m → has_prefix rows set p a ≡ has_prefix others set p a
  has_prefix_same p a lt = ap (λ t. set a && not (bytes_eq t []) && bytes_eq t p) (sym (alike.same a lt).prefix_text)

  visibly_same : (e : ℕ) → e < m → (p : List ℕ) → visibly_utilizes rows set e p ≡ visibly_utilizes others set e p
  visibly_same e lt p =
      ap (λ t. bytes_eq t p || list_any (has_prefix rows set p) (attribute_rows rows e)) (sym (alike.same e lt).prefix_text)
      ∙ ap (λ t. bytes_eq (row_at others e).prefix_text p || list_any (has_prefix rows set p) t) (attributes_same rows others w w' m alike e lt)
      ∙ ap (λ t. bytes_eq (row_at others e).prefix_text p || t) (any_same m (has_prefix rows set p) (has_prefix others set p) (attribute_rows others e) (attributes_below rows others w w' m alike e lt) (has_prefix_same p))

  renders_same : (p : List ℕ) (e : ℕ) → e < m → renders rows set rule p e ≡ renders others set rule p e
  renders_same p e lt = ap (λ t. set e && (follows_inclusive_rule rule p || t)) (visibly_same e lt p)

  nearest_same : (p : List ℕ) (x : ℕ) → x < m → nearest rows set rule p x ≡ nearest others set rule p x
  nearest_same p x lt =
      ap (find (renders rows set rule p)) (above_same rows others w w' m alike x lt)
      ∙ find_same m (renders rows set rule p) (renders others set rule p) (above others x) (above_below rows others w w' m alike x lt) (renders_same p)

  nearest_front : (p : List ℕ) (x : ℕ) → x < m → (e : ℕ) → nearest others set rule p x ≡ Some e → e < m
  nearest_front p x lt e is = found_below m (renders others set rule p) (above others x) e (above_below rows others w w' m alike x lt) is

  binds_same : (p name : List ℕ) (z : ℕ) → z < m → binds rows set p name z ≡ binds others set p name z
  binds_same p name z lt =
      ap (λ t. set z && bytes_eq t p && bytes_eq (row_at rows z).value name) (sym (alike.same z lt).local_name)
      ∙ ap (λ t. set z && bytes_eq (row_at others z).local_name p && bytes_eq t name) (sym (alike.same z lt).value)

  has_binding_same : (p name : List ℕ) (o : Option ℕ) → ((e : ℕ) → o ≡ Some e → e < m) → has_binding rows set p name o ≡ has_binding others set p name o
  has_binding_same p name None front = refl
  has_binding_same p name (Some e) front =
      let lt = front e refl in
      ap (list_any (binds rows set p name)) (namespaces_same rows others w w' m alike e lt)
      ∙ any_same m (binds rows set p name) (binds others set p name) (namespace_rows others e) (namespaces_below rows others w w' m alike e lt) (binds_same p name)

  is_default_same : (z : ℕ) → z < m → is_default rows set z ≡ is_default others set z
  is_default_same z lt = ap (λ t. set z && bytes_eq t []) (sym (alike.same z lt).local_name)

  has_default_same : (o : Option ℕ) → ((e : ℕ) → o ≡ Some e → e < m) → has_default rows set o ≡ has_default others set o
  has_default_same None front = refl
  has_default_same (Some e) front =
      let lt = front e refl in
      ap (list_any (is_default rows set)) (namespaces_same rows others w w' m alike e lt)
      ∙ any_same m (is_default rows set) (is_default others set) (namespace_rows others e) (namespaces_below rows others w w' m alike e lt) is_default_same

  row_declaration_same : (x : ℕ) → x < m → (y : ℕ) → y < m → row_declaration rows set rule x y ≡ row_declaration others set rule x y
  row_declaration_same x lt y below = declared (row_at rows y).local_name (row_at rows y).value ∙ named
    where
      declared : (l v : List ℕ)
          → (if (set y && not (bytes_eq l (codes "xml")) && (follows_inclusive_rule rule l || (set x && visibly_utilizes rows set x l)) && not (has_binding rows set l v (nearest rows set rule l x))) then declaration l v else [])
          ≡ (if (set y && not (bytes_eq l (codes "xml")) && (follows_inclusive_rule rule l || (set x && visibly_utilizes others set x l)) && not (has_binding others set l v (nearest others set rule l x))) then declaration l v else [])
      declared l v =
          ap (λ t. if (set y && not (bytes_eq l (codes "xml")) && (follows_inclusive_rule rule l || (set x && t)) && not (has_binding rows set l v (nearest rows set rule l x))) then declaration l v else []) (visibly_same x lt l)
          ∙ ap (λ t. if (set y && not (bytes_eq l (codes "xml")) && (follows_inclusive_rule rule l || (set x && visibly_utilizes others set x l)) && not (has_binding rows set l v t)) then declaration l v else []) (nearest_same l x lt)
          ∙ ap (λ t. if (set y && not (bytes_eq l (codes "xml")) && (follows_inclusive_rule rule l || (set x && visibly_utilizes others set x l)) && not t) then declaration l v else []) (has_binding_same l v (nearest others set rule l x) (nearest_front l x lt))

      made : List ℕ → List ℕ → List ℕ
      made l v = if (set y && not (bytes_eq l (codes "xml")) && (follows_inclusive_rule rule l || (set x && visibly_utilizes others set x l)) && not (has_binding others set l v (nearest others set rule l x))) then declaration l v else []

      named : made (row_at rows y).local_name (row_at rows y).value ≡ made (row_at others y).local_name (row_at others y).value
      named = ap (λ t. made t (row_at rows y).value) (sym (alike.same y below).local_name) ∙ ap (made (row_at others y).local_name) (sym (alike.same y below).value)

  undeclaration_same : (x : ℕ) → x < m → undeclaration rows set rule x ≡ undeclaration others set rule x
  undeclaration_same x lt =
      ap (λ t. if (t && not (has_default rows set (Some x)) && has_default rows set (nearest rows set rule [] x)) then codes " xmlns=\"\"" else []) (renders_same [] x lt)
      ∙ ap (λ t. if (renders others set rule [] x && not t && has_default rows set (nearest rows set rule [] x)) then codes " xmlns=\"\"" else []) (has_default_same (Some x) (λ e is. one e is))
      ∙ ap (λ t. if (renders others set rule [] x && not (has_default others set (Some x)) && t) then codes " xmlns=\"\"" else []) (ap (has_default rows set) (nearest_same [] x lt) ∙ has_default_same (nearest others set rule [] x) (nearest_front [] x lt))
    where
      one : (e : ℕ) → Some x ≡ Some e → e < m
      one e is = let same : x ≡ e = cc in omega arith

  namespace_octets_same : (x : ℕ) → x < m → namespace_octets rows set rule x ≡ namespace_octets others set rule x
  namespace_octets_same x lt =
      ap (λ t. t ++ flat_map (row_declaration rows set rule x) (namespace_rows rows x)) (undeclaration_same x lt)
      ∙ ap (λ t. undeclaration others set rule x ++ flat_map (row_declaration rows set rule x) t) (namespaces_same rows others w w' m alike x lt)
      ∙ ap (λ t. undeclaration others set rule x ++ t) (flat_map_same m (row_declaration rows set rule x) (row_declaration others set rule x) (namespace_rows others x) (namespaces_below rows others w w' m alike x lt) (row_declaration_same x lt))

  -- ---- attributes
  is_xml_same : (a : ℕ) → a < m → is_xml rows a ≡ is_xml others a
  is_xml_same a lt = ap (λ t. bytes_eq t xml_name) (sym (alike.same a lt).uri)

  xml_attributes_same : (e : ℕ) → e < m → xml_attributes rows e ≡ xml_attributes others e
  xml_attributes_same e lt =
      ap (filter (is_xml rows)) (attributes_same rows others w w' m alike e lt)
      ∙ filter_same m (is_xml rows) (is_xml others) (attribute_rows others e) (attributes_below rows others w w' m alike e lt) is_xml_same

  xml_attributes_below : (e : ℕ) → e < m → Below m (xml_attributes others e)
  xml_attributes_below e lt = below_filter m (is_xml others) (attribute_rows others e) (attributes_below rows others w w' m alike e lt)

  xml_above_same : (x : ℕ) → x < m → xml_above rows x ≡ xml_above others x
  xml_above_same x lt =
      ap (flat_map (xml_attributes rows)) (above_same rows others w w' m alike x lt)
      ∙ flat_map_same m (xml_attributes rows) (xml_attributes others) (above others x) (above_below rows others w w' m alike x lt) xml_attributes_same

  xml_above_below : (x : ℕ) → x < m → Below m (xml_above others x)
  xml_above_below x lt = below_flat_map m (xml_attributes others) (above others x) (above_below rows others w w' m alike x lt) xml_attributes_below

  same_name_same : (a : ℕ) → a < m → (b : ℕ) → b < m → same_name rows a b ≡ same_name others a b
  same_name_same a lt b lt' =
      ap (λ t. bytes_eq t (row_at rows a).local_name) (sym (alike.same b lt').local_name) ∙ ap (bytes_eq (row_at others b).local_name) (sym (alike.same a lt).local_name)

  nearest_only : (x : ℕ) → x < m → (a : ℕ) → a < m → (is_row (find (same_name rows a) (xml_above rows x)) a && not (list_any (same_name rows a) (xml_attributes rows x))) ≡ (is_row (find (same_name others a) (xml_above others x)) a && not (list_any (same_name others a) (xml_attributes others x)))
  nearest_only x lt a lt' =
      ap (λ t. is_row (find (same_name rows a) t) a && not (list_any (same_name rows a) (xml_attributes rows x))) (xml_above_same x lt)
      ∙ ap (λ t. is_row t a && not (list_any (same_name rows a) (xml_attributes rows x))) (find_same m (same_name rows a) (same_name others a) (xml_above others x) (xml_above_below x lt) (same_name_same a lt'))
      ∙ ap (λ t. is_row (find (same_name others a) (xml_above others x)) a && not (list_any (same_name rows a) t)) (xml_attributes_same x lt)
      ∙ ap (λ t. is_row (find (same_name others a) (xml_above others x)) a && not t) (any_same m (same_name rows a) (same_name others a) (xml_attributes others x) (xml_attributes_below x lt) (same_name_same a lt'))

  is_imported_same : (x : ℕ) → x < m → (a : ℕ) → a < m → is_imported rows rule x a ≡ is_imported others rule x a
  is_imported_same x lt a lt' =
      ap (λ t. is_inheritable rule t && (is_row (find (same_name rows a) (xml_above rows x)) a && not (list_any (same_name rows a) (xml_attributes rows x)))) (sym (alike.same a lt').local_name)
      ∙ ap (λ t. is_inheritable rule (row_at others a).local_name && t) (nearest_only x lt a lt')

  imported_same : (x : ℕ) → x < m → imported rows rule x ≡ imported others rule x
  imported_same x lt =
      ap (filter (is_imported rows rule x)) (xml_above_same x lt)
      ∙ filter_same m (is_imported rows rule x) (is_imported others rule x) (xml_above others x) (xml_above_below x lt) (is_imported_same x lt)

  attribute_cmp_same : (a b : ℕ) → a < m → b < m → attribute_cmp rows a b ≡ attribute_cmp others a b
  attribute_cmp_same a b lt lt' = by (row_at rows a) (row_at others a) (row_at rows b) (row_at others b) (alike.same a lt).uri (alike.same a lt).local_name (alike.same b lt').uri (alike.same b lt').local_name
    where
      cmp : RowOf → RowOf → Ordering
      cmp r s = ordering_then (slice_cmp nat_cmp r.uri s.uri) (slice_cmp nat_cmp r.local_name s.local_name)

      by : (r r' s s' : RowOf) → r'.uri ≡ r.uri → r'.local_name ≡ r.local_name → s'.uri ≡ s.uri → s'.local_name ≡ s.local_name → cmp r s ≡ cmp r' s'
      by r r' s s' e f g h =
          ap (λ t. ordering_then (slice_cmp nat_cmp t s.uri) (slice_cmp nat_cmp r.local_name s.local_name)) (sym e)
          ∙ ap (λ t. ordering_then (slice_cmp nat_cmp r'.uri t) (slice_cmp nat_cmp r.local_name s.local_name)) (sym g)
          ∙ ap (λ t. ordering_then (slice_cmp nat_cmp r'.uri s'.uri) (slice_cmp nat_cmp t s.local_name)) (sym f)
          ∙ ap (λ t. ordering_then (slice_cmp nat_cmp r'.uri s'.uri) (slice_cmp nat_cmp r'.local_name t)) (sym h)

  put_in_same : (a : ℕ) (xs : List ℕ) → a < m → Below m xs → put_in rows a xs ≡ put_in others a xs
  put_in_same a [] lt b = refl
  put_in_same a (x ∷ more) lt b =
      ap (λ t. placed t a x more (put_in rows a more)) (attribute_cmp_same a x lt b.0) ∙ ap (placed (attribute_cmp others a x) a x more) (put_in_same a more lt b.1)

  put_in_below : (a : ℕ) (xs : List ℕ) → a < m → Below m xs → Below m (put_in others a xs)
  put_in_below a [] lt b = (lt, tt)
  put_in_below a (x ∷ more) lt b = go (put_in_below a more lt b.1) (attribute_cmp others a x)
    where
      go : Below m (put_in others a more) → (o : Ordering) → Below m (placed o a x more (put_in others a more))
      go rest Less = (lt, b)
      go rest Equal = (lt, b.1)
      go rest Greater = (b.0, rest)

  in_order_below : (xs : List ℕ) → Below m xs → Below m (in_order others xs)
  in_order_below [] b = b
  in_order_below (a ∷ more) b = put_in_below a (in_order others more) b.0 (in_order_below more b.1)

  in_order_same : (xs : List ℕ) → Below m xs → in_order rows xs ≡ in_order others xs
  in_order_same [] b = refl
  in_order_same (a ∷ more) b = ap (put_in rows a) (in_order_same more b.1) ∙ put_in_same a (in_order others more) b.0 (in_order_below more b.1)

  imports_same : (x : ℕ) → x < m → imports_attributes rows set rule x ≡ imports_attributes others set rule x
  imports_same x lt =
      ap (λ t. is_inclusive rule && set x && is_element (kind_of rows t) && not (set t)) (same_parent rows others w w' m alike x lt)
      ∙ ap (λ t. is_inclusive rule && set x && is_element t && not (set (parent_of others x))) (sym (alike.same (parent_of others x) (parent_front rows others w w' m alike x lt)).kind)

  -- ---- the `xml:base` of Canonical XML 1.1
  is_base_same : (a : ℕ) → a < m → is_base rows a ≡ is_base others a
  is_base_same a lt =
      ap (λ t. t && bytes_eq (row_at rows a).local_name (codes "base")) (is_xml_same a lt)
      ∙ ap (λ t. is_xml others a && bytes_eq t (codes "base")) (sym (alike.same a lt).local_name)

  bases_same : (e : ℕ) → e < m → bases rows e ≡ bases others e
  bases_same e lt =
      ap (filter (is_base rows)) (attributes_same rows others w w' m alike e lt)
      ∙ filter_same m (is_base rows) (is_base others) (attribute_rows others e) (attributes_below rows others w w' m alike e lt) is_base_same

  bases_below : (e : ℕ) → e < m → Below m (bases others e)
  bases_below e lt = below_filter m (is_base others) (attribute_rows others e) (attributes_below rows others w w' m alike e lt)

  omitted_same : (x : ℕ) → x < m → omitted rows set x ≡ omitted others set x
  omitted_same x lt = ap (take_while (λ e. not (set e))) (above_same rows others w w' m alike x lt)

  omitted_below : (x : ℕ) → x < m → Below m (omitted others set x)
  omitted_below x lt = below_take_while m (λ e. not (set e)) (above others x) (above_below rows others w w' m alike x lt)

  omitted_bases_same : (x : ℕ) → x < m → omitted_bases rows set x ≡ omitted_bases others set x
  omitted_bases_same x lt =
      ap (flat_map (bases rows)) (omitted_same x lt) ∙ flat_map_same m (bases rows) (bases others) (omitted others set x) (omitted_below x lt) bases_same

  omitted_bases_below : (x : ℕ) → x < m → Below m (omitted_bases others set x)
  omitted_bases_below x lt = below_flat_map m (bases others) (omitted others set x) (omitted_below x lt) bases_below

  all_bases_below : (x : ℕ) → x < m → Below m (bases others x ++ omitted_bases others set x)
  all_bases_below x lt = below_append m (bases others x) (omitted_bases others set x) (bases_below x lt) (omitted_bases_below x lt)

  with_base_same : (so_far : Option (ℕ × List ℕ)) (b : ℕ) → b < m → with_base rows so_far b ≡ with_base others so_far b
  with_base_same None b lt = ap (λ t. Some (b, t)) (sym (alike.same b lt).value)
  with_base_same (Some so_far) b lt = ap (λ t. Some (so_far.0, join t so_far.1)) (sym (alike.same b lt).value)

  with_bases_same : (so_far : Option (ℕ × List ℕ)) (xs : List ℕ) → Below m xs → with_bases rows so_far xs ≡ with_bases others so_far xs
  with_bases_same so_far [] b = refl
  with_bases_same so_far (x ∷ xs) b = ap (λ t. with_bases rows t xs) (with_base_same so_far x b.0) ∙ with_bases_same (with_base others so_far x) xs b.1

  JoinedBelow : Option (ℕ × List ℕ) → Type 0
  JoinedBelow None = Unit {0}
  JoinedBelow (Some joined) = joined.0 < m

  with_base_below : (so_far : Option (ℕ × List ℕ)) (b : ℕ) → b < m → JoinedBelow so_far → JoinedBelow (with_base others so_far b)
  unfolding JoinedBelow
  with_base_below None b lt below = lt
  with_base_below (Some so_far) b lt below = below

  with_bases_below : (so_far : Option (ℕ × List ℕ)) (xs : List ℕ) → Below m xs → JoinedBelow so_far → JoinedBelow (with_bases others so_far xs)
  with_bases_below so_far [] b below = below
  with_bases_below so_far (x ∷ xs) b below = with_bases_below (with_base others so_far x) xs b.1 (with_base_below so_far x b.0 below)

  joined_base_same : (x : ℕ) → x < m → joined_base rows set rule x ≡ joined_base others set rule x
  joined_base_same x lt =
      let one = λ (b : Bool). if b then with_bases rows None (bases rows x ++ omitted_bases rows set x) else None in
      ap (λ t. one (is_eleven rule && (is_element t && (imports_attributes rows set rule x && not (is_none (omitted_bases rows set x)))))) (sym (alike.same x lt).kind)
      ∙ ap (λ t. one (is_eleven rule && (is_element (kind_of others x) && (t && not (is_none (omitted_bases rows set x)))))) (imports_same x lt)
      ∙ ap (λ t. one (is_eleven rule && (is_element (kind_of others x) && (imports_attributes others set rule x && not (is_none t))))) (omitted_bases_same x lt)
      ∙ ap (λ (t : Option (ℕ × List ℕ)). if is_eleven rule && (is_element (kind_of others x) && (imports_attributes others set rule x && not (is_none (omitted_bases others set x)))) then t else None)
      (ap (λ t. with_bases rows None (t ++ omitted_bases rows set x)) (bases_same x lt)
      ∙ ap (λ t. with_bases rows None (bases others x ++ t)) (omitted_bases_same x lt)
      ∙ with_bases_same None (bases others x ++ omitted_bases others set x) (all_bases_below x lt))

  none_joined : JoinedBelow None
  unfolding JoinedBelow
  none_joined = tt

  joined_base_below : (x : ℕ) → x < m → JoinedBelow (joined_base others set rule x)
  joined_base_below x lt =
      go (is_eleven rule && (is_element (kind_of others x) && (imports_attributes others set rule x && not (is_none (omitted_bases others set x)))))
      (with_bases_below None (bases others x ++ omitted_bases others set x) (all_bases_below x lt) none_joined)
    where
      go : (b : Bool) → JoinedBelow (with_bases others None (bases others x ++ omitted_bases others set x))
          → JoinedBelow (if b then with_bases others None (bases others x ++ omitted_bases others set x) else None)
      go true below = below
      go false below = none_joined

  base_place_below : (joined : Option (ℕ × List ℕ)) → JoinedBelow joined → Below m (base_place joined)
  unfolding JoinedBelow
  base_place_below None below = tt
  base_place_below (Some (place, [])) below = tt
  base_place_below (Some (place, c ∷ cs)) below = (below, tt)

  -- ---- the attributes that are written
  own_below : (x : ℕ) → x < m → Below m (filter set (attribute_rows others x))
  own_below x lt = below_filter m set (attribute_rows others x) (attributes_below rows others w w' m alike x lt)

  module _ (joined : Option (ℕ × List ℕ)) (front : JoinedBelow joined) where
    is_own_same : (a : ℕ) → a < m → is_own rows set joined a ≡ is_own others set joined a
    is_own_same a lt = ap (λ t. set a && not (is_some joined && t)) (is_base_same a lt)

    abbrev gathered : List RowOf → ℕ → List ℕ
    gathered these x = filter (is_own these set joined) (attribute_rows these x) ++ imported these rule x ++ base_place joined

    gathered_same : (x : ℕ) → x < m → gathered rows x ≡ gathered others x
    gathered_same x lt =
        ap (λ t. filter (is_own rows set joined) t ++ imported rows rule x ++ base_place joined) (attributes_same rows others w w' m alike x lt)
        ∙ ap (λ t. t ++ imported rows rule x ++ base_place joined) (filter_same m (is_own rows set joined) (is_own others set joined) (attribute_rows others x) (attributes_below rows others w w' m alike x lt) is_own_same)
        ∙ ap (λ t. filter (is_own others set joined) (attribute_rows others x) ++ t ++ base_place joined) (imported_same x lt)

    gathered_below : (x : ℕ) → x < m → Below m (gathered others x)
    gathered_below x lt =
        below_append m (filter (is_own others set joined) (attribute_rows others x) ++ imported others rule x) (base_place joined)
        (below_append m (filter (is_own others set joined) (attribute_rows others x)) (imported others rule x)
        (below_filter m (is_own others set joined) (attribute_rows others x) (attributes_below rows others w w' m alike x lt))
        (below_filter m (is_imported others rule x) (xml_above others x) (xml_above_below x lt)))
        (base_place_below joined front)

    written_same : (x : ℕ) → x < m → written_attributes rows set rule joined x ≡ written_attributes others set rule joined x
    written_same x lt =
        ap (λ t. if t then in_order rows (gathered rows x) else filter set (attribute_rows rows x)) (imports_same x lt)
        ∙ ap (λ t. if imports_attributes others set rule x then in_order rows (gathered rows x) else filter set t) (attributes_same rows others w w' m alike x lt)
        ∙ ap (λ t. if imports_attributes others set rule x then in_order rows t else filter set (attribute_rows others x)) (gathered_same x lt)
        ∙ ap (λ t. if imports_attributes others set rule x then t else filter set (attribute_rows others x)) (in_order_same (gathered others x) (gathered_below x lt))

    written_below : (x : ℕ) → x < m → Below m (written_attributes others set rule joined x)
    written_below x lt = go (imports_attributes others set rule x)
      where
        sorted : Below m (in_order others (gathered others x))
        sorted = in_order_below (gathered others x) (gathered_below x lt)

        own : Below m (filter set (attribute_rows others x))
        own = own_below x lt

        go : (b : Bool) → Below m (if b then in_order others (gathered others x) else filter set (attribute_rows others x))
        go true = sorted
        go false = own

  written_value_same : (joined : Option (ℕ × List ℕ)) (a : ℕ) → a < m → written_value rows joined a ≡ written_value others joined a
  written_value_same joined a lt =
      ap (λ t. if t then joined_value joined (row_at rows a).value else (row_at rows a).value) (is_base_same a lt)
      ∙ ap (λ t. if is_base others a then joined_value joined t else t) (sym (alike.same a lt).value)

  row_attribute_same : (joined : Option (ℕ × List ℕ)) (a : ℕ) → a < m → row_attribute rows joined a ≡ row_attribute others joined a
  row_attribute_same joined a lt =
      ap (λ t. attribute_octets t (row_at rows a).local_name (written_value rows joined a)) (sym (alike.same a lt).prefix_text)
      ∙ ap (λ t. attribute_octets (row_at others a).prefix_text t (written_value rows joined a)) (sym (alike.same a lt).local_name)
      ∙ ap (attribute_octets (row_at others a).prefix_text (row_at others a).local_name) (written_value_same joined a lt)

  attributes_octets_same : (x : ℕ) → x < m → attributes_octets rows set rule x ≡ attributes_octets others set rule x
  attributes_octets_same x lt =
      let joined = joined_base others set rule x in
      let front = joined_base_below x lt in
      ap (λ t. flat_map (row_attribute rows t) (written_attributes rows set rule t x)) (joined_base_same x lt)
      ∙ ap (flat_map (row_attribute rows joined)) (written_same joined front x lt)
      ∙ flat_map_same m (row_attribute rows joined) (row_attribute others joined) (written_attributes others set rule joined x) (written_below joined front x lt) (row_attribute_same joined)

  -- ---- what a row writes
  name_same : (x : ℕ) → x < m → qname (row_at rows x).prefix_text (row_at rows x).local_name ≡ qname (row_at others x).prefix_text (row_at others x).local_name
  name_same x lt = ap (λ t. qname t (row_at rows x).local_name) (sym (alike.same x lt).prefix_text) ∙ ap (qname (row_at others x).prefix_text) (sym (alike.same x lt).local_name)

  start_tag_same : (x : ℕ) → x < m → start_tag rows set rule x ≡ start_tag others set rule x
  start_tag_same x lt =
      ap (λ t. codes "<" ++ t ++ namespace_octets rows set rule x ++ attributes_octets rows set rule x ++ codes ">") (name_same x lt)
      ∙ ap (λ t. codes "<" ++ qname (row_at others x).prefix_text (row_at others x).local_name ++ t ++ attributes_octets rows set rule x ++ codes ">") (namespace_octets_same x lt)
      ∙ ap (λ t. codes "<" ++ qname (row_at others x).prefix_text (row_at others x).local_name ++ namespace_octets others set rule x ++ t ++ codes ">") (attributes_octets_same x lt)

  end_tag_same : (x : ℕ) → x < m → end_tag rows x ≡ end_tag others x
  end_tag_same x lt = ap (λ t. codes "</" ++ t ++ codes ">") (name_same x lt)

  module _ (comments : Bool) (inside : StandsInside rows m set) where
    no_line_feed : (x : ℕ) → x < m → set x ≡ true → (octets : List ℕ) → with_line_feed rows x octets ≡ with_line_feed others x octets
    no_line_feed x lt member octets =
        with_line_feed-none rows x octets (inside.inner x member)
        ∙ sym (with_line_feed-none others x octets (λ e. inside.inner x member (same_parent rows others w w' m alike x lt ∙ e)))

    opening_of_same : (x : ℕ) → x < m → (k : Kind) → opening_of rows set rule comments x k ≡ opening_of others set rule comments x k
    opening_of_same x lt Root = refl
    opening_of_same x lt Element =
        ap (λ t. if set x then t else namespace_octets rows set rule x ++ attributes_octets rows set rule x) (start_tag_same x lt)
        ∙ ap (λ t. if set x then start_tag others set rule x else t ++ attributes_octets rows set rule x) (namespace_octets_same x lt)
        ∙ ap (λ t. if set x then start_tag others set rule x else namespace_octets others set rule x ++ t) (attributes_octets_same x lt)
    opening_of_same x lt Namespace = refl
    opening_of_same x lt Attribute = refl
    opening_of_same x lt Text = ap (λ t. if set x then text_octets t else []) (sym (alike.same x lt).value)
    opening_of_same x lt Comment =
        if_same (comments && set x) _ _ [] (λ on. no_line_feed x lt (and_parts comments (set x) on).1 (comment_octets (row_at rows x).value) ∙ ap (λ t. with_line_feed others x (comment_octets t)) (sym (alike.same x lt).value))
    opening_of_same x lt Instruction =
        if_same (set x) _ _ []
        (λ on. no_line_feed x lt on (pi_octets (row_at rows x).local_name (row_at rows x).value)
        ∙ ap (λ t. with_line_feed others x (pi_octets t (row_at rows x).value)) (sym (alike.same x lt).local_name)
        ∙ ap (λ t. with_line_feed others x (pi_octets (row_at others x).local_name t)) (sym (alike.same x lt).value))

    opening_same : (x : ℕ) → x < m → opening rows set rule comments x ≡ opening others set rule comments x
    opening_same x lt = ap (opening_of rows set rule comments x) (sym (alike.same x lt).kind) ∙ opening_of_same x lt (kind_of others x)

    closing_of_same : (x : ℕ) → x < m → (k : Kind) → closing_of rows set x k ≡ closing_of others set x k
    closing_of_same x lt Root = refl
    closing_of_same x lt Element = ap (λ t. if set x then t else []) (end_tag_same x lt)
    closing_of_same x lt Namespace = refl
    closing_of_same x lt Attribute = refl
    closing_of_same x lt Text = refl
    closing_of_same x lt Comment = refl
    closing_of_same x lt Instruction = refl

    closing_same : (x : ℕ) → x < m → closing rows set x ≡ closing others set x
    closing_same x lt = ap (closing_of rows set x) (sym (alike.same x lt).kind) ∙ closing_of_same x lt (kind_of others x)

    none_below : (k : ℕ) → 0 < k → k < 0 → set k ≡ false
    none_below k pos lt = absurd (omega arith)

    pub local : canon rule comments rows set ≡ canon rule comments others set
    local =
        let there = alike.there in let there' = alike.there_too in
        outputs_agree m (length rows) (length others) (parent_of rows) (parent_of others) (last_of rows) (last_of others) (is_child rows) (is_child others)
        (opening rows set rule comments) (opening others set rule comments) (closing rows set) (closing others set)
        (tree_of rows w) (tree_of others w') (some rows others w w' m alike) (omega arith) (omega arith)
        (λ x le. no_opening rows w set rule comments x (quiet_behind rows w set 0 m none_below inside.front x le))
        (λ x le. no_closing rows w set rule comments x (quiet_behind rows w set 0 m none_below inside.front x le))
        (λ x le. no_opening others w' set rule comments x (quiet_behind others w' set 0 m none_below inside.front x le))
        (λ x le. no_closing others w' set rule comments x (quiet_behind others w' set 0 m none_below inside.front x le))
        (same_parent rows others w w' m alike)
        (λ x lt. ap (λ k. not (is_field k)) (sym (alike.same x lt).kind))
        opening_same closing_same

pub canon_local : (rule : Rule) (comments : Bool) (rows others : List RowOf) (m : ℕ) (set : ℕ → Bool) → IsWellShaped rows → IsWellShaped others → BeginAlike m rows others → StandsInside rows m set → canon rule comments rows set ≡ canon rule comments others set
canon_local rule comments rows others m set w w' alike inside = local rows others w w' m alike set rule comments inside

-- ---- a subtree
subtree_inside : (rows : List RowOf) (m e : ℕ) → IsWellShaped rows → 0 < (row_at rows e).parent → e < length rows → (row_at rows e).last < m → StandsInside rows m (in_subtree rows e)
subtree_inside rows m e w deep there ends = record {
  front = λ k le. and_right (nat_le e k) (nat_lt k ((row_at rows e).last + 1)) (le-ltb k ((row_at rows e).last + 1) (omega (arith, le, ends)));
  inner = λ k member up.
      let parts = and_parts (nat_le e k) (nat_lt k ((row_at rows e).last + 1)) member in
      let from : e ≤ k = leb-true e k parts.0 in
      let until : k < (row_at rows e).last + 1 = ltb-true k ((row_at rows e).last + 1) parts.1 in
      elim (cases_lt e k) [
        | inl below ↦
            let reach = last_below rows w e there in
            let up' = (tree_of rows w).below e k below (omega (arith, until, reach)) (omega (arith, until)) in
            let e_pos = deep_row in omega (arith, up, up', e_pos)
        | inr not_below ↦ let same : k ≡ e = omega (arith, from, not_below) in let p : (row_at rows k).parent ≡ (row_at rows e).parent = ap (λ j. (row_at rows j).parent) same in omega (arith, p, up, deep)
      ];
}
  where
    deep_row : 0 < e
    deep_row = elim (cases_lt 0 e) [
      | inl pos ↦ pos
      | inr none ↦ let z : e ≡ 0 = omega (arith, none) in let p : (row_at rows e).parent ≡ (row_at rows 0).parent = ap (λ j. (row_at rows j).parent) z in let r = w.root_parent in omega (arith, p, r, deep)
    ]

pub subtree_local : (rule : Rule) (comments : Bool) (rows others : List RowOf) (m e : ℕ) → IsWellShaped rows → IsWellShaped others → BeginAlike m rows others
    → 0 < (row_at rows e).parent → e < length rows → (row_at rows e).last < m → (row_at others e).last ≡ (row_at rows e).last
    → canon rule comments rows (in_subtree rows e) ≡ canon rule comments others (in_subtree others e)
subtree_local rule comments rows others m e w w' alike deep there ends same =
    canon_local rule comments rows others m (in_subtree rows e) w w' alike (subtree_inside rows m e w deep there ends)
    ∙ ap (λ t. canon rule comments others (λ k. nat_le e k && nat_lt k (t + 1))) (sym same)
