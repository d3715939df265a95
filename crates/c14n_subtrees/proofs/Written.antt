-- The rows of the attributes that an element writes: each is its own or one of the namespace of `xml`.
use Rattle.std.proofs.Common.{◌≡◌, ℕ, ◌-◌, ◌<◌, Bool, true, false, not, ◌&&◌, ◌⊎◌, eqb, List, [], ◌∷◌, ◌++◌, length, Option, Some, None, refl, arith}
use Rattle.std.specs.Prelude.{codes, if◌then◌else◌}
use Rattle.std.specs.List.{filter}
use Rattle.std.specs.Str.{bytes_eq}
use Rattle.std.specs.declared.cmp.Ordering.{Ordering}
use Rattle.std.specs.declared.cmp.Ordering.TheVariants.{Less, Equal, Greater}
use Rattle.std.proofs.lemmas.Bool.{false≢true, and_parts, eqb-true}
use Rattle.xml_doc.specs.declared.row.Kind.{Kind}
use Rattle.xml_doc.specs.declared.row.Kind.TheVariants as kinds
use Rattle.xml_doc.specs.Kinds.{is_attribute, is_element}
use Rattle.xml_doc.specs.Rows.{RowOf}
use Rattle.xml_doc.specs.Shape.{row_at, IsWellShaped}
use Rattle.xml_doc.specs.Fields.{attribute_rows, is_attribute_of}
use Rattle.c14n_bases.specs.Join.{join}
use Rattle.c14n_text.specs.Rows.{kind_of, parent_of, above}
use Rattle.c14n_text.specs.Namespaces.{Rule}
use Rattle.c14n_text.specs.Attributes.{is_xml, xml_attributes, xml_above, is_imported, imported, attribute_cmp, placed, put_in, in_order, imports_attributes}
use Rattle.c14n_text.specs.Bases.{is_base, bases, omitted, omitted_bases, with_base, with_bases, is_eleven, is_none, joined_base, base_place, is_own, written_attributes}
use Rattle.c14n_subtrees.proofs.Lists.{Each, each_passing, each_append, each_told, each_filtered, each_flat}

pub attribute_kind : (k : Kind) → is_attribute k ≡ true → k ≡ kinds.Attribute
attribute_kind kinds.Attribute e = refl
attribute_kind kinds.Root e = absurd (false≢true e)
attribute_kind kinds.Element e = absurd (false≢true e)
attribute_kind kinds.Namespace e = absurd (false≢true e)
attribute_kind kinds.Text e = absurd (false≢true e)
attribute_kind kinds.Comment e = absurd (false≢true e)
attribute_kind kinds.Instruction e = absurd (false≢true e)

module _ (rows : List RowOf) where
  -- an attribute row
  abbrev pub IsAttributeRow : ℕ → Type 0
  IsAttributeRow z = (z < length rows) × (kind_of rows z ≡ kinds.Attribute)

  -- one of element x
  abbrev pub IsAttributeOf : ℕ → ℕ → Type 0
  IsAttributeOf x z = IsAttributeRow z × (parent_of rows z ≡ x)

  -- one of the namespace of `xml`
  abbrev pub IsXmlRow : ℕ → Type 0
  IsXmlRow z = IsAttributeRow z × (is_xml rows z ≡ true)

  -- one that element x may write
  abbrev pub MayWrite : ℕ → ℕ → Type 0
  MayWrite x z = IsAttributeRow z × ((parent_of rows z ≡ x) ⊎ (is_xml rows z ≡ true))

  pub each_attribute : IsWellShaped rows → (x : ℕ) → Each (IsAttributeOf x) (attribute_rows rows x)
  each_attribute w x =
      let some = w.some in
      each_passing (IsAttributeOf x) (is_attribute_of rows x) 1 (length rows - 1) (λ j ge lt e.
      let p = and_parts (is_attribute (kind_of rows j)) (eqb (parent_of rows j) x) e in
      ((omega arith, attribute_kind (kind_of rows j) p.0), eqb-true (parent_of rows j) x p.1))

  pub each_xml : IsWellShaped rows → (e : ℕ) → Each IsXmlRow (xml_attributes rows e)
  each_xml w e = each_filtered (IsAttributeOf e) IsXmlRow (is_xml rows) (attribute_rows rows e) (λ z h is. (h.0, is)) (each_attribute w e)

  pub each_base : IsWellShaped rows → (e : ℕ) → Each IsXmlRow (bases rows e)
  each_base w e =
      each_filtered (IsAttributeOf e) IsXmlRow (is_base rows) (attribute_rows rows e)
      (λ z h is. (h.0, (and_parts (is_xml rows z) (bytes_eq (row_at rows z).local_name (codes "base")) is).0)) (each_attribute w e)

  put_each : (P : ℕ → Type 0) (a : ℕ) (ys : List ℕ) → P a → Each P ys → Each P (put_in rows a ys)
  put_each P a [] h k = (h, tt)
  put_each P a (b ∷ more) h k = go (attribute_cmp rows a b) (put_each P a more h k.1)
    where
      go : (o : Ordering) → Each P (put_in rows a more) → Each P (placed o a b more (put_in rows a more))
      go Less rest = (h, (k.0, k.1))
      go Equal rest = (h, k.1)
      go Greater rest = (k.0, rest)

  order_each : (P : ℕ → Type 0) (ys : List ℕ) → Each P ys → Each P (in_order rows ys)
  order_each P [] k = tt
  order_each P (a ∷ more) k = put_each P a (in_order rows more) k.0 (order_each P more k.1)

  -- ---- a joined value

  abbrev pub IsJoined : (ℕ → Type 0) → (List ℕ → Type 0) → Option (ℕ × List ℕ) → Type 0
  IsJoined P Q None = Unit {0}
  IsJoined P Q (Some joined) = P joined.0 × Q joined.1

  module _ (P : ℕ → Type 0) (Q : List ℕ → Type 0) (closed : (base own : List ℕ) → Q base → Q own → Q (join base own)) where
    abbrev Serves : ℕ → Type 0
    Serves z = P z × Q (row_at rows z).value

    base_joined : (so_far : Option (ℕ × List ℕ)) (b : ℕ) → IsJoined P Q so_far → Serves b → IsJoined P Q (with_base rows so_far b)
    base_joined None b h k = k
    base_joined (Some so_far) b h k = (h.0, closed (row_at rows b).value so_far.1 k.1 h.1)

    bases_joined : (so_far : Option (ℕ × List ℕ)) (ys : List ℕ) → IsJoined P Q so_far → Each Serves ys → IsJoined P Q (with_bases rows so_far ys)
    bases_joined so_far [] h k = h
    bases_joined so_far (b ∷ further) h k = bases_joined (with_base rows so_far b) further (base_joined so_far b h k.0) k.1

    pub joined_holds : (set : ℕ → Bool) (rule : Rule) (x : ℕ) → ((e : ℕ) → Each Serves (bases rows e)) → IsJoined P Q (joined_base rows set rule x)
    joined_holds set rule x each = by (is_eleven rule && (is_element (kind_of rows x) && (imports_attributes rows set rule x && not (is_none (omitted_bases rows set x)))))
      where
        by : (b : Bool) → IsJoined P Q (if b then with_bases rows None (bases rows x ++ omitted_bases rows set x) else None)
        by true = bases_joined None (bases rows x ++ omitted_bases rows set x) tt (each_append Serves (bases rows x) (omitted_bases rows set x) (each x) (each_flat Serves (bases rows) (omitted rows set x) each))
        by false = tt

  -- ---- all that is written

  module _ (w : IsWellShaped rows) (set : ℕ → Bool) (rule : Rule) (P : ℕ → Type 0) (x : ℕ)
      (own : (z : ℕ) → IsAttributeOf x z → P z) (other : (z : ℕ) → IsXmlRow z → P z) where
    mine : (q : ℕ → Bool) → Each P (filter q (attribute_rows rows x))
    mine q = each_filtered (IsAttributeOf x) P q (attribute_rows rows x) (λ z h _. own z h) (each_attribute w x)

    others : Each P (imported rows rule x)
    others =
        each_filtered IsXmlRow P (is_imported rows rule x) (xml_above rows x) (λ z h _. other z h)
        (each_flat IsXmlRow (xml_attributes rows) (above rows x) (each_xml w))

    place : (joined : Option (ℕ × List ℕ)) → IsJoined P (λ v. Unit {0}) joined → Each P (base_place joined)
    place None h = tt
    place (Some (a, [])) h = tt
    place (Some (a, c ∷ cs)) h = (h.0, tt)

    joined_place : Each P (base_place (joined_base rows set rule x))
    joined_place =
        place (joined_base rows set rule x) (joined_holds P (λ v. Unit {0}) (λ _ _ _ _. tt) set rule x
        (λ e. each_told IsXmlRow (λ z. P z × Unit {0}) (bases rows e) (λ z h. (other z h, tt)) (each_base w e)))

    pub written_each : Each P (written_attributes rows set rule (joined_base rows set rule x) x)
    written_each = by (imports_attributes rows set rule x)
      where
        joined : Option (ℕ × List ℕ)
        joined = joined_base rows set rule x

        by : (b : Bool) → Each P (if b then in_order rows (filter (is_own rows set joined) (attribute_rows rows x) ++ imported rows rule x ++ base_place joined) else filter set (attribute_rows rows x))
        by true =
            order_each P (filter (is_own rows set joined) (attribute_rows rows x) ++ imported rows rule x ++ base_place joined)
            (each_append P (filter (is_own rows set joined) (attribute_rows rows x) ++ imported rows rule x) (base_place joined)
            (each_append P (filter (is_own rows set joined) (attribute_rows rows x)) (imported rows rule x) (mine (is_own rows set joined)) others) joined_place)
        by false = mine set
