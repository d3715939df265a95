-- The attribute octets of an element: Canonical XML 1.0, section 2.3 "Attribute Axis", and for what is imported to an
-- element whose parent is outside the set, section 2.4 of Canonical XML 1.0 and 1.1. Exclusive XML Canonicalization 1.0,
-- section 3, imports nothing. What Canonical XML 1.1 does with `xml:base` stands in Bases.antt
use Rattle.std.specs.Prelude.{ℕ, Bool, true, false, not, ◌&&◌, ◌||◌, ◌==◌, Option, Some, None, List, [], ◌∷◌, ◌++◌, codes, if◌then◌else◌}
use Rattle.std.specs.List.{flat_map, filter, find, list_any}
use Rattle.std.specs.Str.{bytes_eq}
use Rattle.std.specs.Cmp.Lexicographic.{slice_cmp}
use Rattle.std.specs.Ordering.{nat_cmp, ordering_then}
use Rattle.std.specs.declared.cmp.Ordering.{Ordering}
use Rattle.std.specs.declared.cmp.Ordering.TheVariants.{Less, Equal, Greater}
use Rattle.sig_base.specs.Names.{xml_name}
use Rattle.xml_doc.specs.Kinds.{is_element}
use Rattle.xml_doc.specs.Rows.{RowOf}
use Rattle.xml_doc.specs.Shape.{row_at}
use Rattle.xml_doc.specs.Fields.{attribute_rows}
use Rattle.c14n_text.specs.Rows.{above, kind_of, parent_of}
use Rattle.c14n_text.specs.Namespaces.{Rule, inclusive, eleven, exclusive}
use Rattle.c14n_text.specs.Escapes.{attribute_octets}

-- whether attribute row a is one of the namespace of `xml`: Namespaces in XML 1.0, section 3
abbrev pub is_xml : List RowOf → ℕ → Bool
is_xml rows a = bytes_eq (row_at rows a).uri xml_name

-- the attributes of element e in that namespace, in the set or not
abbrev pub xml_attributes : List RowOf → ℕ → List ℕ
xml_attributes rows e = filter (is_xml rows) (attribute_rows rows e)

-- those of all elements above x, the nearest element first
abbrev pub xml_above : List RowOf → ℕ → List ℕ
xml_above rows x = flat_map (xml_attributes rows) (above rows x)

-- two attribute rows have one local name
abbrev pub same_name : List RowOf → ℕ → ℕ → Bool
same_name rows a b = bytes_eq (row_at rows b).local_name (row_at rows a).local_name

-- a row that was found is row a
abbrev pub is_row : Option ℕ → ℕ → Bool
is_row None a = false
is_row (Some b) a = b == a

-- the `xml:` attributes that are imported as they stand: by Canonical XML 1.0 each, by Canonical XML 1.1 `xml:lang` and
-- `xml:space`, its simple inheritable attributes
abbrev pub is_inheritable : Rule → List ℕ → Bool
is_inheritable inclusive name = true
is_inheritable eleven name = bytes_eq name (codes "lang") || bytes_eq name (codes "space")
is_inheritable (exclusive listed) name = false

-- whether the `xml:` attribute a of an element above x is imported to x: it is the nearest of its local name, and x has none of
-- that name, in the set or not
abbrev pub is_imported : List RowOf → Rule → ℕ → ℕ → Bool
is_imported rows rule x a =
    is_inheritable rule (row_at rows a).local_name
    && (is_row (find (same_name rows a) (xml_above rows x)) a && not (list_any (same_name rows a) (xml_attributes rows x)))

-- the attributes that are imported to x, the nearest element's first
abbrev pub imported : List RowOf → Rule → ℕ → List ℕ
imported rows rule x = filter (is_imported rows rule x) (xml_above rows x)

-- the order of attributes: by namespace name, then by local name, each as octets: Canonical XML 1.0, section 2.2
abbrev pub attribute_cmp : List RowOf → ℕ → ℕ → Ordering
attribute_cmp rows a b =
    ordering_then (slice_cmp nat_cmp (row_at rows a).uri (row_at rows b).uri)
    (slice_cmp nat_cmp (row_at rows a).local_name (row_at rows b).local_name)

-- attribute a, put where it belongs into a list in order. In the place of one of its own name, which an element does not
-- have, it would stand alone
abbrev pub placed : Ordering → ℕ → ℕ → (more rest : List ℕ) → List ℕ
placed Less a b more rest = a ∷ b ∷ more
placed Equal a b more rest = a ∷ more
placed Greater a b more rest = b ∷ rest

abbrev pub put_in : List RowOf → ℕ → List ℕ → List ℕ
put_in rows a [] = a ∷ []
put_in rows a (b ∷ more) = placed (attribute_cmp rows a b) a b more (put_in rows a more)

-- the attributes of a list in order
abbrev pub in_order : List RowOf → List ℕ → List ℕ
in_order rows [] = []
in_order rows (a ∷ more) = put_in rows a (in_order rows more)

-- by Canonical XML
abbrev pub is_inclusive : Rule → Bool
is_inclusive inclusive = true
is_inclusive eleven = true
is_inclusive (exclusive listed) = false

-- whether attributes are imported to x: by Canonical XML, where x is in the set and its parent is an element outside it
abbrev pub imports_attributes : List RowOf → (ℕ → Bool) → Rule → ℕ → Bool
imports_attributes rows set rule x =
    is_inclusive rule && set x && is_element (kind_of rows (parent_of rows x)) && not (set (parent_of rows x))
