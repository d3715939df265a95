-- The attribute octets of an element, with the `xml:base` that Canonical XML 1.1 gives it. Which values are joined, and how,
-- is this project's own rule in the place of Canonical XML 1.1, section 2.4
use Rattle.std.specs.Prelude.{ℕ, Bool, true, false, not, ◌&&◌, Option, Some, None, List, [], ◌∷◌, ◌++◌, codes, if◌then◌else◌, is_some}
use Rattle.std.specs.List.{flat_map, filter, take_while}
use Rattle.std.specs.Str.{bytes_eq}
use Rattle.xml_doc.specs.Rows.{RowOf}
use Rattle.xml_doc.specs.Shape.{row_at}
use Rattle.xml_doc.specs.Fields.{attribute_rows}
use Rattle.xml_doc.specs.Kinds.{is_element}
use Rattle.c14n_text.specs.Rows.{above, kind_of}
use Rattle.c14n_text.specs.Namespaces.{Rule, inclusive, eleven, exclusive}
use Rattle.c14n_text.specs.Escapes.{attribute_octets}
use Rattle.c14n_text.specs.Attributes.{is_xml, imported, in_order, imports_attributes}
use Rattle.c14n_bases.specs.Join.{join}

-- whether attribute row a is an `xml:base`
abbrev pub is_base : List RowOf → ℕ → Bool
is_base rows a = is_xml rows a && bytes_eq (row_at rows a).local_name (codes "base")

-- that of element e, in the set or not
abbrev pub bases : List RowOf → ℕ → List ℕ
bases rows e = filter (is_base rows) (attribute_rows rows e)

-- the unbroken run of elements outside the set from the parent of x upwards, the nearest first
abbrev pub omitted : List RowOf → (ℕ → Bool) → ℕ → List ℕ
omitted rows set x = take_while (λ e. not (set e)) (above rows x)

abbrev pub omitted_bases : List RowOf → (ℕ → Bool) → ℕ → List ℕ
omitted_bases rows set x = flat_map (bases rows) (omitted rows set x)

-- the value so far, and one further out, which is its base. A value alone stays as it is. The row is the innermost one, and
-- names the attribute
abbrev pub with_base : List RowOf → Option (ℕ × List ℕ) → ℕ → Option (ℕ × List ℕ)
with_base rows None b = Some (b, (row_at rows b).value)
with_base rows (Some so_far) b = Some (so_far.0, join (row_at rows b).value so_far.1)

abbrev pub with_bases : List RowOf → Option (ℕ × List ℕ) → List ℕ → Option (ℕ × List ℕ)
with_bases rows so_far [] = so_far
with_bases rows so_far (b ∷ further) = with_bases rows (with_base rows so_far b) further

-- by Canonical XML 1.1
abbrev pub is_eleven : Rule → Bool
is_eleven inclusive = false
is_eleven eleven = true
is_eleven (exclusive listed) = false

abbrev pub is_none : List ℕ → Bool
is_none [] = true
is_none (x ∷ xs) = false

-- what stands as the `xml:base` of element x in the place of its own: where attributes are imported to x and an element of the run has
-- one, the value of x, in the set or not, joined below those of the run
abbrev pub joined_base : List RowOf → (ℕ → Bool) → Rule → ℕ → Option (ℕ × List ℕ)
joined_base rows set rule x =
    if is_eleven rule && (is_element (kind_of rows x) && (imports_attributes rows set rule x && not (is_none (omitted_bases rows set x))))
    then with_bases rows None (bases rows x ++ omitted_bases rows set x)
    else None

-- an empty one isn't written
abbrev pub base_place : Option (ℕ × List ℕ) → List ℕ
base_place None = []
base_place (Some (place, [])) = []
base_place (Some (place, c ∷ cs)) = place ∷ []

-- whether x writes its attribute a as one of its own: it is in the set, and no `xml:base` in whose place another stands
abbrev pub is_own : List RowOf → (ℕ → Bool) → Option (ℕ × List ℕ) → ℕ → Bool
is_own rows set joined a = set a && not (is_some joined && is_base rows a)

-- the attributes that x writes: its own in the set, in row order, or those, the imported ones and a joined `xml:base` in order
abbrev pub written_attributes : List RowOf → (ℕ → Bool) → Rule → Option (ℕ × List ℕ) → ℕ → List ℕ
written_attributes rows set rule joined x =
    if imports_attributes rows set rule x
    then in_order rows (filter (is_own rows set joined) (attribute_rows rows x) ++ imported rows rule x ++ base_place joined)
    else filter set (attribute_rows rows x)

-- the value of an attribute row, as it is written
abbrev pub joined_value : Option (ℕ × List ℕ) → List ℕ → List ℕ
joined_value None value = value
joined_value (Some joined) value = joined.1

abbrev pub written_value : List RowOf → Option (ℕ × List ℕ) → ℕ → List ℕ
written_value rows joined a = if is_base rows a then joined_value joined (row_at rows a).value else (row_at rows a).value

-- the octets of an attribute row
abbrev pub row_attribute : List RowOf → Option (ℕ × List ℕ) → ℕ → List ℕ
row_attribute rows joined a = attribute_octets (row_at rows a).prefix_text (row_at rows a).local_name (written_value rows joined a)

-- the attribute octets of x
abbrev pub attributes_octets : List RowOf → (ℕ → Bool) → Rule → ℕ → List ℕ
attributes_octets rows set rule x =
    flat_map (row_attribute rows (joined_base rows set rule x)) (written_attributes rows set rule (joined_base rows set rule x) x)
