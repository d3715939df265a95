-- The prefixes that the attributes of an element utilize: Exclusive XML Canonicalization 1.0, section 1.1.
use Rattle.std.specs.Prelude.{⊤, ◌≡◌, ℕ, Bool, List, map}
use Rattle.std.specs.List.{list_any}
use Rattle.xml_doc.specs.Rows.{RowOf}
use Rattle.xml_doc.specs.Shape.{row_at}
use Rattle.xml_doc.specs.Fields.{namespace_rows, attribute_rows}
use Rattle.c14n_text.specs.Namespaces.{Rule, inclusive, eleven, exclusive, has_prefix}

-- namespace row z has the prefix of one of these attribute rows, which is in the set
abbrev pub is_utilized : List RowOf → (ℕ → Bool) → List ℕ → ℕ → Bool
is_utilized rows set attributes z = list_any (has_prefix rows set (row_at rows z).local_name) attributes

-- the same of each namespace row of element e
abbrev pub marks_of : List RowOf → (ℕ → Bool) → ℕ → List ℕ → List Bool
marks_of rows set e attributes = map (is_utilized rows set attributes) (namespace_rows rows e)

-- the namespace rows of element e are marked, where the rule asks for it
abbrev pub AreMarked : List RowOf → (ℕ → Bool) → Rule → ℕ → List Bool → Type 0
AreMarked rows set inclusive e marks = ⊤
AreMarked rows set eleven e marks = ⊤
AreMarked rows set (exclusive listed) e marks = marks ≡ marks_of rows set e (attribute_rows rows e)
