-- What XPath 1.0, section 2.2, says of the axes over and above their definitions.
use Rattle.std.specs.Prelude.{◌≡◌, ◌≢◌, ◌↔◌, ℕ, zero, suc, ◌<◌, true, false, List, [], ◌∷◌, length}
use Rattle.std.specs.List.{filter}
use Rattle.xml_doc.specs.Axes.{is_ancestor, is_field_at, on_axis}
use Rattle.xml_doc.specs.Rows.{RowOf}
use Rattle.xml_doc.specs.Shape.{row_at}
use Rattle.xml_doc.specs.declared.axis.Axis.TheVariants.{Ancestor, Descendant, Following, Preceding, SelfNode}

-- the row that n steps from child to parent lead to
unfoldable pub climbed : List RowOf → ℕ → ℕ → ℕ
climbed rows zero x = x
climbed rows (suc n) x = climbed rows n (row_at rows x).parent

-- the ancestors of a node are its parent, the parent's parent and so on
abbrev pub AncestorsAreParents : List RowOf → Type 0
AncestorsAreParents rows = (x y : ℕ) → x < length rows → (is_ancestor rows x y ≡ true) ↔ ((y ≢ x) × ((n : ℕ) × (climbed rows n x ≡ y)))

-- five axes partition a document, attribute and namespace nodes aside: each node stands on exactly one of them
abbrev pub FiveAxesPartition : List RowOf → Type 0
FiveAxesPartition rows = (x y : ℕ) → x < length rows → y < length rows → is_field_at rows y ≡ false
    → length (filter (λ a. on_axis a rows x y) (Ancestor ∷ Descendant ∷ Following ∷ Preceding ∷ SelfNode ∷ [])) ≡ 1
