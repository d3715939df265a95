-- The filter transform of XML-Signature XPath Filter 2.0, section 3.
use Rattle.std.specs.Prelude.{ℕ, Bool, not, ◌&&◌, ◌||◌, nat_lt, List, [], ◌∷◌, length}
use Rattle.std.specs.List.{list_any, range_with_len}
use Rattle.sig_base.specs.declared.method.FilterKind.{FilterKind}
use Rattle.sig_base.specs.declared.method.FilterKind.TheVariants.{Intersect, Subtract, Union}
use Rattle.xml_doc.specs.Rows.{RowOf}
use Rattle.node_sets.specs.Members.{in_subtree}

-- a node set with the subtrees of its rows, namespace rows and attribute rows among them
abbrev pub with_subtrees : List RowOf → (ℕ → Bool) → ℕ → Bool
with_subtrees rows nodes k = nodes k || list_any (λ x. nodes x && in_subtree rows x k) (range_with_len 0 (length rows))

-- what a filter makes of the rows so far, with the rows that it selects and their subtrees
abbrev pub combined : FilterKind → (so_far selected : Bool) → Bool
combined Intersect so_far selected = so_far && selected
combined Subtract so_far selected = so_far && not selected
combined Union so_far selected = so_far || selected

-- a filter: its kind, and the rows that its expression selects, with their subtrees
pub record Filter : Type 0 where
  pub kind : FilterKind
  pub nodes : ℕ → Bool

-- what the filters make of some rows, one after the other
abbrev pub filtered_from : List Filter → (ℕ → Bool) → ℕ → Bool
filtered_from [] so_far k = so_far k
filtered_from (f ∷ more) so_far k = filtered_from more (λ y. combined f.kind (so_far y) (f.nodes y)) k

-- what the transform gives of an input: the filters begin with all rows of the document, and the input is met with what they
-- make of these
abbrev pub filtered : List RowOf → List Filter → (input : ℕ → Bool) → ℕ → Bool
filtered rows filters input k = input k && filtered_from filters (λ y. nat_lt y (length rows)) k
