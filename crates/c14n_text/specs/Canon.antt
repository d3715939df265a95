-- The canonical form of a set of rows: Canonical XML 1.0, section 2.3, "Processing Model"
use Rattle.std.specs.Prelude.{ℕ, Bool, false, ◌&&◌, ◌==◌, nat_lt, Option, Some, None, List, [], ◌++◌, length, codes, if◌then◌else◌}
use Rattle.xml_doc.specs.declared.row.Kind.{Kind}
use Rattle.xml_doc.specs.declared.row.Kind.TheVariants.{Root, Element, Namespace, Attribute, Text, Comment, Instruction}
use Rattle.xml_doc.specs.Rows.{RowOf}
use Rattle.xml_doc.specs.Shape.{row_at}
pub use Rattle.xml_doc.specs.Top.{document_element}
use Rattle.c14n_text.specs.Rows.{kind_of, parent_of, is_child}
use Rattle.c14n_text.specs.Tree.{children, output}
use Rattle.c14n_text.specs.Escapes.{text_octets, pi_octets, qname}
use Rattle.c14n_text.specs.Namespaces.{Rule, namespace_octets}
use Rattle.c14n_text.specs.Bases.{attributes_octets}

-- row x stands before the document element
abbrev pub is_before_element : ℕ → Option ℕ → Bool
is_before_element x None = false
is_before_element x (Some e) = nat_lt x e

-- a comment or instruction: a child of the root has a line feed behind it before the document element, and one before it
-- after the document element: "Comment Nodes" and "Processing Instruction (PI) Nodes"
abbrev pub with_line_feed : List RowOf → ℕ → List ℕ → List ℕ
with_line_feed rows x octets =
    if parent_of rows x == 0
    then (if is_before_element x (document_element rows) then octets ++ codes "\n" else codes "\n" ++ octets)
    else octets

-- the octets of a comment: "Comment Nodes"
abbrev pub comment_octets : List ℕ → List ℕ
comment_octets text = codes "<!--" ++ text ++ codes "-->"

-- the start tag of an element of the set, and its end tag: "Element Nodes"
abbrev pub start_tag : List RowOf → (ℕ → Bool) → Rule → ℕ → List ℕ
start_tag rows set rule x =
    codes "<" ++ qname (row_at rows x).prefix_text (row_at rows x).local_name ++ namespace_octets rows set rule x
    ++ attributes_octets rows set rule x ++ codes ">"

abbrev pub end_tag : List RowOf → ℕ → List ℕ
end_tag rows x = codes "</" ++ qname (row_at rows x).prefix_text (row_at rows x).local_name ++ codes ">"

-- what stands before the children of a row, by its kind. An element outside the set has no tags, and yet the namespace
-- octets and attribute octets of its rows in the set: "Element Nodes"
abbrev pub opening_of : List RowOf → (ℕ → Bool) → Rule → (comments : Bool) → ℕ → Kind → List ℕ
opening_of rows set rule comments x Element =
    if set x then start_tag rows set rule x else namespace_octets rows set rule x ++ attributes_octets rows set rule x
opening_of rows set rule comments x Text = if set x then text_octets (row_at rows x).value else []
opening_of rows set rule comments x Comment = if comments && set x then with_line_feed rows x (comment_octets (row_at rows x).value) else []
opening_of rows set rule comments x Instruction = if set x
    then with_line_feed rows x (pi_octets (row_at rows x).local_name (row_at rows x).value) else []
opening_of rows set rule comments x Root = []
opening_of rows set rule comments x Namespace = []
opening_of rows set rule comments x Attribute = []

-- what stands behind them
abbrev pub closing_of : List RowOf → (ℕ → Bool) → ℕ → Kind → List ℕ
closing_of rows set x Element = if set x then end_tag rows x else []
closing_of rows set x Root = []
closing_of rows set x Namespace = []
closing_of rows set x Attribute = []
closing_of rows set x Text = []
closing_of rows set x Comment = []
closing_of rows set x Instruction = []

-- the same, by the row's own kind
abbrev pub opening : List RowOf → (ℕ → Bool) → Rule → Bool → ℕ → List ℕ
opening rows set rule comments x = opening_of rows set rule comments x (kind_of rows x)

abbrev pub closing : List RowOf → (ℕ → Bool) → ℕ → List ℕ
closing rows set x = closing_of rows set x (kind_of rows x)

-- the canonical form: what the root writes
abbrev pub canon : Rule → (comments : Bool) → List RowOf → (ℕ → Bool) → List ℕ
canon rule comments rows set =
    output (children (length rows) (parent_of rows) (is_child rows)) (opening rows set rule comments) (closing rows set) (length rows) 0
