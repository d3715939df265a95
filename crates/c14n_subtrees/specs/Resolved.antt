-- The tree that the canonical form of one element spells, with its names resolved: they are the names of the rows
-- (Namespaces in XML 1.0, section 6).
use Rattle.std.specs.Prelude.{ℕ, zero, suc, Bool, false, List, [], ◌∷◌, ◌++◌, length, map, Option, if◌then◌else◌}
use Rattle.xml_doc.specs.declared.row.Kind.{Kind}
use Rattle.xml_doc.specs.declared.row.Kind.TheVariants as kinds
use Rattle.xml_doc.specs.Rows.{RowOf}
use Rattle.xml_doc.specs.Shape.{row_at}
use Rattle.xml_resolve.specs.Resolve.{Name, NamedValue, NamedTag, Resolved, nothing_in, text_in, comment_in, instruction_in, element_in}
use Rattle.c14n_text.specs.Rows.{kind_of, parent_of, is_child}
use Rattle.c14n_text.specs.Tree.{children}
use Rattle.c14n_text.specs.Namespaces.{Rule}
use Rattle.c14n_text.specs.Bases.{joined_base, written_attributes, written_value}
use Rattle.c14n_subtrees.specs.Rendered.{rendered}

-- the name of a row
abbrev pub row_name : RowOf → Name
row_name r = record { prefix = r.prefix_text; local = r.local_name; uri = r.uri }

-- attribute row a, with the value that is written
abbrev pub named_value_at : List RowOf → Option (ℕ × List ℕ) → ℕ → NamedValue
named_value_at rows joined a = record { name = row_name (row_at rows a); value = written_value rows joined a }

-- the start tag of element x, without offsets
abbrev pub named_tag_at : List RowOf → (ℕ → Bool) → Rule → ℕ → NamedTag
named_tag_at rows set rule x = record {
  name = row_name (row_at rows x);
  declared = rendered rows set rule x;
  attributes = map (named_value_at rows (joined_base rows set rule x)) (written_attributes rows set rule (joined_base rows set rule x) x);
  from = 0;
  body_from = 0;
  is_empty = false;
}

-- a text before other nodes, joined to one with which they begin
abbrev pub text_before_in : List ℕ → Resolved → Resolved
text_before_in [] k = k
text_before_in (c ∷ w) nothing_in = text_in (c ∷ w) nothing_in
text_before_in (c ∷ w) (text_in v k) = text_in ((c ∷ w) ++ v) k
text_before_in (c ∷ w) (comment_in v k) = text_in (c ∷ w) (comment_in v k)
text_before_in (c ∷ w) (instruction_in target v k) = text_in (c ∷ w) (instruction_in target v k)
text_before_in (c ∷ w) (element_in tag inner until k) = text_in (c ∷ w) (element_in tag inner until k)

-- the node of row x with its children, before other nodes
abbrev pub resolved_node_of : List RowOf → (ℕ → Bool) → Rule → (comments : Bool) → ℕ → (inner rest : Resolved) → Kind → Resolved
resolved_node_of rows set rule comments x inner rest kinds.Element = element_in (named_tag_at rows set rule x) inner 0 rest
resolved_node_of rows set rule comments x inner rest kinds.Text = text_before_in (row_at rows x).value rest
resolved_node_of rows set rule comments x inner rest kinds.Comment = if comments then comment_in (row_at rows x).value rest else rest
resolved_node_of rows set rule comments x inner rest kinds.Instruction = instruction_in (row_at rows x).local_name (row_at rows x).value rest
resolved_node_of rows set rule comments x inner rest kinds.Root = rest
resolved_node_of rows set rule comments x inner rest kinds.Namespace = rest
resolved_node_of rows set rule comments x inner rest kinds.Attribute = rest

-- the nodes of some rows, one behind the other
abbrev pub resolved_nodes : (ℕ → Resolved → Resolved) → List ℕ → Resolved
resolved_nodes node [] = nothing_in
resolved_nodes node (y ∷ ys) = node y (resolved_nodes node ys)

-- row x with all that is below it, before other nodes. The first number bounds the depth
abbrev pub resolved_node_at : List RowOf → (ℕ → Bool) → Rule → Bool → ℕ → ℕ → Resolved → Resolved
resolved_node_at rows set rule comments zero x rest = rest
resolved_node_at rows set rule comments (suc depth) x rest =
    resolved_node_of rows set rule comments x
    (resolved_nodes (resolved_node_at rows set rule comments depth) (children (length rows) (parent_of rows) (is_child rows) x)) rest (kind_of rows x)

-- element x alone, with all that is below it
abbrev pub resolved_subtree : Rule → (comments : Bool) → List RowOf → (ℕ → Bool) → ℕ → Resolved
resolved_subtree rule comments rows set x = resolved_node_at rows set rule comments (length rows) x nothing_in

-- a tag without its offsets, as a start tag
abbrev pub unplaced_named_tag : NamedTag → NamedTag
unplaced_named_tag t = record { name = t.name; declared = t.declared; attributes = t.attributes; from = 0; body_from = 0; is_empty = false }

-- a tree whose names are resolved, without offsets and with start tags alone
abbrev pub unplaced_names : Resolved → Resolved
unplaced_names nothing_in = nothing_in
unplaced_names (text_in w k) = text_in w (unplaced_names k)
unplaced_names (comment_in w k) = comment_in w (unplaced_names k)
unplaced_names (instruction_in target w k) = instruction_in target w (unplaced_names k)
unplaced_names (element_in t inner until k) = element_in (unplaced_named_tag t) (unplaced_names inner) 0 (unplaced_names k)
