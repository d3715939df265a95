-- The context of an evaluation (XPath 1.0, section 1).
use Rattle.std.specs.Prelude.{ℕ, ◌<◌, ◌^◌, Bool, ◌==◌, List, length, Option, IfSome}
use Rattle.std.specs.List.{filter, list_any, range_with_len}
use Rattle.xml_doc.specs.Rows.{RowOf}
use Rattle.xpath_eval.specs.declared.scene.Scene.{Scene}

-- the document, the context node, the context position and size, and the node of `here()` (XML Signature 1.1, section 6.6.3)
pub record Context : Type 0 where
  pub rows : List RowOf
  pub node : ℕ
  pub place : ℕ
  pub size : ℕ
  pub here : Option ℕ

-- the context that the program holds
abbrev pub context_of : Scene → Context
context_of s = record { rows = s.doc.now; node = s.node; place = s.place; size = s.size; here = s.here }

-- the same with another node, position and size
abbrev pub at : Context → ℕ → ℕ → ℕ → Context
at c y place size = record { rows = c.rows; node = y; place = place; size = size; here = c.here }

-- the nodes are rows of the document
pub record Stands (c : Context) : Type 0 where
  pub node : c.node < length c.rows
  pub here : IfSome c.here (λ h. h < length c.rows)
  pub place : c.place < 2 ^ 63
  pub size : c.size < 2 ^ 63

abbrev pub is_in : List ℕ → ℕ → Bool
is_in ys y = list_any (λ z. y == z) ys

-- nodes in document order, each once
abbrev pub in_document_order : List RowOf → List ℕ → List ℕ
in_document_order rows ys = filter (is_in ys) (range_with_len 0 (length rows))
