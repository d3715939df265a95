-- A set of the rows of a document.
use Rattle.std.specs.Prelude.{◌≡◌, ◌<◌, ◌≤◌, ◌+◌, ◌&&◌, ℕ, Bool, true, false, nat_lt, nat_le, List, slice_index_or}
use Rattle.xml_doc.specs.Rows.{RowOf}
use Rattle.xml_doc.specs.Shape.{row_at}
use Rattle.xml_doc.specs.declared.row.Kind.{Kind}
use Rattle.xml_doc.specs.declared.row.Kind.TheVariants.{Root, Element, Namespace, Attribute, Text, Comment, Instruction}

-- whether the number k is in the set
abbrev pub has : List Bool → ℕ → Bool
has members k = slice_index_or members k false

-- the rows of the document, and for each whether it is in the set
pub record SetOf : Type 0 where
  pub rows : List RowOf
  pub members : List Bool

-- the members change so, and nothing else
pub record ChangesTo (old new : SetOf) (test : ℕ → Bool) : Type 0 where
  pub members : (k : ℕ) → has new.members k ≡ test k
  pub rows : new.rows ≡ old.rows

-- row k is row i or stands below it: a subtree is the range from its row to the last below it
abbrev pub in_subtree : List RowOf → ℕ → ℕ → Bool
in_subtree rows i k = nat_le i k && nat_lt k ((row_at rows i).last + 1)

-- a comment: XPath 1.0, section 5.6
abbrev pub is_comment : Kind → Bool
is_comment Root = false
is_comment Element = false
is_comment Namespace = false
is_comment Attribute = false
is_comment Text = false
is_comment Comment = true
is_comment Instruction = false

-- each member is one of the numbers from `from` to before `until`
pub record Spanned (members : List Bool) (from until : ℕ) : Type 0 where
  pub below : (k : ℕ) → k < from → has members k ≡ false
  pub behind : (k : ℕ) → until ≤ k → has members k ≡ false
