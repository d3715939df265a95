-- A row of a document as contracts see it: with its texts as their UTF-8 octets. XPath 1.0, section 5, says what a node has.
use Rattle.std.specs.Prelude.{ℕ, Bool, false, List, []}
use Rattle.xml_doc.specs.declared.row.Row.{Row}
use Rattle.xml_doc.specs.declared.row.Kind.{Kind}

-- the fields of a row
pub record RowOf : Type 0 where
  pub kind : Kind
  pub parent : ℕ
  pub last : ℕ
  pub prefix_text : List ℕ
  pub local_name : List ℕ
  pub uri : List ℕ
  pub value : List ℕ
  pub tag_from : ℕ
  pub body_from : ℕ
  pub body_until : ℕ
  pub empty_tag : Bool

-- a row of which only its kind, its parent and its own number are said: nothing stands below it, and the rest is empty
abbrev pub plain_row : Kind → ℕ → ℕ → RowOf
plain_row kind parent number = record {
  kind = kind;
  parent = parent;
  last = number;
  prefix_text = [];
  local_name = [];
  uri = [];
  value = [];
  tag_from = 0;
  body_from = 0;
  body_until = 0;
  empty_tag = false;
}

-- what a row of the program says, field by field
abbrev pub row_of : Row → RowOf
row_of r = record {
  kind = r.kind;
  parent = r.parent;
  last = r.last;
  prefix_text = r.prefix_text.now;
  local_name = r.local_name.now;
  uri = r.uri.now;
  value = r.value.now;
  tag_from = r.tag_from;
  body_from = r.body_from;
  body_until = r.body_until;
  empty_tag = r.empty_tag;
}
