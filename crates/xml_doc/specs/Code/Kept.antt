-- A row as it is kept: the fields that most rows have, and where those stand that few have
use Rattle.std.specs.Prelude.{◌≡◌, ℕ, zero, suc, ◌≤◌, List, [], length, slice_index_or, cond}
use Rattle.xml_doc.specs.declared.kept.Common.{Common}
use Rattle.xml_doc.specs.declared.kept.Rare.{Rare}
use Rattle.xml_doc.specs.Kinds.{is_text}
use Rattle.xml_doc.specs.Rows.{RowOf}

-- the fields that few rows have
pub record RareOf : Type 0 where
  pub prefix_text : List ℕ
  pub uri : List ℕ
  pub tag_from : ℕ
  pub body_from : ℕ

-- as the program has them, and of a row
abbrev pub rare_of : Rare → RareOf
rare_of r = record { prefix_text = r.prefix_text.now; uri = r.uri.now; tag_from = r.tag_from; body_from = r.body_from }

abbrev pub rare_in : RowOf → RareOf
rare_in r = record { prefix_text = r.prefix_text; uri = r.uri; tag_from = r.tag_from; body_from = r.body_from }

abbrev pub no_rare : RareOf
no_rare = record { prefix_text = []; uri = []; tag_from = 0; body_from = 0 }

-- those of that place, which is counted from 1: place 0 has none of them
abbrev pub rare_at : List RareOf → ℕ → RareOf
rare_at rares zero = no_rare
rare_at rares (suc k) = slice_index_or rares k no_rare

-- the row of these fields
abbrev pub put_together : RareOf → Common → RowOf
put_together rare c = record {
  kind = c.kind;
  parent = c.parent;
  last = c.last;
  prefix_text = rare.prefix_text;
  local_name = c.local_name.now;
  uri = rare.uri;
  value = c.value.now;
  tag_from = rare.tag_from;
  body_from = rare.body_from;
  body_until = c.body_until;
  empty_tag = c.empty_tag;
}

-- what a row says that is kept so
abbrev pub row_in : List RareOf → Common → RowOf
row_in rares c = put_together (rare_at rares c.rare) c

-- its place is one of so many
abbrev pub IsPlaced : ℕ → Common → Type 0
IsPlaced count c = c.rare ≤ count

-- the fields are those of the row, its rare ones aside
abbrev pub AreOf : RowOf → Common → Type 0
AreOf row c = put_together (rare_in row) c ≡ row

-- each place has what it had
pub record Extends (old new : List RareOf) : Type 0 where
  pub same : (place : ℕ) → place ≤ length old → rare_at new place ≡ rare_at old place
  pub longer : length old ≤ length new

-- the characters of a text, and nothing of another node
abbrev pub kept_text : Common → List ℕ
kept_text c = cond (is_text c.kind) c.value.now []
