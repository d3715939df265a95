-- Rows that are the same but for their numbers and their offsets.
use Rattle.std.specs.Prelude.{◌≡◌, ◌≢◌, ◌⊎◌, ℕ, ◌+◌, ◌-◌, ◌<◌, ◌≤◌, nat_lt, true, false, List, [], ◌∷◌, length, if◌then◌else◌}
use Rattle.xml_doc.specs.Kinds.{is_field}
use Rattle.xml_doc.specs.Rows.{RowOf}
use Rattle.xml_doc.specs.Shape.{row_at}
use Rattle.xml_doc.specs.declared.row.Kind.TheVariants.{Text}
use Rattle.xml_spans.specs.Moved.{shift}
use Rattle.xml_spans.specs.Spans.{body_of, content_with}
use Rattle.row_spans.specs.RowSpans.{refilled, written_name}
use Rattle.row_spans.specs.TextAlone.{HasTextAlone}
use Rattle.xml_read.specs.Spelled.{Spells}

-- a row's number, where the first `old` rows became `new` rows
abbrev pub renumbered : ℕ → ℕ → ℕ → ℕ
renumbered old new k = if nat_lt k old then k else (k + new) - old

-- The same node: its kind, its name and its value, below the same parent. Its subtree ends with the same row, where it ended
-- in front of row n, or else in front of the same row.
pub record IsAlike (f : ℕ → ℕ) (n : ℕ) (r s : RowOf) : Type 0 where
  pub kind : s.kind ≡ r.kind
  pub parent : s.parent ≡ f r.parent
  pub prefix_text : s.prefix_text ≡ r.prefix_text
  pub local_name : s.local_name ≡ r.local_name
  pub uri : s.uri ≡ r.uri
  pub value : s.value ≡ r.value
  pub last : (s.last + 1 ≡ f (r.last + 1)) ⊎ ((r.last < n) × (s.last ≡ r.last))

-- The first n rows are alike, and those behind the first `old` ones are those behind the first `new` ones.
pub record AreAlike (n old new : ℕ) (rows others : List RowOf) : Type 0 where
  pub count : length others + old ≡ length rows + new
  pub enough : old ≤ length rows
  pub before : (k : ℕ) → k < n → IsAlike (renumbered old new) n (row_at rows k) (row_at others k)
  pub behind : (k : ℕ) → old ≤ k → k < length rows → IsAlike (renumbered old new) n (row_at rows k) (row_at others (renumbered old new k))

-- how many rows a text is
abbrev pub text_count : List ℕ → ℕ
text_count [] = 0
text_count (c ∷ w) = 1

-- the row of an element with this text alone, whose subtree ends in front of row `new`
abbrev pub filled_row : RowOf → ℕ → List ℕ → RowOf
filled_row r new w = record r {
  last = new - 1;
  body_from = body_of r.empty_tag r.body_from;
  body_until = body_of r.empty_tag r.body_from + length w;
  empty_tag = false;
}

-- the offset of what stood at an offset behind the element with this row, where this text is its content
abbrev pub refill_shift : RowOf → List ℕ → ℕ → ℕ
refill_shift r w = shift r.body_until (r.body_from + length (content_with r.empty_tag (written_name r) w))

-- The offsets of an element are those of the other one, moved; its tag is an empty-element tag where that one is.
pub record IsMoved (g : ℕ → ℕ) (r s : RowOf) : Type 0 where
  pub tag_from : s.tag_from ≡ g r.tag_from
  pub body_from : s.body_from ≡ g r.body_from
  pub body_until : s.body_until ≡ g r.body_until
  pub empty_tag : s.empty_tag ≡ r.empty_tag

-- row k is a text below row i
pub record IsTextBelow (rows : List RowOf) (k i : ℕ) : Type 0 where
  pub kind : (row_at rows k).kind ≡ Text
  pub parent : (row_at rows k).parent ≡ i

-- row k is a text with these characters below row i
pub record IsTextOf (rows : List RowOf) (k i : ℕ) (w : List ℕ) : Type 0 where
  pub kind : (row_at rows k).kind ≡ Text
  pub parent : (row_at rows k).parent ≡ i
  pub value : (row_at rows k).value ≡ w

-- The octets with this text as the content of element i spell a document. Its rows are alike, and that text stands below the
-- element, and alone. A row whose subtree ends in front of the element is the same, offsets included, and only texts of the
-- element are gone. Its namespaces and attributes stand in front of row `below`. A later element that has text alone has it
-- still, and its offsets move as those behind the element do.
pub record IsRefilled (octets : List ℕ) (rows : List RowOf) (i : ℕ) (w : List ℕ) : Type 0 where
  pub others : List RowOf
  pub below : ℕ
  pub old : ℕ
  pub new : ℕ
  pub spells : Spells (refilled octets (row_at rows i) w) others
  pub alike : AreAlike below old new rows others
  pub inside : i < below
  pub ends : old ≡ (row_at rows i).last + 1
  pub starts : below ≤ old
  pub grows : new ≡ below + text_count w
  pub stands : w ≢ [] → IsTextOf others below i w
  pub row : row_at others i ≡ filled_row (row_at rows i) new w
  pub same : (k : ℕ) → k < i → (row_at rows k).last < i → row_at others k ≡ row_at rows k
  pub stood : (k : ℕ) → below ≤ k → k < old → IsTextBelow rows k i
  pub own : (k : ℕ) → i < k → k < below → is_field (row_at rows k).kind ≡ true
  pub alone : HasTextAlone others i
  pub alone_behind : (k : ℕ) → old ≤ k → HasTextAlone rows k → HasTextAlone others (renumbered old new k)
  pub moved : (k : ℕ) → old ≤ k → HasTextAlone rows k
      → IsMoved (refill_shift (row_at rows i) w) (row_at rows k) (row_at others (renumbered old new k))
