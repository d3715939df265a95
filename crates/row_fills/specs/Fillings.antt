-- Several elements of a document, each of which gets another text as its content.
use Rattle.std.specs.Prelude.{◌≡◌, ◌⊎◌, ℕ, ◌+◌, ◌<◌, ◌≤◌, ◌==◌, Bool, true, false, List, [], ◌∷◌, ◌++◌, length, Some, if◌then◌else◌}
use Rattle.dsig_base64.specs.Loose.{octets_in}
use Rattle.xml_doc.specs.Rows.{RowOf}
use Rattle.xml_doc.specs.Shape.{row_at}
use Rattle.xml_doc.specs.declared.row.Kind.TheVariants.{Element}
use Rattle.xml_spans.specs.Spans.{are_bare}
use Rattle.row_spans.specs.TextAlone.{HasTextAlone}
use Rattle.row_spans.specs.RowSpans.{Span, written}
use Rattle.row_spans.specs.Code.RowSpans.{span_of}
use Rattle.xml_read.specs.Spelled.{Spells}
use Rattle.canon_local.specs.Begin.{BeginAlike}
use Rattle.dsig_fields.specs.Signatures.{signatures}
use Rattle.moved_fields.specs.Moved.{Pairwise, is_value, moved_by, StandsFor}

-- the element with this row gets this text, which spells these octets in base64
pub record Filling : Type 0 where
  pub row : ℕ
  pub text : List ℕ
  pub octets : List ℕ

abbrev pub spans_of : List RowOf → List Filling → List Span
spans_of rows [] = []
spans_of rows (f ∷ fs) = span_of (row_at rows f.row) f.text ∷ spans_of rows fs

-- the octets with all of them filled in
abbrev pub filled_in : List ℕ → List RowOf → List Filling → List ℕ
filled_in octets rows fs = written octets (spans_of rows fs)

-- the octets of a digest or a signature value afterwards, by its row and those that it had
abbrev pub content_of : List Filling → ℕ → List ℕ → List ℕ
content_of [] x old = old
content_of (f ∷ fs) x old = if f.row == x then f.octets else content_of fs x old

-- a digest or a signature value that has text alone, and a text that may stand there as it is and spells the octets
pub record CanFill (rows : List RowOf) (f : Filling) : Type 0 where
  pub alone : HasTextAlone rows f.row
  pub value : is_value rows f.row ≡ true
  pub bare : are_bare f.text ≡ true
  pub spelled : octets_in f.text ≡ Some f.octets

-- all can, and their rows rise from this one on
abbrev pub CanFillAll : List RowOf → ℕ → List Filling → Type 0
CanFillAll rows from [] = Unit {0}
CanFillAll rows from (f ∷ fs) = (from ≤ f.row) × CanFill rows f × CanFillAll rows (f.row + 1) fs

-- element k has this text alone: it lies between the offsets of its row, and the tag in front of it is a start tag
pub record Stands (octets : List ℕ) (rows : List RowOf) (k : ℕ) (text : List ℕ) : Type 0 where
  pub alone : HasTextAlone rows k
  pub tagged : (row_at rows k).empty_tag ≡ false
  pub front : List ℕ
  pub back : List ℕ
  pub parts : octets ≡ front ++ (text ++ back)
  pub begins : (row_at rows k).body_from ≡ length front
  pub ends : (row_at rows k).body_until ≡ (row_at rows k).body_from + length text

-- the text of each stands in the element that has this number now, and these numbers rise from this one on
abbrev pub AllStand : List ℕ → List RowOf → (number : ℕ → ℕ) → (from : ℕ) → List Filling → Type 0
AllStand octets rows number from [] = Unit {0}
AllStand octets rows number from (f ∷ fs) = (from ≤ number f.row) × Stands octets rows (number f.row) f.text
    × AllStand octets rows number (number f.row + 1) fs

-- the same texts in the elements that have these numbers now
abbrev pub filled_again : (number : ℕ → ℕ) → List Filling → List Filling
filled_again number [] = []
filled_again number (f ∷ fs) = record { row = number f.row; text = f.text; octets = f.octets } ∷ filled_again number fs

-- The document with all of them filled in, of which `first` is the first. Its rows stand for those of the document; those in
-- front of the first are the same nodes, and a row whose subtree ends there is the same. Each text stands in its element.
pub record AreFilled (octets : List ℕ) (rows : List RowOf) (first : ℕ) (fs : List Filling) : Type 0 where
  pub others : List RowOf
  pub number : ℕ → ℕ
  pub kept : ℕ → Bool
  pub spells : Spells (filled_in octets rows fs) others
  pub stands : StandsFor (moved_by number kept) (content_of fs) rows others
  pub parents : (k : ℕ) → kept k ≡ true → (row_at others (number k)).parent ≡ number (row_at rows k).parent
  pub signatures : Pairwise (moved_by number kept) (signatures rows) (signatures others)
  pub elements : (k : ℕ) → k < length rows → (row_at rows k).kind ≡ Element → kept k ≡ true
  pub front : (k : ℕ) → k < first → (kept k ≡ true) × (number k ≡ k)
  pub behind : (k : ℕ) → kept k ≡ true → first ≤ k → first ≤ number k
  pub begins : BeginAlike first rows others
  pub ended : (k : ℕ) → k < first → (row_at rows k).last < first → row_at others k ≡ row_at rows k
  pub texts : AllStand (filled_in octets rows fs) others number first fs

-- subtrees that both end with the same row in front of row m, or both don't end there
abbrev pub EndTogether : ℕ → ℕ → ℕ → Type 0
EndTogether m a b = ((a < m) × (b ≡ a)) ⊎ ((m ≤ a) × (m ≤ b))

-- Two documents with the same texts filled in but for that of the last element, which has row `mark` in both: in front of it
-- they have the same nodes, and the subtrees end together. Their octets are the same but for that text.
pub record AreFilledAlike (octets : List ℕ) (rows : List RowOf) (first : ℕ) (fs : List Filling) (v w : Filling) : Type 0 where
  pub one : AreFilled octets rows first (fs ++ v ∷ [])
  pub other : AreFilled octets rows first (fs ++ w ∷ [])
  pub mark : ℕ
  pub far : first ≤ mark
  pub in_one : one.number v.row ≡ mark
  pub in_other : other.number w.row ≡ mark
  pub begins : BeginAlike mark one.others other.others
  pub ends : (k : ℕ) → k < mark → EndTogether mark (row_at one.others k).last (row_at other.others k).last
  pub ahead : List ℕ
  pub back : List ℕ
  pub one_parts : filled_in octets rows (fs ++ v ∷ []) ≡ ahead ++ (v.text ++ back)
  pub other_parts : filled_in octets rows (fs ++ w ∷ []) ≡ ahead ++ (w.text ++ back)
  pub text_from : (row_at other.others mark).body_from ≡ length ahead

-- the row of the first one, where others stand in front of this row
abbrev pub first_of : List Filling → ℕ → ℕ
first_of [] row = row
first_of (f ∷ fs) row = f.row

abbrev pub filling : ℕ → List ℕ → List ℕ → Filling
filling row text octets = record { row = row; text = text; octets = octets }

-- element e and row `row` have the same parent, which isn't the root
pub record LiesInFront (rows : List RowOf) (e row : ℕ) : Type 0 where
  pub deep : 0 < (row_at rows e).parent
  pub beside : (row_at rows row).parent ≡ (row_at rows e).parent
