-- The span of an element's content in the octets of its document, by its row, and other octets there.
use Rattle.std.specs.Prelude.{◌≡◌, ℕ, ◌+◌, ◌≤◌, List, [], ◌∷◌, ◌++◌, length, if◌then◌else◌}
use Rattle.xml_names.specs.Scopes.{is_empty}
use Rattle.xml_doc.specs.Rows.{RowOf}
use Rattle.xml_spans.specs.Spans.{replaced, content_with}

-- the name of an element as it is written (Namespaces in XML 1.0 §4)
abbrev pub written_name : RowOf → List ℕ
written_name r = if is_empty r.prefix_text then r.local_name else r.prefix_text ++ 58 ∷ r.local_name

-- a part of the octets of a document, and what is to stand there
pub record Span : Type 0 where
  pub from : ℕ
  pub until : ℕ
  pub new : List ℕ

-- the octets with what is to stand at each span; the spans are in order, so the last is written first, and no offset moves
abbrev pub written : List ℕ → List Span → List ℕ
written octets [] = octets
written octets (s ∷ spans) = replaced (written octets spans) s.from s.until s.new

-- the octets with this text as the content of the element with that row
abbrev pub refilled : List ℕ → RowOf → List ℕ → List ℕ
refilled octets r w = replaced octets r.body_from r.body_until (content_with r.empty_tag (written_name r) w)

-- the spans lie one behind the other, from this offset on, within so many octets
abbrev pub InOrder : ℕ → ℕ → List Span → Type 0
InOrder at size [] = at ≤ size
InOrder at size (s ∷ spans) = (at ≤ s.from) × (s.from ≤ s.until) × InOrder s.until size spans

-- the content of an element lies between these offsets of its row
pub record LiesAt (octets : List ℕ) (r : RowOf) : Type 0 where
  pub front : List ℕ
  pub content : List ℕ
  pub back : List ℕ
  pub parts : octets ≡ front ++ (content ++ back)
  pub begins : r.body_from ≡ length front
  pub ends : r.body_until ≡ r.body_from + length content
