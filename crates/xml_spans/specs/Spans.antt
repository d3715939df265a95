-- The octets of an element's content, and a text in their place.
use Rattle.std.specs.Prelude.{◌≡◌, ℕ, ◌+◌, Bool, true, false, ◌||◌, List, [], ◌∷◌, ◌++◌, take, drop, length, nat_lt, ◌==◌, if◌then◌else◌, Ok}
use Rattle.std.specs.Str.{chars, is_utf8, IsUtf8}
use Rattle.xml_syntax.specs.Characters.{characters}
use Rattle.xml_syntax.specs.Outcome.{syntax_outcome}
use Rattle.xml_syntax.specs.Classes.{is_plain}
use Rattle.xml_syntax.specs.Tree.{Tag, Event, Start, End}
use Rattle.xml_syntax.specs.Seen.{text_events}
use Rattle.xml_spans.specs.Moved.{shift, moved_events, AllFrom}

-- the octets, with others between two places
abbrev pub replaced : List ℕ → ℕ → ℕ → List ℕ → List ℕ
replaced octets from until new = take from octets ++ (new ++ drop until octets)

-- What stands in place of an element's content: the text. Where the tag was an empty-element tag, its `/>` becomes `>`,
-- the text, and the end tag (XML 1.0 §3.1).
abbrev pub content_with : Bool → List ℕ → List ℕ → List ℕ
content_with false name w = w
content_with true name w = 62 ∷ (w ++ (60 ∷ (47 ∷ (name ++ (62 ∷ [])))))

-- the octets of a document, with this text as the content of the element that has this tag and ends there
abbrev pub filled : List ℕ → Tag → ℕ → List ℕ → List ℕ
filled octets tag until w = replaced octets tag.body_from until (content_with tag.is_empty tag.name w)

-- a character of ASCII that stands for itself in character data (XML 1.0 §2.4), but no line end and no `]`
abbrev pub is_bare : ℕ → Bool
is_bare c = if (c == 93) || (c == 13) || (c == 10) then false else (if nat_lt c 128 then is_plain c else false)

-- each character is one
abbrev pub are_bare : List ℕ → Bool
are_bare [] = true
are_bare (c ∷ w) = if is_bare c then are_bare w else false

-- ---- the events of the new document

-- where the content of an element begins, once its tag is a start tag
abbrev pub body_of : Bool → ℕ → ℕ
body_of false body_from = body_from
body_of true body_from = body_from + 1

-- the tag, as a start tag
abbrev pub opened : Tag → Tag
opened tag = record {
  name = tag.name;
  attributes = tag.attributes;
  from = tag.from;
  body_from = body_of tag.is_empty tag.body_from;
  is_empty = false;
}

-- an element with this text alone, from its start tag on
abbrev pub with_text_alone : Tag → List ℕ → ℕ → List Event → List Event
with_text_alone tag w until after = Start tag ∷ (text_events w ++ (End until ∷ after))

-- what stood behind the content stands behind the new one
abbrev pub filled_shift : Tag → ℕ → List ℕ → ℕ → ℕ
filled_shift tag until w = shift until (tag.body_from + length (content_with tag.is_empty tag.name w))

-- the element with its new text, and the events behind it, whose offsets move
abbrev pub filled_events : Tag → ℕ → List ℕ → List Event → List Event
filled_events tag until w after = with_text_alone (opened tag) w ((opened tag).body_from + length w)
    (moved_events (filled_shift tag until w) after)

-- ---- what is read

-- Behind a mark, these octets are a document that is told by these events.
abbrev pub IsRead : List ℕ → List ℕ → List Event → Type 0
IsRead mark octets told = (is_utf8 octets ≡ true) × (syntax_outcome (characters (length mark) (chars octets)) ≡ Ok told)

-- The document with the text as the content of an element: the same octets but for that content, and the same events but
-- for that element's text, its empty-element tag, and the offsets behind it.
pub record IsFilled (mark octets : List ℕ) (tag : Tag) (until : ℕ) (w : List ℕ) (before after : List Event) : Type 0 where
  pub new : List ℕ
  pub written : filled (mark ++ octets) tag until w ≡ mark ++ new
  pub read : IsRead mark new (before ++ filled_events tag until w after)

-- where an element's content lies in the octets of a document; each tag that comes later lies behind it
pub record Lies (octets : List ℕ) (tag : Tag) (until : ℕ) (after : List Event) : Type 0 where
  pub front : List ℕ
  pub content : List ℕ
  pub back : List ℕ
  pub parts : octets ≡ front ++ (content ++ back)
  pub begins : tag.body_from ≡ length front
  pub ends : until ≡ tag.body_from + length content
  pub named : tag.is_empty ≡ true → IsUtf8 tag.name
  pub later : AllFrom until after
