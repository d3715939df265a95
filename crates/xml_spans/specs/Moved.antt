-- What moves where the octets before it become more or fewer: offsets, and nothing else.
use Rattle.std.specs.Prelude.{ℕ, ◌+◌, ◌-◌, ◌≤◌, List, [], ◌∷◌, map}
use Rattle.xml_syntax.specs.Tree.{Tag, Event, Text, Comment, Instruction, Start, End}

-- an offset, where what stood at `old` stands at `new`
abbrev pub shift : ℕ → ℕ → ℕ → ℕ
shift old new at = (at + new) - old

-- a tag
abbrev pub moved_tag : (ℕ → ℕ) → Tag → Tag
moved_tag f tag = record {
  name = tag.name;
  attributes = tag.attributes;
  from = f tag.from;
  body_from = f tag.body_from;
  is_empty = tag.is_empty;
}

-- an event
abbrev pub moved_event : (ℕ → ℕ) → Event → Event
moved_event f (Text w) = Text w
moved_event f (Comment w) = Comment w
moved_event f (Instruction target w) = Instruction target w
moved_event f (Start tag) = Start (moved_tag f tag)
moved_event f (End until) = End (f until)

-- events in document order
abbrev pub moved_events : (ℕ → ℕ) → List Event → List Event
moved_events f = map (moved_event f)

-- no tag begins or ends, and no content begins, in front of this offset
abbrev pub AllFrom : ℕ → List Event → Type 0
AllFrom n [] = Unit {0}
AllFrom n (Text w ∷ es) = AllFrom n es
AllFrom n (Comment w ∷ es) = AllFrom n es
AllFrom n (Instruction target w ∷ es) = AllFrom n es
AllFrom n (Start tag ∷ es) = (n ≤ tag.from) × (n ≤ tag.body_from) × AllFrom n es
AllFrom n (End until ∷ es) = (n ≤ until) × AllFrom n es

-- no content begins or ends behind this offset
abbrev pub AllUpTo : ℕ → List Event → Type 0
AllUpTo n [] = Unit {0}
AllUpTo n (Text w ∷ es) = AllUpTo n es
AllUpTo n (Comment w ∷ es) = AllUpTo n es
AllUpTo n (Instruction target w ∷ es) = AllUpTo n es
AllUpTo n (Start tag ∷ es) = (tag.body_from ≤ n) × AllUpTo n es
AllUpTo n (End until ∷ es) = (until ≤ n) × AllUpTo n es
