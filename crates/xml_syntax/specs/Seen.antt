-- What the code's values are in the terms of the definitions, and what a call that reads has to say.
use Rattle.std.specs.Prelude.{◌≡◌, ℕ, Bool, true, false, String, List, [], ◌∷◌, ◌++◌, map, reverse, Option, Some, None, Result, Ok, Err}
use denote.Ref.{Bor}
use Rattle.std.specs.String.{string_bytes}
use Rattle.std.specs.declared.alloc.Global.{Global}
use Rattle.xml_syntax.specs.declared.fault.SyntaxFault.{SyntaxFault}
use Rattle.xml_syntax.specs.declared.fault.SyntaxFault.TheVariants as faults
use Rattle.xml_syntax.specs.declared.event.Text.{Text}
use Rattle.xml_syntax.specs.declared.event.Text.TheVariants as texts
use Rattle.xml_syntax.specs.declared.event.Tag.{Tag}
use Rattle.xml_syntax.specs.declared.event.Attribute.{Attribute}
use Rattle.xml_syntax.specs.declared.event.Instruction.{Instruction}
use Rattle.xml_syntax.specs.declared.event.Event.{Event}
use Rattle.xml_syntax.specs.declared.event.Event.TheVariants as events
use Rattle.xml_syntax.specs.declared.item.Item.{Item}
use Rattle.xml_syntax.specs.declared.item.Item.TheVariants as items
use Rattle.xml_syntax.specs.Characters.{Placed}
use Rattle.xml_syntax.specs.Tree as tree
use Rattle.xml_syntax.specs.Reading as reading

-- a text or a value
abbrev pub seen_text : Text → List ℕ
seen_text (texts.Plain w) = w.now
seen_text (texts.Made w) = string_bytes w

-- an attribute, and the attributes of a tag
abbrev pub seen_attribute : Attribute → tree.Attribute
seen_attribute a = record { name = a.name.now; value = seen_text a.value }

abbrev pub seen_attributes : List Attribute → List tree.Attribute
seen_attributes = map seen_attribute

-- a tag
abbrev pub seen_tag : Tag → tree.Tag
seen_tag t = record {
  name = t.name.now;
  attributes = seen_attributes t.attributes.items;
  from = t.from;
  body_from = t.body_from;
  is_empty = t.is_empty;
}

-- the target and the value of an instruction
abbrev pub seen_instruction : Instruction → List ℕ × List ℕ
seen_instruction i = (i.target.now, string_bytes i.value)

-- an event
abbrev pub seen : Event → tree.Event
seen (events.Text w) = tree.Text (seen_text w)
seen (events.Comment w) = tree.Comment (string_bytes w)
seen (events.Instruction i) = tree.Instruction i.target.now (string_bytes i.value)
seen (events.Start tag) = tree.Start (seen_tag tag)
seen (events.End until) = tree.End until

-- the events of a list
abbrev pub seen_all : List Event → List tree.Event
seen_all = map seen

-- an item that isn't characters
abbrev pub seen_item : Item → reading.Item
seen_item (items.Comment w) = reading.Comment (string_bytes w)
seen_item (items.Instruction i) = reading.Instruction i.target.now (string_bytes i.value)
seen_item (items.Empty tag until) = reading.Empty (seen_tag tag) until
seen_item (items.Start tag) = reading.Start (seen_tag tag)
seen_item (items.End name from) = reading.End name.now from

-- the name of an encoding, where one was declared
abbrev pub seen_encoding : Option (String Global) → Option (List ℕ)
seen_encoding None = None
seen_encoding (Some name) = Some (string_bytes name)

-- the names of the open elements, the innermost first, of a list whose last one is the innermost
abbrev pub seen_open : List (Bor (List ℕ)) → List (List ℕ)
seen_open names = reverse (map (λ (name : Bor (List ℕ)). name.now) names)

-- A call fails where reading gives nothing, or where memory runs out.
abbrev pub Fails : {Y : Type 0} → SyntaxFault → Option Y → Type 0
Fails faults.Memory read = Unit {0}
Fails faults.NotWellFormed read = read ≡ None
Fails faults.Encoding read = ⊥
Fails faults.DocType read = ⊥

-- What a call returned, and what it left, is what reading gives.
abbrev pub Gives : {X Y : Type 0} → (X → Y) → Result X SyntaxFault → List Placed → Option (Y × List Placed) → Type 0
Gives view (Ok x) left read = read ≡ Some (view x, left)
Gives view (Err e) left read = Fails e read

-- A call tells whether reading gives something, and then has left what is behind it.
abbrev pub Tells : Bool → List Placed → Option (Unit {0} × List Placed) → Type 0
Tells true left read = read ≡ Some (tt, left)
Tells false left read = read ≡ None

-- what reading gives, behind what was there before
abbrev pub with_front : {A B : Type 0} → List A → Option (List A × B) → Option (List A × B)
with_front before None = None
with_front before (Some x) = Some (before ++ x.0, x.1)

-- A call adds to a list what reading gives.
abbrev pub Adds : {A : Type 0} → Result (Unit {0}) SyntaxFault → List A → List A → List Placed → Option (List A × List Placed) → Type 0
Adds (Ok x) before after left read = with_front before read ≡ Some (after, left)
Adds (Err e) before after left read = Fails e read

-- the events of some content that reading gives, behind those that were there before
abbrev pub with_content : List tree.Event → Option (tree.Content × List Placed) → Option (List tree.Event × List Placed)
with_content before None = None
with_content before (Some x) = Some (before ++ tree.events x.0, x.1)

-- A call adds the events of what reading gives.
abbrev pub AddsContent : Result (Unit {0}) SyntaxFault → List tree.Event → List tree.Event → List Placed
    → Option (tree.Content × List Placed) → Type 0
AddsContent (Ok x) before after left read = with_content before read ≡ Some (after, left)
AddsContent (Err e) before after left read = Fails e read

-- the events of what is left of the open elements, the innermost first
unfoldable pub left_events : List reading.Level → List tree.Event
left_events [] = []
left_events (top ∷ levels) = tree.events top.0 ++ (tree.End top.1 ∷ left_events levels)

-- characters before what is left of the open elements
abbrev pub with_text : List ℕ → List reading.Level → List reading.Level
with_text w [] = []
with_text w (top ∷ levels) = (tree.text_before w top.0, top.1) ∷ levels

-- what is left of the open elements, as events behind those that were there before and a text that goes on
abbrev pub with_events : List tree.Event → List ℕ → Option (List reading.Level × List Placed) → Option (List tree.Event × List Placed)
with_events before pending None = None
with_events before pending (Some x) = Some (before ++ left_events (with_text pending x.0), x.1)

-- A call adds the events of what is left of the open elements.
abbrev pub AddsLeft : Result (Unit {0}) SyntaxFault → List tree.Event → List tree.Event → List Placed
    → Option (List reading.Level × List Placed) → Type 0
AddsLeft (Ok x) before after left read = with_events before [] read ≡ Some (after, left)
AddsLeft (Err e) before after left read = Fails e read

-- the event of a text that ends, which an empty one has not
abbrev pub text_events : List ℕ → List tree.Event
text_events [] = []
text_events (c ∷ w) = tree.Text (c ∷ w) ∷ []
