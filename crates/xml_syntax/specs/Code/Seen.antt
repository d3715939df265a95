use Rattle.std.specs.Prelude.{◌≡◌, ℕ, List, [], ◌∷◌, ◌++◌, Some, Result, Ok, Err}
use Rattle.std.specs.String.{string_bytes}
use Rattle.xml_syntax.specs.declared.fault.SyntaxFault.{SyntaxFault}
use Rattle.xml_syntax.specs.declared.pending.Pending.{Pending}
use Rattle.xml_syntax.specs.declared.event.Instruction.{Instruction}
use Rattle.xml_syntax.specs.declared.event.Event.{Event}
use Rattle.xml_syntax.specs.declared.item.Item.{Item}
use Rattle.xml_syntax.specs.Tree as tree
use Rattle.xml_syntax.specs.Reading as reading
use Rattle.xml_syntax.specs.Seen.{Fails}

-- the events of an item that isn't characters
abbrev pub item_events : reading.Item → List tree.Event
item_events (reading.Words w) = []
item_events (reading.Comment w) = tree.Comment w ∷ []
item_events (reading.Instruction target w) = tree.Instruction target w ∷ []
item_events (reading.Empty tag until) = tree.Start tag ∷ (tree.End until ∷ [])
item_events (reading.Start tag) = tree.Start tag ∷ []
item_events (reading.End name from) = tree.End from ∷ []

-- An item opens or closes an element, and its events are added.
abbrev pub TakesItem : Result (Unit {0}) SyntaxFault → reading.Item → List (List ℕ) → List (List ℕ) → List tree.Event → List tree.Event
    → Type 0
TakesItem (Ok x) item names behind_it before after = (reading.open_behind item names ≡ Some behind_it)
    × (after ≡ before ++ item_events item)
TakesItem (Err e) item names behind_it before after = Fails e (reading.open_behind item names)

-- a text that goes on
abbrev pub seen_pending : Pending → List ℕ
seen_pending p = p.front.now ++ string_bytes p.made
