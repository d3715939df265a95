use Rattle.std.specs.Prelude.{◌≡◌, ℕ, ◌+◌, ◌<◌, ◌≤◌, List, ◌∷◌, ◌++◌, length, option_map, Option, Some, None, Result, Ok, Err}
use Rattle.xml_doc.specs.Rows.{RowOf, plain_row}
use Rattle.xml_doc.specs.declared.row.Kind.{Kind}
use Rattle.xml_syntax.specs.Tree as tree
use Rattle.xml_resolve.specs.Limits.{row_limit}
use Rattle.xml_resolve.specs.Table.{Stack, built}
use Rattle.xml_resolve.specs.declared.fault.RowFault.{RowFault}
use Rattle.xml_resolve.specs.declared.fault.RowFault.TheVariants.{Namespaces, TooManyRows, Memory}

-- a row with a name and a value, and nothing else that not each kind has
abbrev pub valued_row : Kind → ℕ → ℕ → List ℕ → List ℕ → RowOf
valued_row kind parent number name value = record (plain_row kind parent number) { local_name = name; value = value }

-- a call adds these rows, unless there are too many with them
abbrev pub AddsRows : {X : Type 0} → Result X RowFault → List RowOf → List RowOf → List RowOf → Type 0
AddsRows (Ok x) before after rows = (after ≡ before ++ rows) × (length after ≤ row_limit)
AddsRows (Err Namespaces) before after rows = ⊥
AddsRows (Err TooManyRows) before after rows = row_limit < length before + length rows
AddsRows (Err Memory) before after rows = Unit {0}

-- a call adds the rows that are found
abbrev pub AddsFound : {X : Type 0} → Result X RowFault → List RowOf → List RowOf → Option (List RowOf) → Type 0
AddsFound (Ok x) before after found = (option_map (λ (rows : List RowOf). before ++ rows) found ≡ Some after) × (length after ≤ row_limit)
AddsFound (Err Namespaces) before after found = found ≡ None
AddsFound (Err TooManyRows) before after found = (rows : List RowOf) → found ≡ Some rows → row_limit < length before + length rows
AddsFound (Err Memory) before after found = Unit {0}

-- a call that takes an event leads to where the events behind it are taken
abbrev pub TakesEvent : {X : Type 0} → Result X RowFault → Stack → Stack → List RowOf → List RowOf → tree.Event → Type 0
TakesEvent (Ok x) stack stack_after rows rows_after
    event = ((es : List tree.Event) → built stack rows (event ∷ es) ≡ built stack_after rows_after es) × (length rows_after ≤ row_limit)
TakesEvent (Err Namespaces) stack stack_after rows rows_after event = (es : List tree.Event) → built stack rows (event ∷ es) ≡ None
TakesEvent (Err TooManyRows) stack stack_after rows rows_after event = (es : List tree.Event) (all : List RowOf)
    → built stack rows (event ∷ es) ≡ Some all → row_limit < length all
TakesEvent (Err Memory) stack stack_after rows rows_after event = Unit {0}

-- a call makes the rows that are found, and leaves them there
abbrev pub Fills : {X : Type 0} → Result X RowFault → List RowOf → Option (List RowOf) → Type 0
Fills (Ok x) rows found = (found ≡ Some rows) × (length rows ≤ row_limit)
Fills (Err Namespaces) rows found = found ≡ None
Fills (Err TooManyRows) rows found = (all : List RowOf) → found ≡ Some all → row_limit < length all
Fills (Err Memory) rows found = Unit {0}
