use Rattle.std.specs.Prelude.{⊤, ◌≡◌, ℕ, ◌+◌, ◌<◌, ◌≤◌, ◌==◌, Bool, not, ◌&&◌, Option, Some, None, IfSome, List, [], ◌∷◌, ◌++◌, length, map, reverse, if◌then◌else◌, vec_capacity}
use Rattle.std.specs.List.{All, filter, find, flat_map, take_while}
use Rattle.std.specs.Str.{bytes_eq}
use Rattle.sig_base.specs.declared.sink.Put.{Put}
use Rattle.sig_base.specs.declared.sink.Put.TheVariants.{Done, Refused}
use Rattle.xml_doc.specs.Kinds.{is_element}
use Rattle.xml_doc.specs.Rows.{RowOf}
use Rattle.xml_doc.specs.Shape.{row_at}
use Rattle.xml_doc.specs.Fields.{namespace_rows}
use Rattle.c14n_text.specs.Rows.{kind_of, parent_of}
use Rattle.c14n_text.specs.Namespaces.{Rule, renders}
use Rattle.c14n_text.specs.Attributes.{xml_attributes}
use Rattle.c14n_text.specs.Code.Quiet.{IsQuiet}
use Rattle.c14n_bases.specs.Joined.{PreparedBases}
use Rattle.c14n_text.specs.Bases.{is_eleven, bases, with_bases}
use Rattle.c14n_rows.specs.declared.imports.Ordered.{Ordered}
use Rattle.c14n_rows.specs.declared.stacks.Frame.{Frame}
use Rattle.c14n_rows.specs.declared.stacks.Slot.{Slot}
use Rattle.c14n_rows.specs.declared.stacks.Stacks.{Stacks}
use Rattle.c14n_rows.specs.declared.renderer.Counted.{Counted}
use Rattle.c14n_rows.specs.declared.renderer.Counted.TheVariants.{Entries, Values}
use Rattle.c14n_rows.specs.Joined.{BasesFit, PreparedFit}
use Rattle.c14n_rows.specs.Code.Joined.{IsRun, KeepsBases}
use Rattle.c14n_rows.specs.Code.Nearest.{NearestAt}
use Rattle.c14n_rows.specs.Stacks.{upwards, count_of, octets_of, total}

-- namespace row z is of this prefix
abbrev pub is_of : List RowOf → List ℕ → ℕ → Bool
is_of rows p z = bytes_eq (row_at rows z).local_name p

-- and is in the set
abbrev pub is_named : List RowOf → (ℕ → Bool) → List ℕ → ℕ → Bool
is_named rows set p z = set z && bytes_eq (row_at rows z).local_name p

-- such a row of an element
abbrev pub named_in : List RowOf → (ℕ → Bool) → List ℕ → Option ℕ → Option ℕ
named_in rows set p None = None
named_in rows set p (Some e) = find (is_named rows set p) (namespace_rows rows e)

-- the row of the prefix, in the set, of the nearest element from row x upwards that counts for the prefix: its namespace is
-- the one that is rendered (Exclusive XML Canonicalization 1.0, section 3)
abbrev pub rendered : List RowOf → (ℕ → Bool) → Rule → List ℕ → ℕ → Option ℕ
rendered rows set rule p x = named_in rows set p (find (renders rows set rule p) (upwards rows x))

-- the slot of a namespace row of x, and that of x itself, which is for the default
abbrev pub slot : List RowOf → (ℕ → Bool) → Rule → ℕ → ℕ → Slot
slot rows set rule x y = record { row = y; near = rendered rows set rule (row_at rows y).local_name x }

abbrev pub own_slot : List RowOf → (ℕ → Bool) → Rule → ℕ → Slot
own_slot rows set rule x = record { row = x; near = rendered rows set rule [] x }

-- the slots of row x, which has some where it is an element
abbrev pub slots : List RowOf → (ℕ → Bool) → Rule → ℕ → List Slot
slots rows set rule x = if is_element (kind_of rows x) then own_slot rows set rule x ∷ map (slot rows set rule x) (namespace_rows rows x)
    else []

-- what the rows of a chain have put on a stack, the nearest row first in the chain and last on the stack
abbrev pub stacked : {X : Type 0} → (ℕ → List X) → List ℕ → List X
stacked entries [] = []
stacked entries (x ∷ xs) = stacked entries xs ++ entries x

-- what row e leaves for the elements below it, by Canonical XML 1.1: an element of the set itself, with which a run of
-- elements outside the set ends, and another its `xml:base` rows, the last one first
abbrev pub run_entries : List RowOf → (ℕ → Bool) → Rule → ℕ → List ℕ
run_entries rows set rule e = if is_eleven rule && is_element (kind_of rows e) then (if set e then e ∷ [] else reverse (bases rows e))
    else []

-- what stands on the three stacks where row x is the innermost that is open
abbrev pub slots_at : List RowOf → (ℕ → Bool) → Rule → ℕ → List Slot
slots_at rows set rule x = stacked (slots rows set rule) (upwards rows x)

abbrev pub xml_at : List RowOf → ℕ → List ℕ
xml_at rows x = reverse (flat_map (xml_attributes rows) (upwards rows x))

abbrev pub runs_at : List RowOf → (ℕ → Bool) → Rule → ℕ → List ℕ
runs_at rows set rule x = stacked (run_entries rows set rule) (upwards rows x)

-- the `xml:base` rows of the run that stands on top of the third, the nearest first
abbrev pub run_on : List RowOf → List ℕ → List ℕ
run_on rows on_runs = take_while (λ b. not (is_element (kind_of rows b))) (reverse on_runs)

-- the values of its `xml:base` rows, which are those that are no elements: the bases that are prepared
abbrev pub values_on : List RowOf → List ℕ → List (List ℕ)
values_on rows on_runs = map (λ b. (row_at rows b).value) (filter (λ b. not (is_element (kind_of rows b))) on_runs)

-- those of the unbroken run of elements outside the set from row p upwards, the nearest first
abbrev pub run_bases : List RowOf → (ℕ → Bool) → ℕ → List ℕ
run_bases rows set p = flat_map (bases rows) (take_while (λ e. not (set e)) (upwards rows p))

-- a slot names rows of the document
pub record SlotFits (rows : List RowOf) (s : Slot) : Type 0 where
  pub row : s.row < length rows
  pub near : IfSome s.near (λ e. e < length rows)

-- what row x has left: the slots of its namespace rows, and what is rendered for the default
pub record FrameAt (rows : List RowOf) (set : ℕ → Bool) (rule : Rule) (x : ℕ) (frame : Frame) : Type 0 where
  pub slots_are : frame.slots.now ≡ map (slot rows set rule x) (namespace_rows rows x)
  pub slots_fit : All (SlotFits rows) frame.slots.now
  pub default_is : frame.default ≡ rendered rows set rule [] x
  pub default_fits : IfSome frame.default (λ z. z < length rows)

-- how many slots stand on the stack up to row x's own
abbrev pub frame_start : List RowOf → (ℕ → Bool) → Rule → ℕ → ℕ
frame_start rows set rule x = if x == 0 then 0 else length (slots_at rows set rule (parent_of rows x)) + 1

-- the run that was joined last is that of the element whose row is kept
abbrev pub IsJoined : List RowOf → (ℕ → Bool) → Stacks → Type 0
IsJoined rows set stacks = IfSome stacks.joining.nearest
    (λ b. IsRun b stacks.joining.run (with_bases rows None (run_bases rows set (parent_of rows b))))

pub record StacksAt (rows : List RowOf) (set : ℕ → Bool) (rule : Rule) (x : ℕ) (stacks : Stacks) : Type 0 where
  pub slots_are : stacks.slots.items ≡ slots_at rows set rule x
  pub slots_fit : All (SlotFits rows) stacks.slots.items
  pub xml_are : stacks.xml.items ≡ xml_at rows x
  pub xml_fit : All (λ a. a < length rows) stacks.xml.items
  pub nearest_are : NearestAt rows rule stacks.xml.items stacks.nearest
  pub runs_are : stacks.runs.items ≡ runs_at rows set rule x
  pub runs_fit : All (λ b. b < length rows) stacks.runs.items
  pub prepared_are : stacks.prepared.bases ≡ values_on rows stacks.runs.items
  pub is_joined : IsJoined rows set stacks

abbrev pub counted_of : Counted → List RowOf → ℕ → ℕ
counted_of Entries rows x = count_of rows x
counted_of Values rows x = octets_of rows x

-- row `top` is the innermost that is open where row next comes, and this is the sum of the counts of the open rows
pub record IsOpen (rows : List RowOf) (count : ℕ → ℕ) (top next entries : ℕ) : Type 0 where
  pub before : top < next
  pub there : top < length rows
  pub ended : (x : ℕ) → top < x → x < next → (row_at rows x).last < next
  pub counted : entries ≡ total count (upwards rows top)

-- the sum over a row and those above it is at most this, for each row of a range
pub record HasRoom (rows : List RowOf) (count : ℕ → ℕ) (first until capacity : ℕ) : Type 0 where
  pub room : (x : ℕ) → first ≤ x → x < until → total count (upwards rows x) ≤ capacity

-- this much memory was taken for them
pub record IsTaken (entries values : ℕ) (stacks : Stacks) : Type 0 where
  pub slots : entries ≤ vec_capacity stacks.slots
  pub xml : entries ≤ vec_capacity stacks.xml
  pub runs : entries ≤ vec_capacity stacks.runs
  pub prepared : PreparedFit values stacks.prepared
  pub marks : entries ≤ vec_capacity stacks.marks
  pub joining : BasesFit values stacks.joining

pub record IsTakenFor (entries : ℕ) (ordered : Ordered) : Type 0 where
  pub attributes : entries ≤ vec_capacity ordered.attributes
  pub spare : entries ≤ vec_capacity ordered.spare

-- no room was lost
pub record KeepsRoom (old new : PreparedBases) : Type 0 where
  pub count : old.count ≤ new.count
  pub room : old.room ≤ new.room

pub record Keeps (old new : Stacks) : Type 0 where
  pub slots : vec_capacity old.slots ≤ vec_capacity new.slots
  pub xml : vec_capacity old.xml ≤ vec_capacity new.xml
  pub runs : vec_capacity old.runs ≤ vec_capacity new.runs
  pub prepared : KeepsRoom old.prepared new.prepared
  pub marks : vec_capacity old.marks ≤ vec_capacity new.marks
  pub joining : KeepsBases old.joining new.joining

pub record KeepsOrdered (old new : Ordered) : Type 0 where
  pub attributes : vec_capacity old.attributes ≤ vec_capacity new.attributes
  pub spare : vec_capacity old.spare ≤ vec_capacity new.spare

-- a walk from row `start` to before row `until` meets each row that writes something for a set
pub record IsWalked (rows : List RowOf) (set : ℕ → Bool) (start until : ℕ) : Type 0 where
  pub behind_root : 0 < start
  pub ordered : start < until
  pub within : until ≤ length rows
  pub quiet_before : (x : ℕ) → x < start → IsQuiet rows set x
  pub quiet_behind : (x : ℕ) → until ≤ x → IsQuiet rows set x

-- no row writes anything
pub record IsNowhere (rows : List RowOf) (set : ℕ → Bool) : Type 0 where
  pub quiet : (x : ℕ) → IsQuiet rows set x

-- a fact where a writer has not been refused
abbrev pub OnDone : Put → Type 0 → Type 0
OnDone Done P = P
OnDone Refused P = ⊤
