use Rattle.std.specs.Prelude.{⊤, ◌≡◌, ◌<◌, ◌≤◌, ℕ, List, [], ◌∷◌, length, vec_capacity, true, Option, Some, None, option_map, IfSome, ◌⊎◌, if◌then◌else◌}
use Rattle.xml_doc.specs.Rows.{RowOf}
use Rattle.c14n_bases.specs.Joined.{JoinedValue}
use Rattle.c14n_text.specs.Bases.{is_base}
use Rattle.c14n_rows.specs.declared.bases.Base.{Base}
use Rattle.c14n_rows.specs.declared.bases.Joining.{Joining}
use Rattle.c14n_rows.specs.declared.bases.Found.{Found}
use Rattle.c14n_rows.specs.declared.bases.Found.TheVariants.{Nothing, Run, Own}

-- a row and a value, where there is a row
abbrev pub with_value : Option ℕ → List ℕ → Option (ℕ × List ℕ)
with_value place value = option_map (λ (p : ℕ). (p, value)) place

-- the row in whose place it stands, and its value: as it is lent, and as it was found
abbrev pub base_of : Option Base → Option (ℕ × List ℕ)
base_of o = option_map (λ (b : Base). (b.place, b.value.now)) o

abbrev pub found_of : Found → Joining → Option (ℕ × List ℕ)
found_of Nothing joining = None
found_of (Run place) joining = Some (place, joining.run.value)
found_of (Own place) joining = Some (place, joining.own.value)

-- its row is one of the document
abbrev pub BaseThere : List RowOf → Option Base → Type 0
BaseThere rows o = IfSome o (λ (b : Base). b.place < length rows)

abbrev pub FoundThere : List RowOf → Found → Type 0
FoundThere rows Nothing = Unit {0}
FoundThere rows (Run place) = place < length rows
FoundThere rows (Own place) = place < length rows

-- its octets stand in one piece
abbrev pub IsSettled : Found → Joining → Type 0
IsSettled Nothing joining = ⊤
IsSettled (Run place) joining = joining.run.settled ≡ true
IsSettled (Own place) joining = joining.own.settled ≡ true

-- a row where it is an `xml:base`
abbrev pub if_base : List RowOf → ℕ → List ℕ
if_base rows a = if is_base rows a then a ∷ [] else []

-- how many octets a value has, where there is a row
abbrev pub filled : Option ℕ → List ℕ → ℕ
filled None value = 0
filled (Some place) value = length value

-- no room was lost
pub record KeepsBases (old new : Joining) : Type 0 where
  pub run : old.run.room ≤ new.run.room
  pub own : old.own.room ≤ new.own.room
  pub spare : vec_capacity old.spare ≤ vec_capacity new.spare

-- a run whose nearest row is b was joined to this value, which stands in one piece
pub record IsRun (b : ℕ) (run : JoinedValue) (joined : Option (ℕ × List ℕ)) : Type 0 where
  pub is : Some (b, run.value) ≡ joined
  pub settled : run.settled ≡ true

-- the run that was joined last is the one whose nearest row is b, with this value, or the one from before
abbrev pub JoinedLast : (old new : Joining) → ℕ → Option (ℕ × List ℕ) → Type 0
JoinedLast old new b joined = ((new.nearest ≡ Some b) × IsRun b new.run joined) ⊎ ((new.nearest ≡ old.nearest) × (new.run ≡ old.run))
