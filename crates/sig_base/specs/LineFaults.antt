-- A file line by line, given which entries each line spells and why it is refused behind others: the first line that is refused decides.
use Rattle.std.specs.Prelude.{◌≡◌, ℕ, ◌+◌, ◌<◌, not, List, [], ◌∷◌, ◌++◌, length, take, get_or, Option, Some, None, Result, Ok, Err, if◌then◌else◌}
use Rattle.std.specs.Str.{is_utf8}
use Rattle.sig_base.specs.Lines.{is_skipped, lines_of}

-- the entries that a line spells, where those of a line that isn't skipped are these
abbrev pub spelled_by : {E : Type 0} → (line : List ℕ) → (others : List E) → List E
spelled_by line others = if is_skipped line then [] else others

-- why a line is refused, if it is: it is no UTF-8, or there is another fault and the line isn't skipped
abbrev pub fault_by : {F : Type 0} → (bad : F) → (line : List ℕ) → (other : Option F) → Option F
fault_by bad line other = if not (is_utf8 line) then Some bad else (if is_skipped line then None else other)

-- the entries that lines spell, the first of which has this number
unfoldable pub spelled_in : {E : Type 0} → (spells : ℕ → List ℕ → List E) → ℕ → List (List ℕ) → List E
spelled_in spells number [] = []
spelled_in spells number (line ∷ rest) = spells number line ++ spelled_in spells (number + 1) rest

-- why the line behind the first k ones is refused, if it is
abbrev pub fault_at : {E F : Type 0} → (spells : ℕ → List ℕ → List E) → (fault_of : ℕ → List ℕ → List E → Option F)
    → List (List ℕ) → ℕ → Option F
fault_at spells fault_of all k = fault_of (k + 1) (get_or all k []) (spelled_in spells 1 (take k all))

-- no line is refused, and the entries are those that the lines spell
pub record NoneRefused {E F : Type 0} (spells : ℕ → List ℕ → List E) (fault_of : ℕ → List ℕ → List E → Option F)
    (all : List (List ℕ)) (entries : List E) : Type 0 where
  pub no_fault : (k : ℕ) → k < length all → fault_at spells fault_of all k ≡ None
  pub entries_are : entries ≡ spelled_in spells 1 all

-- a line is refused for this fault, and none before it
pub record FirstRefused {E F : Type 0} (spells : ℕ → List ℕ → List E) (fault_of : ℕ → List ℕ → List E → Option F)
    (all : List (List ℕ)) (fault : F) : Type 0 where
  pub at : ℕ
  pub within : at < length all
  pub none_before : (k : ℕ) → k < at → fault_at spells fault_of all k ≡ None
  pub fault_is : fault_at spells fault_of all at ≡ Some fault

-- the outcome of these lines
abbrev pub Decides : {E F : Type 0} → (spells : ℕ → List ℕ → List E) → (fault_of : ℕ → List ℕ → List E → Option F)
    → List (List ℕ) → Result (List E) F → Type 0
Decides spells fault_of all (Ok entries) = NoneRefused spells fault_of all entries
Decides spells fault_of all (Err fault) = FirstRefused spells fault_of all fault

-- the outcome of a file
pub record FileDecides {E F : Type 0} (spells : ℕ → List ℕ → List E) (fault_of : ℕ → List ℕ → List E → Option F)
    (file : List ℕ) (outcome : Result (List E) F) : Type 0 where
  pub by : Decides spells fault_of (lines_of file) outcome
