-- The nearest `xml:` attributes of each name, kept for parts of the stack of them.
use Rattle.std.specs.Prelude.{◌≡◌, ℕ, zero, suc, ◌<◌, ◌≤◌, Bool, List, length, take, reverse, get_or}
use Rattle.std.specs.List.{between, filter}
use Rattle.xml_doc.specs.Rows.{RowOf}
use Rattle.xml_doc.specs.Shape.{row_at}
use Rattle.c14n_text.specs.Namespaces.{Rule}
use Rattle.c14n_text.specs.Attributes.{is_inheritable, in_order}
use Rattle.c14n_rows.specs.declared.nearest.Nearest.{Nearest}
use Rattle.c14n_rows.specs.declared.nearest.Part.{Part}

-- the rule imports `xml:` attributes of the local name of row a as they stand
abbrev pub inherits : List RowOf → Rule → ℕ → Bool
inherits rows rule a = is_inheritable rule (row_at rows a).local_name

-- of the entries of a stack, the nearest of which stand last: the nearest of each name that the rule imports, in order
abbrev pub nearest_of : List RowOf → Rule → List ℕ → List ℕ
nearest_of rows rule xml = in_order rows (filter (inherits rows rule) (reverse xml))

abbrev pub no_part : Part
no_part = record { count = 0; from = 0; until = 0 }

abbrev pub part_at : Nearest → ℕ → Part
part_at nearest k = get_or nearest.parts.items k no_part

-- the last of the first k parts
abbrev pub last_of_parts : Nearest → ℕ → Part
last_of_parts nearest zero = no_part
last_of_parts nearest (suc k) = part_at nearest k

abbrev pub last_part : Nearest → Part
last_part nearest = last_of_parts nearest nearest.used

-- a part has the first entries of a stack, and the nearest of these are kept for it
pub record PartAt (rows : List RowOf) (rule : Rule) (xml kept : List ℕ) (part : Part) : Type 0 where
  pub few : part.count ≤ length xml
  pub ordered : part.from ≤ part.until
  pub within : part.until ≤ length kept
  pub are : between part.from part.until kept ≡ nearest_of rows rule (take part.count xml)

-- a part has no more entries than another, and its rows aren't kept behind those of the other
pub record NotBehind (part other : Part) : Type 0 where
  pub count : part.count ≤ other.count
  pub until : part.until ≤ other.until

-- what is kept are the nearest of a stack, for parts of which each has at least the entries of the one before
pub record NearestAt (rows : List RowOf) (rule : Rule) (xml : List ℕ) (nearest : Nearest) : Type 0 where
  pub used : nearest.used ≤ length nearest.parts.items
  pub parts : (k : ℕ) → k < nearest.used → PartAt rows rule xml nearest.rows.items (part_at nearest k)
  pub ascend : (j k : ℕ) → j < k → k < nearest.used → NotBehind (part_at nearest j) (part_at nearest k)

-- the next part of a stack of so many entries has this many
pub record IsNext (nearest : Nearest) (entries count : ℕ) : Type 0 where
  pub more : (last_part nearest).count < count
  pub few : count ≤ entries
