-- What a walk keeps of the elements that are open. Each leaves its entries on a stack, and takes them from it where it ends
use Rattle.std.specs.Prelude.{◌≡◌, ℕ, ◌+◌, ◌<◌, ◌≤◌, true, None, List, [], ◌∷◌, length, if◌then◌else◌, vec_capacity}
use Rattle.xml_doc.specs.Kinds.{is_element}
use Rattle.xml_doc.specs.Rows.{RowOf}
use Rattle.xml_doc.specs.Fields.{namespace_rows, attribute_rows}
use Rattle.c14n_text.specs.Rows.{kind_of, parent_of}
use Rattle.c14n_text.specs.Tree.{chain_within}
use Rattle.c14n_text.specs.Namespaces.{Rule}
use Rattle.c14n_text.specs.Bases.{bases, is_eleven}
use Rattle.c14n_rows.specs.declared.imports.Ordered.{Ordered}
use Rattle.c14n_rows.specs.declared.stacks.Stacks.{Stacks}
use Rattle.c14n_rows.specs.Joined.{BasesFit, PreparedFit, weights}

-- row x and the elements above it, the nearest first
abbrev pub upwards : List RowOf → ℕ → List ℕ
upwards rows x = chain_within (parent_of rows) (length rows) x

-- how many entries row x has: one for itself, and one for each of its namespace rows and attribute rows
abbrev pub count_of : List RowOf → ℕ → ℕ
count_of rows x = if is_element (kind_of rows x) then 1 + length (namespace_rows rows x) + length (attribute_rows rows x) else 0

-- how many octets the joining of its `xml:base` rows takes
abbrev pub octets_of : List RowOf → ℕ → ℕ
octets_of rows x = weights rows (bases rows x)

abbrev pub total : (ℕ → ℕ) → List ℕ → ℕ
total count [] = 0
total count (x ∷ xs) = total count xs + count x

-- the stacks and buffers have room where the walk stands at row x. By Canonical XML 1.1 alone something is joined
pub record RoomAt (rows : List RowOf) (rule : Rule) (x : ℕ) (stacks : Stacks) : Type 0 where
  pub slots : total (count_of rows) (upwards rows x) ≤ vec_capacity stacks.slots
  pub xml : total (count_of rows) (upwards rows x) ≤ vec_capacity stacks.xml
  pub runs : total (count_of rows) (upwards rows x) ≤ vec_capacity stacks.runs
  pub marks : total (count_of rows) (upwards rows x) ≤ vec_capacity stacks.marks
  pub prepared : is_eleven rule ≡ true → PreparedFit (total (octets_of rows) (upwards rows x)) stacks.prepared
  pub joining : is_eleven rule ≡ true → BasesFit (total (octets_of rows) (upwards rows x)) stacks.joining

-- the same for each row of a range
pub record RoomIn (rows : List RowOf) (rule : Rule) (first until : ℕ) (stacks : Stacks) : Type 0 where
  pub at : (x : ℕ) → first ≤ x → x < until → RoomAt rows rule x stacks

-- nothing stands on the stacks, and no run was joined
pub record IsEmpty (stacks : Stacks) : Type 0 where
  pub slots : stacks.slots.items ≡ []
  pub xml : stacks.xml.items ≡ []
  pub parts : stacks.nearest.used ≡ 0
  pub runs : stacks.runs.items ≡ []
  pub prepared : stacks.prepared.bases ≡ []
  pub nearest : stacks.joining.nearest ≡ None

-- the memory in which the attributes of row x are put in order has room for its own and those of the elements above it
pub record OrderedAt (rows : List RowOf) (x : ℕ) (ordered : Ordered) : Type 0 where
  pub attributes : total (count_of rows) (upwards rows x) ≤ vec_capacity ordered.attributes
  pub spare : total (count_of rows) (upwards rows x) ≤ vec_capacity ordered.spare

-- the same for each row of a range
pub record OrderedIn (rows : List RowOf) (first until : ℕ) (ordered : Ordered) : Type 0 where
  pub at : (x : ℕ) → first ≤ x → x < until → OrderedAt rows x ordered
