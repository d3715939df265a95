-- What a joined `xml:base` stands for.
use Rattle.std.specs.Prelude.{◌≤◌, ◌+◌, ◌*◌, ℕ, List, [], ◌∷◌, length, vec_capacity}
use Rattle.xml_doc.specs.Rows.{RowOf}
use Rattle.xml_doc.specs.Shape.{row_at}
use Rattle.c14n_bases.specs.Joined.{PreparedBases}
use Rattle.c14n_rows.specs.declared.bases.Joining.{Joining}

-- how many octets joining takes at most: of each value its own, and four `/`
abbrev pub weights : List RowOf → List ℕ → ℕ
weights rows [] = 0
weights rows (b ∷ bs) = length (row_at rows b).value + 4 + weights rows bs

-- there is room for bases of so many octets, of which each takes four at least
pub record PreparedFit (octets : ℕ) (prepared : PreparedBases) : Type 0 where
  pub count : octets ≤ 4 * prepared.count
  pub room : octets ≤ prepared.room

-- there is room for joining that takes so many octets
pub record BasesFit (octets : ℕ) (joining : Joining) : Type 0 where
  pub run : octets ≤ joining.run.room
  pub own : octets ≤ joining.own.room
  pub spare : octets ≤ vec_capacity joining.spare
