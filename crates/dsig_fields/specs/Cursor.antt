-- Words of the code that reads children one behind the other: what is left of them, and a list that grows by what is read.
use Rattle.std.specs.Prelude.{◌≡◌, ℕ, List, [], ◌∷◌, Option, Some, None, Result, Ok, Err}
use Rattle.xml_doc.specs.Rows.{RowOf}
use Rattle.dsig_fields.specs.Reading.{◌>>=◌, passed, Refuses}
use Rattle.dsig_fields.specs.declared.refusal.FieldRefusal.{FieldRefusal}

-- the next child, and those behind it
abbrev pub left_of : Option ℕ → List ℕ → List ℕ
left_of (Some y) rest = y ∷ rest
left_of None rest = []

-- the first of the children that are left
abbrev pub next_of : List ℕ → Option ℕ
next_of [] = None
next_of (y ∷ rest) = Some y

abbrev pub parted : List ℕ → Option ℕ × List ℕ
parted [] = (None, [])
parted (y ∷ rest) = (Some y, rest)

-- the next element, whatever its name, and the children behind it
unfoldable pub any_element : List RowOf → List ℕ → Result (Option ℕ × List ℕ) FieldRefusal
any_element rows xs = do
  left ← passed rows xs
  Ok (parted left)

-- an answer is the outcome, unless it is want of memory; what an answer gives is what the call leaves behind
abbrev pub Leaves : {T A : Type 0} → Result T FieldRefusal → A → Result A FieldRefusal → Type 0
Leaves (Ok x) left outcome = outcome ≡ Ok left
Leaves (Err refusal) left outcome = Refuses refusal outcome
