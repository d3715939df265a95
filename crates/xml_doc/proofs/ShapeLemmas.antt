-- What follows from the shape of a list of rows.
use Rattle.std.proofs.lemmas.Option.{get_or_from_slice_get, slice_get_within}
use Rattle.std.specs.Prelude.{slice_get}
use Rattle.std.proofs.Common.{Some, ap, sym, ◌∙◌, ◌≡◌, ℕ, zero, suc, ◌<◌, ◌≤◌, ◌+◌, false, true, List, length, arith, inl, inr}
use Rattle.std.proofs.lemmas.Bool.{cases_lt, false≢true}
use Rattle.xml_doc.specs.Kinds.{is_inner}
use Rattle.xml_doc.specs.Rows.{RowOf}
use Rattle.xml_doc.specs.Shape.{row_at, no_row, IsWellShaped}

-- a subtree ends within the document. n bounds i
last_below_to : (rows : List RowOf) → IsWellShaped rows → (n i : ℕ) → i ≤ n → i < length rows → (row_at rows i).last < length rows
last_below_to rows w n zero h k = let e = w.root_last in omega arith
last_below_to rows w zero (suc i) h k = absurd (omega arith)
last_below_to rows w (suc n) (suc i) h k =
    let p : (row_at rows (suc i)).parent < suc i = w.nesting.parent_before (suc i) (omega arith) k in
    let l = w.nesting.last_within (suc i) k in
    let b = last_below_to rows w n (row_at rows (suc i)).parent (omega arith) (omega arith) in
    omega arith

pub last_below : (rows : List RowOf) → IsWellShaped rows → (i : ℕ) → i < length rows → (row_at rows i).last < length rows
last_below rows w i h = last_below_to rows w i i (omega arith) h

-- the parent of a row that was found
pub parent_of_found : (rows : List RowOf) → IsWellShaped rows → (i : ℕ) (r : RowOf) → Some r ≡ slice_get rows i → 0 < i → r.parent < i
parent_of_found rows w i r e h =
    let l : i < length rows = slice_get_within rows i r (sym e) in
    let f : (row_at rows i).parent ≡ r.parent = ap (λ (q : RowOf). q.parent) (get_or_from_slice_get rows i r no_row (sym e)) in
    let b = w.nesting.parent_before i h l in
    omega arith

-- only the root and elements have rows below them: another row is the last of its subtree
pub leaf_last : (rows : List RowOf) → IsWellShaped rows → (i : ℕ) → i < length rows → is_inner (row_at rows i).kind ≡ false → (row_at rows i).last ≡ i
leaf_last rows w i lt leaf =
    let reach = w.nesting.last_from i lt in
    let inside = last_below rows w i lt in
    elim (cases_lt i (row_at rows i).last) [
      | inr not_before ↦ omega arith
      | inl before ↦
          let up = w.nesting.parent_before (i + 1) (omega arith) (omega arith) in
          elim (cases_lt (row_at rows (i + 1)).parent i) [
            | inl higher ↦ let gone = w.nesting.ended (i + 1) i (omega arith) higher (omega arith) in omega arith
            | inr not_higher ↦
                let here : (row_at rows (i + 1)).parent ≡ i = omega arith in
                let inner : is_inner (row_at rows i).kind ≡ true = ap (λ (m : ℕ). is_inner (row_at rows m).kind) (sym here) ∙ w.nesting.parent_inner (i + 1) (omega arith) in
                absurd (false≢true (sym leaf ∙ inner))
          ]
    ]
