-- Simple content, child by child.
use Rattle.std.proofs.Common.{◌≡◌, ℕ, ◌<◌, List, [], ◌∷◌, ◌++◌, length, refl, ap, arith, append_assoc, append-nil}
use Rattle.std.specs.Prelude.{Result, Ok, Err}
use Rattle.std.specs.List.{All, range_with_len}
use Rattle.std.proofs.lemmas.List.Elements.{All-filter}
use Rattle.std.proofs.lemmas.List.FromFn.{length-range_with_len, get_or-range_with_len}
use Rattle.xml_doc.specs.Rows.{RowOf}
use Rattle.xml_doc.specs.Shape.{row_at}
use Rattle.xml_doc.specs.Axes.{on_axis}
use Rattle.xml_doc.specs.declared.axis.Axis.TheVariants.{Child}
use Rattle.dsig_fields.specs.Reading.{◌>>=◌, Refuses, children}
use Rattle.dsig_fields.specs.Simple.{joined, added_by}
use Rattle.dsig_fields.specs.declared.refusal.FieldRefusal.{FieldRefusal}
use Rattle.dsig_fields.proofs.Refusals.{bind_refused}

-- ---- a child is a row
pub children_within : (rows : List RowOf) (x : ℕ) → All (λ y. y < length rows) (children rows x)
children_within rows x =
    let n = length rows in
    All-filter (on_axis Child rows x) (λ y. y < n) (range_with_len 0 n) (λ k d h.
    let long = length-range_with_len 0 n in
    let is = get_or-range_with_len 0 n k d (omega (arith, h, long)) in
    omega (arith, is, h, long))

-- ---- what is read already, and what is still to come
abbrev pub with_front : List ℕ → Result (List ℕ) FieldRefusal → Result (List ℕ) FieldRefusal
with_front front outcome = outcome >>= (λ more. Ok (front ++ more))

pub joined_from : (o : Result (List ℕ) FieldRefusal) → with_front [] o ≡ o
joined_from (Ok all) = refl
joined_from (Err refusal) = refl

front_more : (old one : List ℕ) (o : Result (List ℕ) FieldRefusal) → with_front (old ++ one) o ≡ with_front old (o >>= (λ others. Ok (one ++ others)))
front_more old one (Ok others) = ap Ok (append_assoc old one others)
front_more old one (Err refusal) = refl

module _ (rows : List RowOf) (old : List ℕ) (y : ℕ) (rest : List ℕ) where
  pub joined_turn : (one : List ℕ) → added_by y (row_at rows y).kind (row_at rows y).value ≡ Ok one → with_front (old ++ one) (joined rows rest) ≡ with_front old (joined rows (y ∷ rest))
  unfolding joined
  joined_turn one e = rw e (front_more old one (joined rows rest))

  pub joined_refused : (refusal : FieldRefusal) → Refuses refusal (added_by y (row_at rows y).kind (row_at rows y).value) → Refuses refusal (with_front old (joined rows (y ∷ rest)))
  unfolding joined
  joined_refused refusal r = bind_refused refusal (joined rows (y ∷ rest)) _ (bind_refused refusal (added_by y (row_at rows y).kind (row_at rows y).value) _ r)

pub joined_all : (rows : List RowOf) (old : List ℕ) → with_front old (joined rows []) ≡ Ok old
unfolding joined
joined_all rows old = ap Ok (append-nil old)
