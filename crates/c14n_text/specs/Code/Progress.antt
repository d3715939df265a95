-- A walk over the rows of a document, in document order, that writes what stands before and behind the children of each.
use Rattle.std.specs.Prelude.{◌≡◌, ℕ, ◌≤◌, List, length, ◌⊎◌}
use Rattle.sig_base.specs.declared.sink.Put.{Put}
use Rattle.sig_base.specs.declared.sink.Put.TheVariants.{Done, Refused}
use Rattle.sig_base.specs.Puts.{Appended, Puts}
use Rattle.xml_doc.specs.Rows.{RowOf}
use Rattle.c14n_text.specs.Rows.{parent_of, is_child}
use Rattle.c14n_text.specs.Code.Rows.{last_of}
use Rattle.c14n_text.specs.Tree.{children, output}
use Rattle.c14n_text.specs.Walk.{Stands, Ending}

-- what the root writes
abbrev pub whole : List RowOf → (opening closing : ℕ → List ℕ) → List ℕ
whole rows opening closing = output (children (length rows) (parent_of rows) (is_child rows)) opening closing (length rows) 0

-- a walk that has come to row next, with `top` the innermost row that has not ended
pub record Progress (rows : List RowOf) (opening closing : ℕ → List ℕ) {S : Type 0} (stands_for : S → List ℕ → Type 0) (refusals : S → ℕ)
    (makes : S → List ℕ → List ℕ) (before now : S) (top next : ℕ) : Type 0 where
  pub written : List ℕ
  pub appended : Appended stands_for refusals makes before now written
  pub stands : Stands (length rows) (parent_of rows) (last_of rows) (is_child rows) opening closing top next written

-- the rows that end before row next have ended, or the sink refused
abbrev pub Closed : (rows : List RowOf) (opening closing : ℕ → List ℕ) {S : Type 0} (stands_for : S → List ℕ → Type 0) (refusals : S → ℕ)
    (makes : S → List ℕ → List ℕ) → S → S → ℕ → ℕ → Put → Type 0
Closed rows opening closing stands_for refusals makes before now top next Done = Progress rows opening closing stands_for refusals makes
    before now top next × ((top ≡ 0) ⊎ (next ≤ last_of rows top))
Closed rows opening closing stands_for refusals makes before now top next Refused = Puts stands_for refusals makes before now
    (whole rows opening closing) Refused

-- a walk that has only to close the open rows, of which `top` is the innermost: nothing is written from row `until` on
pub record Finishing (rows : List RowOf) (opening closing : ℕ → List ℕ) {S : Type 0} (stands_for : S → List ℕ → Type 0) (refusals : S → ℕ)
    (makes : S → List ℕ → List ℕ) (before now : S) (until top : ℕ) : Type 0 where
  pub written : List ℕ
  pub appended : Appended stands_for refusals makes before now written
  pub ending : Ending (length rows) (parent_of rows) (last_of rows) (is_child rows) opening closing until top written
