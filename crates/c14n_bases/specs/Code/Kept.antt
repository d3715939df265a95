-- The segments that are kept of a path, as they stand in a buffer: the last one first in the list, and last in the buffer.
use Rattle.std.specs.Prelude.{◌≡◌, ℕ, Bool, true, false, List, [], ◌∷◌, ◌++◌, length, reverse, replicate, codes}
use Rattle.std.specs.List.{All, list_any}
use Rattle.c14n_bases.specs.Join.{is_slash, is_up, between_slashes}

-- no `..` is among these
abbrev pub Names : List (List ℕ) → Type 0
Names [] = Unit {0}
Names (s ∷ more) = (is_up s ≡ false) × Names more

-- the `..` at the front, of which a path that begins with `/` has none
abbrev pub ups : Bool → ℕ → List (List ℕ)
ups true n = []
ups false n = replicate n (codes "..")

-- some octets without `/`
pub record IsSegment (s : List ℕ) : Type 0 where
  pub some : s ≡ [] → ⊥
  pub plain : list_any is_slash s ≡ false

-- behind `front` stand the segments kept so far: so many names, behind some `..`
pub record KeptIn (absolute : Bool) (front : List ℕ) (kept : List (List ℕ)) (items : List ℕ) (count : ℕ) : Type 0 where
  pub are : items ≡ front ++ between_slashes (reverse kept)
  pub segments : All IsSegment kept
  pub names : List (List ℕ)
  pub upwards : ℕ
  pub split : kept ≡ names ++ ups absolute upwards
  pub only : Names names
  pub counted : count ≡ length names
