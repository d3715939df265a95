-- References and their views side by side.
use Rattle.std.specs.Prelude.{◌≡◌, ◌<◌, ◌+◌, ℕ, List, [], ◌∷◌, Some, drop, length, slice_get}
use Rattle.dsig_fields.specs.declared.fields.Reference.{Reference}

-- no Reference is left that has a view
abbrev pub AreThrough : List Reference → List (List ℕ) → Type 0
AreThrough [] views = Unit {0}
AreThrough (reference ∷ more) [] = Unit {0}
AreThrough (reference ∷ more) (view ∷ others) = ⊥

-- from this place on this Reference and its view come first
pub record BeginWith (k : ℕ) (references : List Reference) (views : List (List ℕ)) (reference : Reference) (view : List ℕ) : Type 0 where
  pub within : k < length references
  pub found : Some reference ≡ slice_get references k
  pub references_are : drop k references ≡ reference ∷ drop (k + 1) references
  pub views_are : drop k views ≡ view ∷ drop (k + 1) views
