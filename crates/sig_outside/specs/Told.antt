-- What an object of the outside holds, where it tells that.
use Rattle.std.specs.Option.{ForSome}
use Rattle.std.specs.Prelude.{◌≡◌, ◌++◌, ℕ, List, [], ◌∷◌, Option, Some, None, if◌then◌else◌, bytes_eq}

-- the octets under each name that is held
abbrev pub Held : Type 0
Held = List ℕ → Option (List ℕ)

-- no name is held
abbrev pub no_files : Held
no_files name = None

-- one more name is held, in place of the same name
abbrev pub with_file : List ℕ → List ℕ → Held → Held
with_file name bytes held other = if bytes_eq name other then Some bytes else held other

-- the files of a list, of which the first one of a name counts
abbrev pub file_in : List (List ℕ × List ℕ) → Held
file_in [] = no_files
file_in (file ∷ files) = with_file file.0 file.1 (file_in files)

-- a list that may be told has grown by just these
abbrev pub Grew : {A : Type 0} → Option (List A) → Option (List A) → List A → Type 0
Grew old new more = ForSome old (λ told. new ≡ Some (told ++ more))
