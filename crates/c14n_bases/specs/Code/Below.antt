-- Where relative paths stand below a base, and where that stands in the value of the base.
use Rattle.std.specs.Prelude.{◌≡◌, ℕ, ◌+◌, ◌*◌, None, List, [], ◌∷◌, ◌++◌, ◌&&◌, codes, cond, length, is_some, if◌then◌else◌}
use Rattle.c14n_bases.specs.Join.{Parts, is_slash, segments, directory, base_path, is_empty, is_absolute, clean, scheme_octets, authority_octets, put_together, cleaned_value}
use Rattle.c14n_bases.specs.Code.Surplus.{surplus, names_kept}
use Rattle.c14n_bases.specs.Code.Clean.{kind_of}
use Rattle.c14n_bases.specs.declared.prepare.Shape.{Shape}

-- a relative path below the base stands behind this
unfoldable pub directory_below : Parts → List ℕ
directory_below base = if is_some base.authority && is_empty base.path then codes "/" else directory (base_path base.path)

-- the names in it that are kept
unfoldable pub names_below : Parts → List (List ℕ)
names_below base = names_kept 0 (segments (directory_below base))

-- and how many `..` before them
unfoldable pub upwards_below : Parts → ℕ
upwards_below base = if is_absolute (directory_below base) then 0 else surplus 0 (segments (directory_below base))

-- names, each with `/` behind it
abbrev pub slashed : List (List ℕ) → List ℕ
slashed [] = []
slashed (s ∷ more) = s ++ (codes "/" ++ slashed more)

-- where each of these names begins, the first one at a place, and what stands behind the last one
abbrev pub starts_from : ℕ → List (List ℕ) → List ℕ
starts_from at [] = at ∷ []
starts_from at (s ∷ more) = at ∷ starts_from (at + (length s + 1)) more

-- the places behind each `/` of a text that begins at a place
abbrev pub behind_slashes : ℕ → List ℕ → List ℕ
behind_slashes at [] = []
behind_slashes at (c ∷ cs) = if is_slash c then (at + 1) ∷ behind_slashes (at + 1) cs else behind_slashes (at + 1) cs

-- where the first name stands in the value of the base
unfoldable pub first_below : Parts → ℕ
first_below base = length (scheme_octets base.scheme ++ authority_octets base.authority) + length (cond (is_absolute base.path) (codes "/") [])
    + 3 * upwards_below base

-- the places of the names in the value of the base
unfoldable pub starts_below : Parts → List ℕ
starts_below base = starts_from (first_below base) (names_below base)

-- this is known of the base
pub record IsShape (base : Parts) (shape : Shape) : Type 0 where
  pub kind : shape.kind ≡ kind_of base
  pub has_scheme : shape.has_scheme ≡ is_some base.scheme
  pub scheme : shape.scheme ≡ length (scheme_octets base.scheme)
  pub roots : shape.roots ≡ length (scheme_octets base.scheme ++ authority_octets base.authority)
  pub path : shape.path ≡ length (put_together base.scheme base.authority (clean base.path) None)
  pub absolute : shape.absolute ≡ is_absolute (directory_below base)
  pub upwards : shape.upwards ≡ upwards_below base

-- and its value and the places of the names in it are these
pub record IsKnown (base : Parts) (known : Shape) (value places : List ℕ) : Type 0 where
  pub shape : IsShape base known
  pub text : value ≡ cleaned_value base
  pub starts : places ≡ starts_below base
