-- The name of a file in a path below the base: this project's own reading of a URL's path.
use Rattle.std.specs.Prelude.{◌==◌, ◌&&◌, ℕ, Bool, not, List, [], ◌∷◌, ◌++◌, length, codes, bytes_eq, Result, Ok, Err, if◌then◌else◌}
use Rattle.std.specs.List.{list_all}
use Rattle.std.specs.Str.{is_utf8}
use Rattle.sig_base.specs.Outcomes.{and_then}
use Rattle.percent_encoding.specs.Percent.{percent_decode}
use Rattle.uri_refs.specs.Cuts.{segments}
use Rattle.uri_refs.specs.declared.refusal.UriRefusal.{UriRefusal}
use Rattle.uri_refs.specs.declared.refusal.UriRefusal.TheVariants.{BadSegment}

-- no slash, no backslash, no zero
abbrev pub is_name_octet : ℕ → Bool
is_name_octet b = not (b == 47) && (not (b == 92) && not (b == 0))

abbrev pub is_plain_part : List ℕ → Bool
is_plain_part part =
    not (length part == 0) && (not (bytes_eq part (codes ".")) && (not (bytes_eq part (codes "..")) && list_all is_name_octet part))

-- a segment, once it is decoded, that may be part of a name
abbrev pub is_name_part : List ℕ → Bool
is_name_part part = is_utf8 part && is_plain_part part

-- the part of a name that a segment spells
abbrev pub part_of : List ℕ → Result (List ℕ) UriRefusal
part_of segment = if is_name_part (percent_decode segment) then Ok (percent_decode segment) else Err BadSegment

-- the name that segments spell: their parts with slashes between them
unfoldable pub name_of_segments : List (List ℕ) → Result (List ℕ) UriRefusal
name_of_segments [] = Ok []
name_of_segments (segment ∷ []) = part_of segment
name_of_segments (segment ∷ next ∷ more) =
    and_then (part_of segment) (λ part. and_then (name_of_segments (next ∷ more)) (λ rest. Ok (part ++ 47 ∷ rest)))

-- the name that a path spells
abbrev pub name_of : List ℕ → Result (List ℕ) UriRefusal
name_of path = name_of_segments (segments path)
