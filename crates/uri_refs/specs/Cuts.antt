-- Cutting texts of octets.
use Rattle.std.specs.Prelude.{◌==◌, ℕ, ◌-◌, Bool, List, length, take, drop, bytes_eq, reverse, position, Option, Some, None, if◌then◌else◌}
use Rattle.std.specs.List.{slice_split}
use Rattle.std.specs.Option.{option_map_or}

-- what stands behind a prefix
abbrev pub behind : (prefix text : List ℕ) → Option (List ℕ)
behind prefix text = if bytes_eq prefix (take (length prefix) text) then Some (drop (length prefix) text) else None

abbrev pub is_slash : ℕ → Bool
is_slash b = b == 47

-- a text up to its last slash, that one with it
abbrev pub folder_length : List ℕ → ℕ
folder_length text = option_map_or (λ after. length text - after) (position is_slash (reverse text)) 0

abbrev pub folder_part : List ℕ → List ℕ
folder_part text = take (folder_length text) text

-- the segments of a path: what stands between its slashes (RFC 3986, section 3.3)
abbrev pub segments : List ℕ → List (List ℕ)
segments path = slice_split is_slash path
