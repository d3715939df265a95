-- Texts that may stand in an element as they are.
use Rattle.std.specs.Prelude.{◌==◌, ◌&&◌, ◌||◌, ℕ, Bool, not, nat_le, nat_lt, List}
use Rattle.std.specs.List.{list_all}

-- an octet of ASCII that is a character of XML (XML 1.0 section 2.2), stands for itself in character data (section 2.4), ends no
-- line (section 2.11), and is no `]`
abbrev pub is_bare : ℕ → Bool
is_bare c = ((c == 9) || (nat_le 32 c && nat_lt c 128)) && not ((c == 60) || ((c == 38) || (c == 93)))

-- each octet is one
abbrev pub are_bare : List ℕ → Bool
are_bare text = list_all is_bare text
