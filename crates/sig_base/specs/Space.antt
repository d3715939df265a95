-- White space of XML.
use Rattle.std.specs.Prelude.{◌==◌, ℕ, ◌||◌, Bool}

-- space, tab, CR and LF (XML 1.0 section 2.3)
abbrev pub is_space : ℕ → Bool
is_space octet = (octet == 32) || (octet == 9) || (octet == 13) || (octet == 10)
