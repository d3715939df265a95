-- How a name and its octets are seen.
use Rattle.std.specs.Prelude.{ℕ, List, string_bytes}
use Rattle.sig_outside.specs.declared.named.Named.{Named}

-- the name and the octets
abbrev pub pair_of : Named → List ℕ × List ℕ
pair_of e = (string_bytes e.name, e.bytes.items)
