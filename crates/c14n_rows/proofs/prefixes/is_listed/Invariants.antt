use Rattle.std.proofs.Common.{◌≡◌, map, drop, encode_utf8_all}
use Rattle.std.specs.List.{list_any}
use Rattle.std.specs.Str.{bytes_eq}
use Rattle.c14n_rows.proofs.prefixes.is_listed.Given as goal

abbrev pub invariant-loop-k : goal.invariant-loop-k
invariant-loop-k l = list_any (bytes_eq l.name) (map encode_utf8_all l.prefixes) ≡ list_any (bytes_eq l.name) (map encode_utf8_all (drop l.k l.prefixes))
