-- A key file line by line: what each of its lines spells, and why it is refused. The first line that is refused decides
use Rattle.std.specs.Prelude.{ℕ, not, nat_lt, List, [], ◌∷◌, length, Option, Some, None, if◌then◌else◌}
use Rattle.sig_base.specs.LineFaults.{fault_by, spelled_by}
use Rattle.digests_hmac.specs.KeyLines.{is_key_line}
use Rattle.digests_hmac.specs.declared.key_table.KeyFault.{KeyFault}
use Rattle.digests_hmac.specs.declared.key_table.KeyFault.TheVariants.{BadLine, Repeated, TooMany}
use Rattle.digests_hmac.specs.KeyEntries.{KeyEntry}
use Rattle.digests_hmac.specs.Keys.{entry_of, key_limit, named}

-- the key that a line of this number spells, if it spells one
abbrev pub spelled : ℕ → List ℕ → List KeyEntry
spelled number line = spelled_by line (entry_of number line ∷ [])

-- why a key can't stand behind these, of which the one given, or none, has its name
abbrev pub clash : Option KeyEntry → KeyEntry → List KeyEntry → Option KeyFault
clash (Some earlier) key keys = Some (Repeated key.line earlier.line)
clash None key keys = if nat_lt (length keys) key_limit then None else Some TooMany

-- why a line is refused behind lines that spell these keys, if it is
abbrev pub fault_of : ℕ → List ℕ → List KeyEntry → Option KeyFault
fault_of number line keys =
    fault_by (BadLine number) line
    (if not (is_key_line line) then Some (BadLine number)
    else clash (named (entry_of number line).name keys) (entry_of number line) keys)
