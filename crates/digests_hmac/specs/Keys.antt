-- The keys that a key file spells, one a line, and the line for which it is refused
use Rattle.std.specs.Prelude.{◌≡◌, ℕ, not, nat_lt, List, [], ◌∷◌, ◌++◌, length, Option, Some, None, Result, Ok, Err, if◌then◌else◌, find}
use Rattle.std.specs.Str.{bytes_eq}
use Rattle.std.specs.List.{before_first, after_first}
use Rattle.sig_base.specs.Lines.{file_read, is_blank, line_by}
use Rattle.sig_base.specs.Outcomes.{Gives}
use Rattle.digests_hmac.specs.KeyLines.{is_key_line, octets_of_digits}
use Rattle.digests_hmac.specs.declared.key_table.KeyFault.{KeyFault}
use Rattle.digests_hmac.specs.declared.key_table.KeyFault.TheVariants.{BadLine, Repeated, TooMany, Memory}
use Rattle.digests_hmac.specs.KeyEntries.{KeyEntry}

-- what a key line of this number spells
abbrev pub entry_of : ℕ → List ℕ → KeyEntry
entry_of number line =
    record { line = number; name = after_first is_blank line; octets = octets_of_digits (before_first is_blank line) }

-- the key of this name
abbrev pub named : List ℕ → List KeyEntry → Option KeyEntry
named name keys = find (λ key. bytes_eq key.name name) keys

-- how many keys a file may hold
abbrev pub key_limit : ℕ
key_limit = 1024

-- a key behind the others, of which the one given, or none, has its name
abbrev pub added_unless : Option KeyEntry → KeyEntry → List KeyEntry → Result (List KeyEntry) KeyFault
added_unless (Some earlier) key keys = Err (Repeated key.line earlier.line)
added_unless None key keys = if nat_lt (length keys) key_limit then Ok (keys ++ key ∷ []) else Err TooMany

-- a key behind the others, unless one of them has its name
abbrev pub added : KeyEntry → List KeyEntry → Result (List KeyEntry) KeyFault
added key keys = added_unless (named key.name keys) key keys

-- the keys with that of one more line, or why the line is refused
unfoldable pub line_read : ℕ → List ℕ → List KeyEntry → Result (List KeyEntry) KeyFault
line_read number line keys =
    line_by (BadLine number) line keys (if not (is_key_line line) then Err (BadLine number) else added (entry_of number line) keys)

-- the keys of a file, or its fault: the first line that is refused decides
unfoldable pub keys_of : List ℕ → Result (List KeyEntry) KeyFault
keys_of file = file_read line_read [] file

-- an outcome is this fault; want of memory may come at any file
abbrev pub Refuses : KeyFault → Result (List KeyEntry) KeyFault → Type 0
Refuses Memory outcome = Unit {0}
Refuses fault outcome = outcome ≡ Err fault

-- an answer is the outcome, unless it is want of memory
abbrev pub Answers : Result (List KeyEntry) KeyFault → Result (List KeyEntry) KeyFault → Type 0
Answers result outcome = Gives Refuses (λ keys. keys) result outcome

-- the key of a file that has one
abbrev pub only_of : List KeyEntry → Option KeyEntry
only_of [] = None
only_of (key ∷ []) = Some key
only_of (key ∷ another ∷ rest) = None
