-- Texts in lines, as the files of keys and catalogs are: what their lines come to, read one after the other.
use Rattle.std.specs.Prelude.{◌==◌, ℕ, ◌+◌, Bool, true, not, nat_lt, List, [], ◌∷◌, length, Result, Ok, Err, if◌then◌else◌}
use Rattle.std.specs.List.{list_all, position_or_len}
use Rattle.std.specs.Str.{is_utf8}
use Rattle.std.specs.Str.Lines.{lines}
use Rattle.sig_base.specs.Outcomes.{and_then}

-- the lines of a text: each ends with LF or with CR LF, and the last one need not
unfoldable pub lines_of : List ℕ → List (List ℕ)
lines_of text = lines text

-- a line that is empty or begins with # spells no entry
abbrev pub is_skipped : List ℕ → Bool
is_skipped [] = true
is_skipped (c ∷ rest) = c == 35

-- the space
abbrev pub is_blank : ℕ → Bool
is_blank c = c == 32

-- the line has a space
abbrev pub has_blank : List ℕ → Bool
has_blank line = nat_lt (position_or_len is_blank line) (length line)

-- no octet is a control character below the space
abbrev pub have_no_controls : List ℕ → Bool
have_no_controls octets = list_all (λ c. not (nat_lt c 32)) octets

-- what is had with that of one more line: a line that is no UTF-8 is refused, one that spells no entry changes nothing, and
-- any other one comes to `other`
abbrev pub line_by : {T F : Type 0} → (bad : F) → (line : List ℕ) → (had : T) → (other : Result T F) → Result T F
line_by bad line had other = if not (is_utf8 line) then Err bad else (if is_skipped line then Ok had else other)

-- what is had with that of these lines, the first of which has this number; the first line that is refused decides
unfoldable pub lines_read : {T F : Type 0} → (read : ℕ → List ℕ → T → Result T F) → ℕ → List (List ℕ) → T → Result T F
lines_read read number [] had = Ok had
lines_read read number (line ∷ rest) had = and_then (read number line had) (lines_read read (number + 1) rest)

-- what a file comes to, whose lines are counted from 1 and read behind this
abbrev pub file_read : {T F : Type 0} → (read : ℕ → List ℕ → T → Result T F) → (had : T) → (file : List ℕ) → Result T F
file_read read had file = lines_read read 1 (lines_of file) had
