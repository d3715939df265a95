-- The files that a catalog gives for URLs, one a line, and the line for which it is refused
use Rattle.std.specs.Prelude.{◌≡◌, ◌&&◌, ℕ, Bool, not, nat_lt, List, [], ◌∷◌, ◌++◌, length, Option, Some, None, Result, Ok, Err, if◌then◌else◌, find}
use Rattle.std.specs.Str.{bytes_eq}
use Rattle.std.specs.List.{before_first, after_first}
use Rattle.sig_base.specs.Lines.{file_read, has_blank, is_blank, line_by}
use Rattle.sig_base.specs.Outcomes.{Gives}
use Rattle.url.specs.Parts.{Parts, serialize}
use Rattle.url.specs.Parser.{parse_url}
use Rattle.url.specs.declared.error.ParseError.{ParseError}
use Rattle.uri_refs.specs.CatalogEntries.{CatalogEntry}
use Rattle.uri_refs.specs.CatalogLines.{is_entry_url, is_file_name}
use Rattle.uri_refs.specs.declared.catalog.CatalogFault.{CatalogFault}
use Rattle.uri_refs.specs.declared.catalog.CatalogFault.TheVariants.{BadLine, Repeated, TooMany, Memory}

-- the entry of this URL text
abbrev pub entry_of : List ℕ → List CatalogEntry → Option CatalogEntry
entry_of url entries = find (λ entry. bytes_eq entry.url url) entries

-- how many entries a catalog may have
abbrev pub entry_limit : ℕ
entry_limit = 1024

-- an entry behind the others, of which the one given, or none, has its URL
abbrev pub added_unless : Option CatalogEntry → CatalogEntry → List CatalogEntry → Result (List CatalogEntry) CatalogFault
added_unless (Some earlier) entry entries = Err (Repeated entry.line earlier.line)
added_unless None entry entries = if nat_lt (length entries) entry_limit then Ok (entries ++ entry ∷ []) else Err TooMany

-- an entry behind the others, unless one of them has its URL
abbrev pub added : CatalogEntry → List CatalogEntry → Result (List CatalogEntry) CatalogFault
added entry entries = added_unless (entry_of entry.url entries) entry entries

-- the entries with that of a URL and a name
abbrev pub url_read : ℕ → Result Parts ParseError → (name : List ℕ) → List CatalogEntry → Result (List CatalogEntry) CatalogFault
url_read number (Ok url) name entries =
    if is_entry_url url then added (record { line = number; url = serialize url; name = name }) entries else Err (BadLine number)
url_read number (Err e) name entries = Err (BadLine number)

-- a space, and behind it the name of a file
abbrev pub has_name : List ℕ → Bool
has_name line = has_blank line && is_file_name (after_first is_blank line)

-- the entries with that of one more line, or why the line is refused
unfoldable pub line_read : ℕ → List ℕ → List CatalogEntry → Result (List CatalogEntry) CatalogFault
line_read number line entries =
    line_by (BadLine number) line entries
    (if not (has_name line) then Err (BadLine number)
    else url_read number (parse_url None (before_first is_blank line)) (after_first is_blank line) entries)

-- the entries of a file, or its fault: the first line that is refused decides
unfoldable pub catalog_of : List ℕ → Result (List CatalogEntry) CatalogFault
catalog_of file = file_read line_read [] file

-- an outcome is this fault; want of memory may come at any file
abbrev pub Refuses : CatalogFault → Result (List CatalogEntry) CatalogFault → Type 0
Refuses Memory outcome = Unit {0}
Refuses fault outcome = outcome ≡ Err fault

-- an answer is the outcome, unless it is want of memory
abbrev pub Answers : Result (List CatalogEntry) CatalogFault → Result (List CatalogEntry) CatalogFault → Type 0
Answers result outcome = Gives Refuses (λ entries. entries) result outcome
