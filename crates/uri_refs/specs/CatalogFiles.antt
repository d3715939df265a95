-- A catalog line by line: what each of its lines spells, and why it is refused. The first line that is refused decides
use Rattle.std.specs.Prelude.{ℕ, not, nat_lt, List, [], ◌∷◌, length, Option, Some, None, Result, Ok, Err, if◌then◌else◌}
use Rattle.std.specs.List.{before_first, after_first}
use Rattle.sig_base.specs.LineFaults.{fault_by, spelled_by}
use Rattle.sig_base.specs.Lines.{is_blank}
use Rattle.url.specs.Parts.{Parts, serialize}
use Rattle.url.specs.Parser.{parse_url}
use Rattle.url.specs.declared.error.ParseError.{ParseError}
use Rattle.uri_refs.specs.CatalogEntries.{CatalogEntry}
use Rattle.uri_refs.specs.CatalogLines.{is_entry_url}
use Rattle.uri_refs.specs.Catalogs.{entry_limit, entry_of, has_name}
use Rattle.uri_refs.specs.declared.catalog.CatalogFault.{CatalogFault}
use Rattle.uri_refs.specs.declared.catalog.CatalogFault.TheVariants.{BadLine, Repeated, TooMany}

-- the entry of a URL and a name, if there is a URL
abbrev pub entries_by : ℕ → Result Parts ParseError → (name : List ℕ) → List CatalogEntry
entries_by number (Ok url) name = record { line = number; url = serialize url; name = name } ∷ []
entries_by number (Err e) name = []

-- the entry that a line of this number spells, if it spells one
abbrev pub spelled : ℕ → List ℕ → List CatalogEntry
spelled number line =
    spelled_by line (entries_by number (parse_url None (before_first is_blank line)) (after_first is_blank line))

-- why an entry can't stand behind these, of which the one given, or none, has its URL
abbrev pub clash : Option CatalogEntry → CatalogEntry → List CatalogEntry → Option CatalogFault
clash (Some earlier) entry entries = Some (Repeated entry.line earlier.line)
clash None entry entries = if nat_lt (length entries) entry_limit then None else Some TooMany

-- why the entry of a URL and a name can't
abbrev pub url_fault : ℕ → Result Parts ParseError → (name : List ℕ) → List CatalogEntry → Option CatalogFault
url_fault number (Ok url) name entries =
    if is_entry_url url
    then clash (entry_of (serialize url) entries) (record { line = number; url = serialize url; name = name }) entries
    else Some (BadLine number)
url_fault number (Err e) name entries = Some (BadLine number)

-- why a line is refused behind lines that spell these entries, if it is
abbrev pub fault_of : ℕ → List ℕ → List CatalogEntry → Option CatalogFault
fault_of number line entries =
    fault_by (BadLine number) line
    (if not (has_name line) then Some (BadLine number)
    else url_fault number (parse_url None (before_first is_blank line)) (after_first is_blank line) entries)
