-- The first line of a catalog that is refused decides.
use Rattle.std.proofs.Common.{ℕ, List, [], ◌∷◌, ◌++◌, length, Option, Some, None, Result, Ok, Err, refl, nat_lt, inl, inr}
use Rattle.std.specs.List.{before_first, after_first}
use Rattle.std.proofs.lemmas.Bool.{cases_Bool}
use Rattle.sig_base.specs.LineFaults.{FileDecides}
use Rattle.sig_base.specs.Lines.{is_blank}
use Rattle.sig_base.proofs.LineFaultLaws.{Agrees, line_agrees}
use Rattle.sig_base.proofs.LineFaultLaws as line
use Rattle.url.specs.Parts.{Parts, serialize}
use Rattle.url.specs.Parser.{parse_url}
use Rattle.url.specs.declared.error.ParseError.{ParseError}
use Rattle.uri_refs.specs.declared.catalog.CatalogFault.TheVariants.{BadLine}
use Rattle.uri_refs.specs.CatalogEntries.{CatalogEntry}
use Rattle.uri_refs.specs.CatalogLines.{is_entry_url}
use Rattle.uri_refs.specs.Catalogs.{added_unless, catalog_of, entry_limit, entry_of, has_name, line_read, url_read}
use Rattle.uri_refs.specs.CatalogFiles.{clash, entries_by, fault_of, spelled, url_fault}

entry-agrees : (found : Option CatalogEntry) (entry : CatalogEntry) (entries : List CatalogEntry)
    → Agrees (clash found entry entries) (added_unless found entry entries) (entries ++ entry ∷ [])
entry-agrees (Some earlier) entry entries = refl
entry-agrees None entry entries =
    elim (cases_Bool (nat_lt (length entries) entry_limit)) [ inl room ↦ rw room refl | inr full ↦ rw full refl ]

url-agrees : (number : ℕ) (url : Result Parts ParseError) (name : List ℕ) (entries : List CatalogEntry)
    → Agrees (url_fault number url name entries) (url_read number url name entries) (entries ++ entries_by number url name)
url-agrees number (Ok url) name entries = elim (cases_Bool (is_entry_url url)) [
  | inr bad ↦ rw bad refl
  | inl good ↦ rw good
      (entry-agrees (entry_of (serialize url) entries) (record { line = number; url = serialize url; name = name }) entries)
]
url-agrees number (Err e) name entries = refl

agrees : (number : ℕ) (line : List ℕ) (entries : List CatalogEntry)
    → Agrees (fault_of number line entries) (line_read number line entries) (entries ++ spelled number line)
unfolding line_read
agrees number line entries =
    let url = parse_url None (before_first is_blank line) in
    let name = after_first is_blank line in
    line_agrees (BadLine number) line entries (entries_by number url name) _ _ (elim (cases_Bool (has_name line)) [
      | inr bad ↦ rw bad refl
      | inl good ↦ rw good (url-agrees number url name entries)
    ])

pub file_decides : (file : List ℕ) → FileDecides spelled fault_of file (catalog_of file)
unfolding catalog_of
file_decides file = line.file_decides spelled fault_of line_read agrees file
