-- What each kind of line of a catalog comes to.
use Rattle.std.proofs.Common.{◌≡◌, ◌∙◌, ℕ, ◌<◌, true, false, List, length, refl}
use Rattle.std.specs.Prelude.{None, Result, Ok, Err}
use Rattle.std.specs.Str.{IsUtf8}
use Rattle.std.specs.List.{position_or_len, before_first, after_first}
use Rattle.sig_base.specs.Lines.{is_blank, is_skipped}
use Rattle.sig_base.proofs.LineLaws.{by-not_utf8, by-other, by-skipped, no_blank, some_blank}
use Rattle.url.specs.Parser.{parse_url}
use Rattle.uri_refs.specs.CatalogEntries.{CatalogEntry}
use Rattle.uri_refs.specs.CatalogLines.{is_file_name}
use Rattle.uri_refs.specs.Catalogs.{url_read, line_read, Refuses}
use Rattle.uri_refs.specs.declared.catalog.CatalogFault.{CatalogFault}
use Rattle.uri_refs.specs.declared.catalog.CatalogFault.TheVariants.{BadLine, Repeated, TooMany, Memory}

module _ (number : ℕ) (line : List ℕ) (entries : List CatalogEntry) where
  pub read-not_utf8 : (IsUtf8 line → ⊥) → line_read number line entries ≡ Err (BadLine number)
  unfolding line_read
  read-not_utf8 h = by-not_utf8 (BadLine number) line entries _ h

  pub read-skipped : IsUtf8 line → is_skipped line ≡ true → line_read number line entries ≡ Ok entries
  unfolding line_read
  read-skipped h s = by-skipped (BadLine number) line entries _ h s

  pub read-no_space : IsUtf8 line → is_skipped line ≡ false → position_or_len is_blank line ≡ length line
      → line_read number line entries ≡ Err (BadLine number)
  unfolding line_read
  read-no_space h s p = by-other (BadLine number) line entries _ h s ∙ rw (no_blank line p) refl

  pub read-no_name : IsUtf8 line → is_skipped line ≡ false → position_or_len is_blank line < length line
      → is_file_name (after_first is_blank line) ≡ false
      → line_read number line entries ≡ Err (BadLine number)
  unfolding line_read
  read-no_name h s p n = by-other (BadLine number) line entries _ h s ∙ rw (some_blank line p, n) refl

  pub read-entry : IsUtf8 line → is_skipped line ≡ false → position_or_len is_blank line < length line
      → is_file_name (after_first is_blank line) ≡ true
      → line_read number line entries ≡ url_read number (parse_url None (before_first is_blank line)) (after_first is_blank line) entries
  unfolding line_read
  read-entry h s p n = by-other (BadLine number) line entries _ h s ∙ rw (some_blank line p, n) refl

-- what a refusal tells of an outcome it tells of each that has the same fault
pub refused_alike : (fault : CatalogFault) (outcome total : Result (List CatalogEntry) CatalogFault)
    → (outcome ≡ Err fault → total ≡ Err fault)
    → Refuses fault outcome → Refuses fault total
refused_alike (BadLine n) outcome total same r = same r
refused_alike (Repeated n m) outcome total same r = same r
refused_alike TooMany outcome total same r = same r
refused_alike Memory outcome total same r = tt
