-- What each kind of line of a key file comes to.
use Rattle.std.proofs.Common.{◌≡◌, ℕ, ◌<◌, true, false, List, length, refl, ◌∙◌}
use Rattle.std.specs.Prelude.{Result, Ok, Err}
use Rattle.std.specs.Str.{IsUtf8}
use Rattle.std.specs.List.{position_or_len, before_first, after_first}
use Rattle.sig_base.specs.Lines.{is_blank, is_skipped}
use Rattle.sig_base.proofs.LineLaws.{by-not_utf8, by-other, by-skipped, no_blank, some_blank}
use Rattle.digests_hmac.specs.declared.key_table.KeyFault.{KeyFault}
use Rattle.digests_hmac.specs.declared.key_table.KeyFault.TheVariants.{BadLine, Repeated, TooMany, Memory}
use Rattle.digests_hmac.specs.KeyEntries.{KeyEntry}
use Rattle.digests_hmac.specs.KeyLines.{is_key_digits, is_key_name}
use Rattle.digests_hmac.specs.Keys.{entry_of, added, line_read, Refuses}

module _ (number : ℕ) (line : List ℕ) (keys : List KeyEntry) where
  pub read-not_utf8 : (IsUtf8 line → ⊥) → line_read number line keys ≡ Err (BadLine number)
  unfolding line_read
  read-not_utf8 h = by-not_utf8 (BadLine number) line keys _ h

  pub read-skipped : IsUtf8 line → is_skipped line ≡ true → line_read number line keys ≡ Ok keys
  unfolding line_read
  read-skipped h s = by-skipped (BadLine number) line keys _ h s

  pub read-no_space : IsUtf8 line → is_skipped line ≡ false → position_or_len is_blank line ≡ length line
      → line_read number line keys ≡ Err (BadLine number)
  unfolding line_read
  read-no_space h s p = by-other (BadLine number) line keys _ h s ∙ rw (no_blank line p) refl

  pub read-no_digits : IsUtf8 line → is_skipped line ≡ false → position_or_len is_blank line < length line
      → is_key_digits (before_first is_blank line) ≡ false → line_read number line keys ≡ Err (BadLine number)
  unfolding line_read
  read-no_digits h s p d = by-other (BadLine number) line keys _ h s ∙ rw (some_blank line p, d) refl

  pub read-no_name : IsUtf8 line → is_skipped line ≡ false → position_or_len is_blank line < length line
      → is_key_digits (before_first is_blank line) ≡ true → is_key_name (after_first is_blank line) ≡ false
      → line_read number line keys ≡ Err (BadLine number)
  unfolding line_read
  read-no_name h s p d n = by-other (BadLine number) line keys _ h s ∙ rw (some_blank line p, d, n) refl

  pub read-key : IsUtf8 line → is_skipped line ≡ false → position_or_len is_blank line < length line
      → is_key_digits (before_first is_blank line) ≡ true → is_key_name (after_first is_blank line) ≡ true
      → line_read number line keys ≡ added (entry_of number line) keys
  unfolding line_read
  read-key h s p d n = by-other (BadLine number) line keys _ h s ∙ rw (some_blank line p, d, n) refl

-- what a refusal tells of an outcome it tells of each that has the same fault
pub refused_alike : (fault : KeyFault) (outcome total : Result (List KeyEntry) KeyFault) → (outcome ≡ Err fault → total ≡ Err fault)
    → Refuses fault outcome → Refuses fault total
refused_alike (BadLine n) outcome total same r = same r
refused_alike (Repeated n m) outcome total same r = same r
refused_alike TooMany outcome total same r = same r
refused_alike Memory outcome total same r = tt
