-- The lines of a text, and what they come to.
use Rattle.std.proofs.Common.{◌≡◌, ℕ, ◌+◌, ◌-◌, take, drop, length-drop, ◌<◌, ◌≤◌, ◌==◌, true, false, cond, Bool, List, [], ◌∷◌, length, refl, sym, ap, ◌∙◌, arith, ne_eqb, lt-ltb, le-ltb}
use Rattle.std.specs.Prelude.{Result, Ok, Err, All}
use Rattle.std.proofs.lemmas.Grind.{common_steps}
use Rattle.std.proofs.lemmas.List.{nil_from_length, take_all}
use Rattle.std.specs.Str.{is_utf8, IsUtf8}
use Rattle.std.specs.Str.Lines.{lines_of_parts, strip_carriage_return}
use Rattle.std.specs.List.{slice_split, position_or_len, before_first, after_first}
use Rattle.std.proofs.lemmas.Str.{IsUtf8-from_is_utf8, is_utf8-from_IsUtf8}
use Rattle.std.proofs.lemmas.List.Sums.{fails_before_first}
use Rattle.std.proofs.lemmas.List.Splits.{slice_split_first, slice_split_none, length-slice_split}
use Rattle.std.proofs.lemmas.List.Elements.{All-from_get_or}
use Rattle.sig_base.specs.Lines.{has_blank, is_blank, is_skipped, line_by, lines_of, lines_read}

lines_of_parts-cons : (x : List ℕ) (parts : List (List ℕ)) → 0 < length parts
    → lines_of_parts (x ∷ parts) ≡ strip_carriage_return x ∷ lines_of_parts parts
lines_of_parts-cons x [] h = absurd (omega arith)
lines_of_parts-cons x (y ∷ more) h = refl

abbrev is_lf : ℕ → Bool
is_lf octet = octet == 10

-- a line that ends with LF, and the lines behind it
lines-first : (text : List ℕ) → position_or_len is_lf text < length text
    → lines_of text ≡ strip_carriage_return (before_first is_lf text) ∷ lines_of (after_first is_lf text)
unfolding lines_of
lines-first text h =
    let parts = slice_split_first is_lf text 0 h in
    let count = length-slice_split is_lf (after_first is_lf text) in
    ap lines_of_parts parts
    ∙ lines_of_parts-cons (before_first is_lf text) (slice_split is_lf (after_first is_lf text)) (omega (arith, count))

-- no line is left
lines-nil : lines_of [] ≡ []
unfolding lines_of
lines-nil = refl

-- a line that nothing ends
lines-last : (text : List ℕ) → 0 < length text → position_or_len is_lf text ≡ length text → lines_of text ≡ text ∷ []
unfolding lines_of
lines-last text some h =
    let none : All (λ (octet : ℕ). is_lf octet ≡ false) text =
    All-from_get_or (λ (octet : ℕ). is_lf octet ≡ false) text 0 (λ i l. fails_before_first is_lf text i 0 (omega arith)) in
    ap lines_of_parts (slice_split_none is_lf text none) ∙ ap (λ t. cond t [] (text ∷ [])) (ne_eqb (length text) 0 (λ z. omega arith))

-- the first line of a text in which no LF stands
pub first-whole : (text : List ℕ) (end : ℕ) → end ≡ position_or_len is_lf text → end ≡ length text → 0 < length text
    → lines_of text ≡ text ∷ lines_of (take (length text - end) (drop end text))
first-whole text end place all some =
    let none : take (length text - end) (drop end text) ≡ [] = nil_from_length _ (rw all (grind (arith, common_steps))) in
    let left : lines_of (take (length text - end) (drop end text)) ≡ [] = rw none lines-nil in
    lines-last text some (sym place ∙ all) ∙ ap (λ (t : List (List ℕ)). text ∷ t) (sym left)

-- the first line of another text
pub first-cut : (text : List ℕ) (end : ℕ) → end ≡ position_or_len is_lf text → end < length text
    → lines_of text ≡ strip_carriage_return (take end text) ∷ lines_of (take (length text - (end + 1)) (drop (end + 1) text))
first-cut text end place short =
    let size = length-drop (end + 1) text in
    let rest : take (length text - (end + 1)) (drop (end + 1) text) ≡ drop (end + 1) text =
    take_all (length text - (end + 1)) (drop (end + 1) text) (omega arith) in
    rw (rest, place) (lines-first text (rw place at short))

-- octets that are no text
pub not_utf8 : (line : List ℕ) → (IsUtf8 line → ⊥) → is_utf8 line ≡ false
not_utf8 line h =
    elim (is_utf8 line) as (λ b. is_utf8 line ≡ b → b ≡ false) [
      | true ↦ λ e. absurd (h (IsUtf8-from_is_utf8 line e))
      | false ↦ λ e. refl
    ] refl

-- the line has a space exactly where the space's place is before its end
pub some_blank : (line : List ℕ) → position_or_len is_blank line < length line → has_blank line ≡ true
some_blank line p = lt-ltb _ _ p

pub no_blank : (line : List ℕ) → position_or_len is_blank line ≡ length line → has_blank line ≡ false
no_blank line p = le-ltb _ _ (omega arith)

-- what each kind of line comes to
module _ {T F : Type 0} (bad : F) (line : List ℕ) (had : T) where
  pub by-not_utf8 : (other : Result T F) → (IsUtf8 line → ⊥) → line_by bad line had other ≡ Err bad
  by-not_utf8 other h = rw (not_utf8 line h) refl

  pub by-skipped : (other : Result T F) → IsUtf8 line → is_skipped line ≡ true → line_by bad line had other ≡ Ok had
  by-skipped other h s = rw (is_utf8-from_IsUtf8 line h, s) refl

  pub by-other : (other : Result T F) → IsUtf8 line → is_skipped line ≡ false → line_by bad line had other ≡ other
  by-other other h s = rw (is_utf8-from_IsUtf8 line h, s) refl

-- a loop over the lines
module _ {T F : Type 0} (read : ℕ → List ℕ → T → Result T F) where
  -- a line that was read
  pub line-read : (number : ℕ) (line : List ℕ) (rest : List (List ℕ)) (had more : T) (total : Result T F)
      → read number line had ≡ Ok more → lines_read read number (line ∷ rest) had ≡ total → lines_read read (number + 1) rest more ≡ total
  unfolding lines_read
  line-read number line rest had more total r e = rw r at e

  -- a line that was refused, where what a refusal tells of an outcome it tells of each that has the same error
  pub line-refused : (refuses : F → Result T F → Type 0)
      → ((fault : F) (outcome total : Result T F) → (outcome ≡ Err fault → total ≡ Err fault) → refuses fault outcome → refuses fault total)
      → (fault : F) (number : ℕ) (line : List ℕ) (rest : List (List ℕ)) (had : T) (total : Result T F)
      → lines_read read number (line ∷ rest) had ≡ total → refuses fault (read number line had) → refuses fault total
  unfolding lines_read
  line-refused refuses alike fault number line rest had total e r = alike fault (read number line had) total (λ is. sym (rw is at e)) r

  -- behind the last line
  pub lines-end : (number : ℕ) (text : List ℕ) (had : T) (total : Result T F) → length text ≤ 0
      → lines_read read number (lines_of text) had ≡ total → total ≡ Ok had
  unfolding lines_read
  lines-end number [] had total h e = sym (rw lines-nil at e)
  lines-end number (x ∷ text) had total h e = absurd (omega arith)
