-- Reading a document in the words of the grammar.
use Rattle.std.proofs.Common.{◌≡◌, ℕ, ◌<◌, ◌≤◌, Bool, true, false, not, cond, ◌||◌, nat_lt, List, [], length, Option, Some, None, Result, Ok, Err, refl, sym, ap, subst, ◌∙◌}
use Rattle.std.specs.Str.{is_utf8}
use Rattle.std.proofs.lemmas.Bool.{lt-ltb, le-ltb, ltb-true, ltb-false}
use Rattle.xml_doc.specs.Rows.{RowOf}
use Rattle.xml_syntax.specs.Characters.{Placed}
use Rattle.xml_syntax.specs.Tree.{Content}
use Rattle.xml_syntax.specs.Reading.{document_of}
use Rattle.xml_syntax.specs.Outcome.{names_other_encoding, has_doc_type, HasDocType, NamesOtherEncoding, SpellsNothing}
use Rattle.xml_syntax.proofs.Documents.{document_sound, document_complete, none_spelled}
use Rattle.xml_syntax.proofs.Refusals.{names_sound, names_complete, doc_type_sound, doc_type_complete, spelled_no_doc_type}
use Rattle.xml_resolve.specs.Limits.{row_limit}
use Rattle.xml_resolve.specs.Resolve.{Resolved, resolve}
use Rattle.xml_resolve.specs.Rows.{rows_of}
use Rattle.xml_resolve.specs.Depth.{depth}
use Rattle.xml_read.specs.ReadOutcome.{document_limit, depth_limit, resolved_outcome, tree_outcome, read_outcome}
use Rattle.xml_read.specs.SpelledTree.{behind_mark, characters_of, has_other_encoding, tree_of}
use Rattle.xml_read.specs.Spelled.{AreUtf8, SpellsTree, Spells, limited, IsRefusedFor, IsOutcome}
use Rattle.xml_read.specs.declared.read.ReadRefusal.{ReadRefusal}
use Rattle.xml_read.specs.declared.read.ReadRefusal.TheVariants.{TooLarge, Encoding, DocType, NotWellFormed, Namespaces, TooDeep, TooManyRows, Memory}

-- ---- the encoding

pub no_other_named : (xs : List Placed) → (NamesOtherEncoding xs → ⊥) → names_other_encoding xs ≡ false
no_other_named xs h = at (names_other_encoding xs) refl
  where
    at : (b : Bool) → names_other_encoding xs ≡ b → b ≡ false
    at true e = absurd (h (names_sound xs e))
    at false e = refl

pub none_named : (xs : List Placed) → names_other_encoding xs ≡ false → NamesOtherEncoding xs → ⊥
none_named xs e h = absurd (let both : true ≡ false = sym (names_complete xs h) ∙ e in cc)

other_by : (u n : Bool) → (not u || n) ≡ false → (u ≡ true) × (n ≡ false)
other_by true true e = cc
other_by true false e = (refl, refl)
other_by false n e = cc

other_from : (u n : Bool) → u ≡ true → n ≡ false → (not u || n) ≡ false
other_from u n e f = rw (e, f) refl

pub utf8_sound : (octets : List ℕ) → has_other_encoding octets ≡ false → AreUtf8 octets
utf8_sound octets e =
    let parts = other_by (is_utf8 (behind_mark octets)) (names_other_encoding (characters_of octets)) e in
    record { utf8 = parts.0; no_other = none_named (characters_of octets) parts.1 }

pub utf8_complete : (octets : List ℕ) → AreUtf8 octets → has_other_encoding octets ≡ false
utf8_complete octets h = other_from (is_utf8 (behind_mark octets)) (names_other_encoding (characters_of octets)) h.utf8 (no_other_named (characters_of octets) h.no_other)

not_utf8 : (octets : List ℕ) → has_other_encoding octets ≡ true → AreUtf8 octets → ⊥
not_utf8 octets e h = let both : true ≡ false = sym e ∙ utf8_complete octets h in absurd cc

other_of : (octets : List ℕ) → (AreUtf8 octets → ⊥) → has_other_encoding octets ≡ true
other_of octets h = at (has_other_encoding octets) refl
  where
    at : (b : Bool) → has_other_encoding octets ≡ b → b ≡ true
    at true e = refl
    at false e = absurd (h (utf8_sound octets e))

-- ---- the tree

found_by : (b : Bool) (o : Option Content) (t : Content) → cond b None o ≡ Some t → (b ≡ false) × (o ≡ Some t)
found_by true o t e = cc
found_by false o t e = (refl, e)

pub tree_sound : (octets : List ℕ) (t : Content) → tree_of octets ≡ Some t → SpellsTree octets t
tree_sound octets t e =
    let parts = found_by (has_other_encoding octets) (document_of (characters_of octets)) t e in
    record { encoding = utf8_sound octets parts.0; spelled = document_sound (characters_of octets) t parts.1 }

pub tree_complete : (octets : List ℕ) (t : Content) → SpellsTree octets t → tree_of octets ≡ Some t
tree_complete octets t s =
    ap (λ (b : Bool). cond b None (document_of (characters_of octets))) (utf8_complete octets s.encoding)
    ∙ document_complete (characters_of octets) t s.spelled

-- ---- an outcome, by its words

small_outcome : (octets : List ℕ) → length octets ≤ document_limit
    → read_outcome octets ≡ cond (has_other_encoding octets) (Err Encoding) (cond (has_doc_type (characters_of octets)) (Err DocType) (tree_outcome (tree_of octets)))
unfolding read_outcome
small_outcome octets small =
    ap (λ (b : Bool). cond b (Err TooLarge) (cond (has_other_encoding octets) (Err Encoding) (cond (has_doc_type (characters_of octets)) (Err DocType) (tree_outcome (tree_of octets)))))
    (le-ltb document_limit (length octets) small)

coded_outcome : (octets : List ℕ) → length octets ≤ document_limit → AreUtf8 octets
    → read_outcome octets ≡ cond (has_doc_type (characters_of octets)) (Err DocType) (tree_outcome (tree_of octets))
coded_outcome octets small coded =
    small_outcome octets small
    ∙ ap (λ (b : Bool). cond b (Err Encoding) (cond (has_doc_type (characters_of octets)) (Err DocType) (tree_outcome (tree_of octets)))) (utf8_complete octets coded)

pub spelled_outcome : (octets : List ℕ) (t : Content) → length octets ≤ document_limit → SpellsTree octets t → read_outcome octets ≡ resolved_outcome t (resolve [] t)
spelled_outcome octets t small s =
    coded_outcome octets small s.encoding
    ∙ ap (λ (b : Bool). cond b (Err DocType) (tree_outcome (tree_of octets))) (spelled_no_doc_type (characters_of octets) t s.spelled)
    ∙ ap tree_outcome (tree_complete octets t s)

rows_outcome : (octets : List ℕ) (rows : List RowOf) → length octets ≤ document_limit → Spells octets rows
    → read_outcome octets ≡ cond (nat_lt row_limit (length rows)) (Err TooManyRows) (Ok rows)
rows_outcome octets rows small s =
    spelled_outcome octets s.tree small s.spells
    ∙ ap (resolved_outcome s.tree) s.resolves
    ∙ ap (λ (b : Bool). cond b (Err TooDeep) (cond (nat_lt row_limit (length (rows_of s.resolved))) (Err TooManyRows) (Ok (rows_of s.resolved)))) (le-ltb depth_limit (depth s.tree) s.shallow)
    ∙ ap (λ (rs : List RowOf). cond (nat_lt row_limit (length rs)) (Err TooManyRows) (Ok rs)) (sym s.rows_are)

no_doc_type : (xs : List Placed) → (HasDocType xs → ⊥) → has_doc_type xs ≡ false
no_doc_type xs h = at (has_doc_type xs) refl
  where
    at : (b : Bool) → has_doc_type xs ≡ b → b ≡ false
    at true e = absurd (h (doc_type_sound xs e))
    at false e = refl

nothing_spelled : (xs : List Placed) → SpellsNothing xs → document_of xs ≡ None
nothing_spelled xs h = at (document_of xs) refl
  where
    at : (o : Option Content) → document_of xs ≡ o → o ≡ None
    at None e = refl
    at (Some t) e = absurd (h t (document_sound xs t e))

large_outcome : (octets : List ℕ) → document_limit < length octets → read_outcome octets ≡ Err TooLarge
unfolding read_outcome
large_outcome octets large = rw (lt-ltb document_limit (length octets) large) refl

pub refused : (octets : List ℕ) (refusal : ReadRefusal) → IsRefusedFor refusal octets → read_outcome octets ≡ Err refusal
refused octets TooLarge h = large_outcome octets h
refused octets Encoding h =
    small_outcome octets h.0 ∙ ap (λ (b : Bool). cond b (Err Encoding) (cond (has_doc_type (characters_of octets)) (Err DocType) (tree_outcome (tree_of octets)))) (other_of octets h.1)
refused octets DocType h =
    coded_outcome octets h.0 h.1 ∙ ap (λ (b : Bool). cond b (Err DocType) (tree_outcome (tree_of octets))) (doc_type_complete (characters_of octets) h.2)
refused octets NotWellFormed h =
    coded_outcome octets h.0 h.1
    ∙ ap (λ (b : Bool). cond b (Err DocType) (tree_outcome (tree_of octets))) (no_doc_type (characters_of octets) h.2)
    ∙ ap (λ (b : Bool). tree_outcome (cond b None (document_of (characters_of octets)))) (utf8_complete octets h.1)
    ∙ ap tree_outcome (nothing_spelled (characters_of octets) h.3)
refused octets Namespaces h = spelled_outcome octets h.1 h.0 h.2 ∙ ap (resolved_outcome h.1) h.3
refused octets TooDeep h =
    spelled_outcome octets h.1 h.0 h.3 ∙ ap (resolved_outcome h.1) h.4
    ∙ ap (λ (b : Bool). cond b (Err TooDeep) (cond (nat_lt row_limit (length (rows_of h.2))) (Err TooManyRows) (Ok (rows_of h.2)))) (lt-ltb depth_limit (depth h.1) h.5)
refused octets TooManyRows h =
    rows_outcome octets h.1 h.0 h.2 ∙ ap (λ (b : Bool). cond b (Err TooManyRows) (Ok h.1)) (lt-ltb row_limit (length h.1) h.3)
refused octets Memory h = absurd h

pub is_outcome : (octets : List ℕ) (outcome : Result (List RowOf) ReadRefusal) → IsOutcome outcome octets → read_outcome octets ≡ outcome
is_outcome octets (Ok rows) h = rows_outcome octets rows h.0 h.1 ∙ ap (λ (b : Bool). cond b (Err TooManyRows) (Ok rows)) (le-ltb row_limit (length rows) h.2)
is_outcome octets (Err refusal) h = refused octets refusal h

-- ---- each outcome has its words

module _ (octets : List ℕ) (small : length octets ≤ document_limit) where
  told_rows : (t : Content) (r : Resolved) (deep many : Bool) → SpellsTree octets t → resolve [] t ≡ Some r → nat_lt depth_limit (depth t) ≡ deep → nat_lt row_limit (length (rows_of r)) ≡ many
      → IsOutcome (cond deep (Err TooDeep) (cond many (Err TooManyRows) (Ok (rows_of r)))) octets
  told_rows t r true many s is e f = (small, t, r, s, is, ltb-true depth_limit (depth t) e)
  told_rows t r false true s is e f =
      (small, rows_of r, record { tree = t; resolved = r; spells = s; resolves = is; shallow = ltb-false depth_limit (depth t) e; rows_are = refl }, ltb-true row_limit (length (rows_of r)) f)
  told_rows t r false false s is e f =
      (small, record { tree = t; resolved = r; spells = s; resolves = is; shallow = ltb-false depth_limit (depth t) e; rows_are = refl }, ltb-false row_limit (length (rows_of r)) f)

  told_resolved : (t : Content) (o : Option Resolved) → SpellsTree octets t → resolve [] t ≡ o → IsOutcome (resolved_outcome t o) octets
  told_resolved t None s is = (small, t, s, is)
  told_resolved t (Some r) s is = told_rows t r (nat_lt depth_limit (depth t)) (nat_lt row_limit (length (rows_of r))) s is refl refl

  told_tree : (o : Option Content) → AreUtf8 octets → has_doc_type (characters_of octets) ≡ false → document_of (characters_of octets) ≡ o → IsOutcome (tree_outcome o) octets
  told_tree None coded no_type is =
      (small, coded, (λ (h : HasDocType (characters_of octets)). let both : true ≡ false = sym (doc_type_complete (characters_of octets) h) ∙ no_type in absurd cc), none_spelled (characters_of octets) is)
  told_tree (Some t) coded no_type is =
      told_resolved t (resolve [] t) (record { encoding = coded; spelled = document_sound (characters_of octets) t is }) refl

  told_coded : (other typed : Bool) → has_other_encoding octets ≡ other → has_doc_type (characters_of octets) ≡ typed
      → IsOutcome (cond other (Err Encoding) (cond typed (Err DocType) (tree_outcome (cond other None (document_of (characters_of octets)))))) octets
  told_coded true typed e f = (small, not_utf8 octets e)
  told_coded false true e f = (small, utf8_sound octets e, doc_type_sound (characters_of octets) f)
  told_coded false false e f = told_tree (document_of (characters_of octets)) (utf8_sound octets e) f refl

told_large : (octets : List ℕ) (large : Bool) → nat_lt document_limit (length octets) ≡ large
    → IsOutcome (cond large (Err TooLarge) (cond (has_other_encoding octets) (Err Encoding) (cond (has_doc_type (characters_of octets)) (Err DocType) (tree_outcome (tree_of octets))))) octets
told_large octets true e = ltb-true document_limit (length octets) e
told_large octets false e =
    told_coded octets (ltb-false document_limit (length octets) e) (has_other_encoding octets) (has_doc_type (characters_of octets)) refl refl

told : (octets : List ℕ) → IsOutcome (read_outcome octets) octets
unfolding read_outcome
told octets = told_large octets (nat_lt document_limit (length octets)) refl

pub outcome_told : (octets : List ℕ) (outcome : Result (List RowOf) ReadRefusal) → read_outcome octets ≡ outcome → IsOutcome outcome octets
outcome_told octets outcome e = subst (λ (o : Result (List RowOf) ReadRefusal). IsOutcome o octets) e (told octets)

-- ---- what is read is spelled, and what is spelled is read within the limits

pub spells_of : (octets : List ℕ) (rows : List RowOf) → read_outcome octets ≡ Ok rows → Spells octets rows
spells_of octets rows e = (outcome_told octets (Ok rows) e).1

pub spells_read : (octets : List ℕ) (rows : List RowOf) → Spells octets rows → read_outcome octets ≡ limited octets rows
spells_read octets rows s = at (nat_lt document_limit (length octets)) refl
  where
    at : (large : Bool) → nat_lt document_limit (length octets) ≡ large → read_outcome octets ≡ cond large (Err TooLarge) (cond (nat_lt row_limit (length rows)) (Err TooManyRows) (Ok rows))
    at true e = large_outcome octets (ltb-true document_limit (length octets) e)
    at false e = rows_outcome octets rows (ltb-false document_limit (length octets) e) s
