-- What a document that is read has: its mark, its events, and the rows that are built from them.
use Rattle.std.proofs.Common.{◌≡◌, ℕ, ◌≤◌, Bool, true, false, cond, List, [], ◌∷◌, length, take, drop, Option, Some, None, refl, sym, ap, subst, ◌∙◌}
use Rattle.std.specs.Prelude.{option_map}
use Rattle.std.specs.Str.{chars, bytes_eq}
use Rattle.std.proofs.lemmas.Slice.Eq.{bytes_eq-Decides}
use Rattle.sig_base.proofs.OptionLemmas.{some_is}
use Rattle.xml_doc.specs.Rows.{RowOf}
use Rattle.xml_doc.specs.Shape.{IsWellShaped}
use Rattle.xml_syntax.specs.Characters.{characters}
use Rattle.xml_syntax.specs.Tree.{Content, events}
use Rattle.xml_syntax.specs.Grammar.{SpellsDocument}
use Rattle.xml_syntax.specs.Outcome.{syntax_outcome}
use Rattle.xml_syntax.proofs.Refusals.{read_law}
use Rattle.xml_resolve.specs.Documents.{is_document}
use Rattle.xml_resolve.specs.Resolve.{Resolved, resolve}
use Rattle.xml_resolve.specs.Rows.{root_row, rows_of}
use Rattle.xml_resolve.specs.Depth.{depth}
use Rattle.xml_resolve.specs.Table.{no_stack, closed, built}
use Rattle.xml_resolve.proofs.BuiltLaws.{all_built}
use Rattle.xml_resolve.proofs.SpelledLaws.{spelled_is}
use Rattle.xml_resolve.proofs.ShapedLaws.{rows_shaped}
use Rattle.xml_read.specs.ReadOutcome.{depth_limit}
use Rattle.xml_read.specs.SpelledTree.{byte_order_mark, mark_length, characters_of}
use Rattle.xml_read.specs.Spelled.{Spells}
use Rattle.xml_read.proofs.SpelledLaws.{no_other_named}
use Rattle.xml_spans.specs.Spans.{IsRead}

-- the tree that was read, its rows, and what they are built from
pub record ReadRows (octets : List ℕ) (rows : List RowOf) : Type 0 where
  pub tree : Content
  pub resolved : Resolved
  pub all : List RowOf
  pub mark : length (take (mark_length octets) octets) ≡ mark_length octets
  pub read : IsRead (take (mark_length octets) octets) (drop (mark_length octets) octets) (events tree)
  pub spelled : SpellsDocument (characters (mark_length octets) (chars (drop (mark_length octets) octets))) tree
  pub whole : is_document tree ≡ true
  pub resolves : resolve [] tree ≡ Some resolved
  pub rows_are : rows ≡ rows_of resolved
  pub shallow : depth tree ≤ depth_limit
  pub is_built : built no_stack (root_row 0 ∷ []) (events tree) ≡ Some all
  pub closed_are : rows ≡ closed all 0 0
  pub shape : IsWellShaped rows

mapped : {A B : Type 0} (f : A → B) (o : Option A) (y : B) → option_map f o ≡ Some y → (x : A) × (o ≡ Some x) × (f x ≡ y)
mapped f None y e = absurd cc
mapped f (Some x) y e = (x, refl, some_is (f x) y e)

mark_whole : (octets : List ℕ) → length (take (mark_length octets) octets) ≡ mark_length octets
mark_whole octets = by (bytes_eq byte_order_mark (take 3 octets)) refl
  where
    by : (b : Bool) → bytes_eq byte_order_mark (take 3 octets) ≡ b → length (take (cond b 3 0) octets) ≡ cond b 3 0
    by true e = ap length (sym ((bytes_eq-Decides byte_order_mark (take 3 octets)).0 e))
    by false e = refl

pub read_rows : (octets : List ℕ) (rows : List RowOf) → Spells octets rows → ReadRows octets rows
read_rows octets rows s =
    let text = drop (mark_length octets) octets in
    let spelled = s.spells.spelled in
    let encoding = s.spells.encoding in
    let whole = spelled_is (characters_of octets) s.tree spelled in
    let made = mapped (λ (all : List RowOf). closed all 0 0) (built no_stack (root_row 0 ∷ []) (events s.tree)) (rows_of s.resolved) (all_built s.tree s.resolved s.resolves) in
    let mark = mark_whole octets in
    record {
      tree = s.tree;
      resolved = s.resolved;
      all = made.0;
      mark = mark;
      read = (encoding.utf8, ap (λ (n : ℕ). syntax_outcome (characters n (chars text))) mark ∙ read_law (characters_of octets) s.tree spelled (no_other_named (characters_of octets) encoding.no_other));
      spelled = spelled;
      whole = whole;
      resolves = s.resolves;
      rows_are = s.rows_are;
      shallow = s.shallow;
      is_built = made.1;
      closed_are = s.rows_are ∙ sym made.2;
      shape = subst IsWellShaped (sym s.rows_are) (rows_shaped s.tree s.resolved whole s.resolves);
    }
