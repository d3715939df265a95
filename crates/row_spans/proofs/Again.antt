-- What reading answers of a document with another text in place of an element's.
use Rattle.std.proofs.Common.{◌≡◌, ℕ, ◌+◌, ◌-◌, ◌<◌, ◌≤◌, Bool, true, false, ◌&&◌, max, cond, List, [], ◌∷◌, ◌++◌, length, take, drop, Option, Some, None, Ok, refl, sym, ap, subst, ◌∙◌, arith, take-append-drop}
use Rattle.std.specs.Prelude.{is_some, option_map}
use Rattle.std.specs.Str.{chars, is_utf8, bytes_eq}
use Rattle.std.proofs.lemmas.Slice.Eq.{bytes_eq-Decides}
use Rattle.std.proofs.lemmas.Str.{chars-append, IsUtf8-from_is_utf8}
use Rattle.std.proofs.Math.Seq.{drop-append_seam}
use Rattle.sig_base.proofs.OptionLemmas.{some_is}
use Rattle.xml_names.specs.Names.{is_ncname}
use Rattle.xml_names.specs.Scopes.{Entry, is_entered, left}
use Rattle.xml_doc.specs.Rows.{RowOf}
use Rattle.xml_syntax.specs.Characters.{Placed, mark, characters}
use Rattle.xml_syntax.specs.Tree.{Tag, Content, Event, Text, Comment, Instruction, Start, End, events}
use Rattle.xml_syntax.specs.Reading.{declared_of, misc_of, prolog_of, tag_of, element_of, behind_prolog, document_of}
use Rattle.xml_syntax.specs.Outcome.{syntax_outcome}
use Rattle.xml_syntax.specs.Seen.{text_events}
use Rattle.xml_resolve.specs.Resolve.{Resolved, resolve}
use Rattle.xml_resolve.specs.Rows.{root_row, rows_of}
use Rattle.xml_resolve.specs.Depth.{depth, deepest_from}
use Rattle.xml_resolve.specs.Steps.{resolves, resolves_in}
use Rattle.xml_resolve.specs.Steps as scope
use Rattle.xml_resolve.specs.Table.{no_stack, closed, built}
use Rattle.xml_resolve.proofs.ResolveLaws.{check_is}
use Rattle.xml_resolve.proofs.DepthLaws.{depth_is}
use Rattle.xml_resolve.proofs.BuiltLaws.{all_built}
use Rattle.xml_read.specs.ReadOutcome.{depth_limit}
use Rattle.xml_read.specs.SpelledTree.{byte_order_mark, mark_length}
use Rattle.xml_read.proofs.Outcomes.{tells}
use Rattle.xml_read.proofs.SpelledLaws.{none_named}
use Rattle.xml_spans.specs.Moved.{moved_events}
use Rattle.xml_spans.specs.Spans.{opened, with_text_alone, filled_shift, filled_events, are_bare}
use Rattle.row_spans.specs.TextAlone.{HasTextAlone}
use Rattle.row_spans.specs.RowSpans.{refilled}
use Rattle.row_spans.specs.Alike.{IsRefilled, IsMoved, refill_shift, renumbered}
use Rattle.xml_read.specs.Spelled.{Spells}
use Rattle.xml_read.specs.SpelledTree.{characters_of}
use Rattle.xml_syntax.specs.Grammar.{SpellsDocument}
use Rattle.xml_syntax.specs.Outcome.{names_other_encoding}
use Rattle.xml_syntax.proofs.Documents.{document_sound}
use Rattle.xml_doc.specs.Shape.{row_at}
use Rattle.row_spans.proofs.Read.{ReadRows, read_rows}
use Rattle.row_spans.proofs.Places.{Placed as PlacedRow, place_of_row, content_same, fills_at, root_or_more}
use Rattle.row_spans.proofs.Filled.{below, old, new, NewRows, new_rows}
use Rattle.row_spans.proofs.Behind.{alone_again, alone_later, moves_with}

-- ---- names

scope_same : (sc : List Entry) (tag : Tag) (from body_from : ℕ) (empty : Bool) → scope.opened sc (record { name = tag.name; attributes = tag.attributes; from = from; body_from = body_from; is_empty = empty }) ≡ scope.opened sc tag
unfolding scope.opened
scope_same sc tag from body_from empty = refl

in_cong : (o : Option (List Entry)) (F G : List Entry → Bool) → ((x : List Entry) → F x ≡ G x) → resolves_in o F ≡ resolves_in o G
in_cong None F G h = refl
in_cong (Some x) F G h = h x

resolves_moved : (g : ℕ → ℕ) (es : List Event) (sc : List Entry) → resolves sc (moved_events g es) ≡ resolves sc es
unfolding resolves
resolves_moved g [] sc = refl
resolves_moved g (Text w ∷ es) sc = resolves_moved g es sc
resolves_moved g (Comment w ∷ es) sc = resolves_moved g es sc
resolves_moved g (Instruction target w ∷ es) sc = ap (λ (b : Bool). is_ncname target && b) (resolves_moved g es sc)
resolves_moved g (Start tag ∷ es) sc =
    ap (λ (o : Option (List Entry)). resolves_in o (λ now. resolves now (moved_events g es))) (scope_same sc tag (g tag.from) (g tag.body_from) tag.is_empty)
    ∙ in_cong (scope.opened sc tag) (λ now. resolves now (moved_events g es)) (λ now. resolves now es) (resolves_moved g es)
resolves_moved g (End until ∷ es) sc = ap (λ (b : Bool). is_entered sc && b) (resolves_moved g es (left sc))

resolves_text : (w : List ℕ) (es : List Event) (sc : List Entry) → resolves sc (text_events w ++ es) ≡ resolves sc es
unfolding resolves
resolves_text [] es sc = refl
resolves_text (c ∷ w) es sc = refl

resolves_filled : (before after : List Event) (tag : Tag) (until : ℕ) (w0 w : List ℕ) (sc : List Entry) → resolves sc (before ++ filled_events tag until w after) ≡ resolves sc (before ++ with_text_alone tag w0 until after)
unfolding resolves
resolves_filled [] after tag until w0 w sc =
    let g = filled_shift tag until w in
    let until' = (opened tag).body_from + length w in
    ap (λ (o : Option (List Entry)). resolves_in o (λ now. resolves now (text_events w ++ (End until' ∷ moved_events g after)))) (scope_same sc tag tag.from (opened tag).body_from false)
    ∙ in_cong (scope.opened sc tag) (λ now. resolves now (text_events w ++ (End until' ∷ moved_events g after))) (λ now. resolves now (text_events w0 ++ (End until ∷ after)))
    (λ now. resolves_text w (End until' ∷ moved_events g after) now ∙ ap (λ (b : Bool). is_entered now && b) (resolves_moved g after (left now)) ∙ sym (resolves_text w0 (End until ∷ after) now))
resolves_filled (Text v ∷ before) after tag until w0 w sc = resolves_filled before after tag until w0 w sc
resolves_filled (Comment v ∷ before) after tag until w0 w sc = resolves_filled before after tag until w0 w sc
resolves_filled (Instruction target v ∷ before) after tag until w0 w sc = ap (λ (b : Bool). is_ncname target && b) (resolves_filled before after tag until w0 w sc)
resolves_filled (Start other ∷ before) after tag until w0 w sc =
    in_cong (scope.opened sc other) (λ now. resolves now (before ++ filled_events tag until w after)) (λ now. resolves now (before ++ with_text_alone tag w0 until after)) (λ now. resolves_filled before after tag until w0 w now)
resolves_filled (End u ∷ before) after tag until w0 w sc = ap (λ (b : Bool). is_entered sc && b) (resolves_filled before after tag until w0 w (left sc))

-- ---- depth

depth_moved : (g : ℕ → ℕ) (es : List Event) (level best : ℕ) → deepest_from level best (moved_events g es) ≡ deepest_from level best es
depth_moved g [] level best = refl
depth_moved g (Text w ∷ es) level best = depth_moved g es level best
depth_moved g (Comment w ∷ es) level best = depth_moved g es level best
depth_moved g (Instruction target w ∷ es) level best = depth_moved g es level best
depth_moved g (Start tag ∷ es) level best = depth_moved g es (level + 1) (max best (level + 1))
depth_moved g (End until ∷ es) level best = depth_moved g es (level - 1) best

depth_text : (w : List ℕ) (es : List Event) (level best : ℕ) → deepest_from level best (text_events w ++ es) ≡ deepest_from level best es
depth_text [] es level best = refl
depth_text (c ∷ w) es level best = refl

depth_filled : (before after : List Event) (tag : Tag) (until : ℕ) (w0 w : List ℕ) (level best : ℕ) → deepest_from level best (before ++ filled_events tag until w after) ≡ deepest_from level best (before ++ with_text_alone tag w0 until after)
depth_filled [] after tag until w0 w level best =
    let g = filled_shift tag until w in
    depth_text w (End ((opened tag).body_from + length w) ∷ moved_events g after) (level + 1) (max best (level + 1)) ∙ depth_moved g after (level + 1 - 1) (max best (level + 1)) ∙ sym (depth_text w0 (End until ∷ after) (level + 1) (max best (level + 1)))
depth_filled (Text v ∷ before) after tag until w0 w level best = depth_filled before after tag until w0 w level best
depth_filled (Comment v ∷ before) after tag until w0 w level best = depth_filled before after tag until w0 w level best
depth_filled (Instruction target v ∷ before) after tag until w0 w level best = depth_filled before after tag until w0 w level best
depth_filled (Start other ∷ before) after tag until w0 w level best = depth_filled before after tag until w0 w (level + 1) (max best (level + 1))
depth_filled (End u ∷ before) after tag until w0 w level best = depth_filled before after tag until w0 w (level - 1) best

-- ---- the mark

no_mark : (at : ℕ) (ys : List Placed) (t : Content) → document_of (mark 65279 at ∷ ys) ≡ Some t → ⊥
unfolding document_of prolog_of declared_of misc_of behind_prolog element_of tag_of
no_mark at ys t e = cc

mark_chars : chars byte_order_mark ≡ 65279 ∷ []
unfolding chars
mark_chars = refl

mark_utf8 : is_utf8 byte_order_mark ≡ true
unfolding is_utf8 chars lib.Utf8.encode
mark_utf8 = refl

begins_so : (octets : List ℕ) → bytes_eq byte_order_mark (take 3 octets) ≡ true → octets ≡ byte_order_mark ++ drop 3 octets
begins_so octets e = sym (take-append-drop 3 octets) ∙ ap (λ (u : List ℕ). u ++ drop 3 octets) (sym ((bytes_eq-Decides byte_order_mark (take 3 octets)).0 e))

unmarked : (new : List ℕ) (t : Content) → document_of (characters 0 (chars new)) ≡ Some t → bytes_eq byte_order_mark (take 3 new) ≡ false
unmarked new t e = by (bytes_eq byte_order_mark (take 3 new)) refl
  where
    by : (b : Bool) → bytes_eq byte_order_mark (take 3 new) ≡ b → b ≡ false
    by false is = refl
    by true is =
        let chars_are : chars new ≡ 65279 ∷ chars (drop 3 new) = ap chars (begins_so new is) ∙ chars-append byte_order_mark (drop 3 new) (IsUtf8-from_is_utf8 byte_order_mark mark_utf8) ∙ ap (λ (u : List ℕ). u ++ chars (drop 3 new)) mark_chars in
        absurd (no_mark 0 (characters 3 (chars (drop 3 new))) t (ap (λ (u : List ℕ). document_of (characters 0 u)) (sym chars_are) ∙ e))

mark_again : (octets new : List ℕ) (t : Content) → document_of (characters (mark_length octets) (chars new)) ≡ Some t → mark_length (take (mark_length octets) octets ++ new) ≡ mark_length octets
mark_again octets new t e = by (bytes_eq byte_order_mark (take 3 octets)) refl e
  where
    by : (b : Bool) → bytes_eq byte_order_mark (take 3 octets) ≡ b → document_of (characters (cond b 3 0) (chars new)) ≡ Some t → mark_length (take (cond b 3 0) octets ++ new) ≡ cond b 3 0
    by true is read =
        let first = (bytes_eq-Decides byte_order_mark (take 3 octets)).0 is in
        ap (λ (u : List ℕ). mark_length (u ++ new)) (sym first) ∙ ap (λ (b : Bool). cond b 3 0) ((bytes_eq-Decides byte_order_mark byte_order_mark).1 refl)
    by false is read = ap (λ (b : Bool). cond b 3 0) (unmarked new t read)

-- ---- what is read

some_resolved : (o : Option Resolved) → is_some o ≡ true → (r : Resolved) × (o ≡ Some r)
some_resolved None e = absurd cc
some_resolved (Some r) e = (r, refl)

module _ (octets : List ℕ) (rows : List RowOf) (i : ℕ) (some : 0 < i) (r : ReadRows octets rows) (p : PlacedRow octets rows i r) (w : List ℕ) (bare : are_bare w ≡ true) where
  abbrev made : List ℕ
  made = refilled octets (row_at rows i) w

  -- what is behind the tag's content is behind that of the row
  shift_same : (at : ℕ) → filled_shift p.made.tag p.until w at ≡ refill_shift (row_at rows i) w at
  shift_same at =
      let ends = ap (λ (t : RowOf). t.body_until) p.row_is in
      let begins = ap (λ (t : RowOf). t.body_from) p.row_is in
      let long = ap length (content_same octets rows i r p w) in
      omega (arith, ends, begins, long)

  moved_same : (k j : ℕ) (others : List RowOf) → IsMoved (filled_shift p.made.tag p.until w) (row_at rows k) (row_at others j) → IsMoved (refill_shift (row_at rows i) w) (row_at rows k) (row_at others j)
  moved_same k j others m = record {
    tag_from = m.tag_from ∙ shift_same (row_at rows k).tag_from;
    body_from = m.body_from ∙ shift_same (row_at rows k).body_from;
    body_until = m.body_until ∙ shift_same (row_at rows k).body_until;
    empty_tag = m.empty_tag;
  }

  -- elements that have text alone have it still
  still_alone : (n : NewRows octets rows i some r p w) → HasTextAlone (closed n.made 0 0) i
  still_alone n =
      alone_again rows (closed n.made 0 0) (below octets rows i some r p w) (old octets rows i some r p w) (new octets rows i some r p w) n.alike n.starts (omega (arith, n.grows)) i w (ap (λ (t : RowOf). t.kind) p.row_is) n.inside n.grows
      n.stands (ap (λ (t : RowOf). t.last) n.row) n.own

  later_alone : (n : NewRows octets rows i some r p w) (k : ℕ) → old octets rows i some r p w ≤ k → HasTextAlone rows k → HasTextAlone (closed n.made 0 0) (renumbered (old octets rows i some r p w) (new octets rows i some r p w) k)
  later_alone n = alone_later rows (closed n.made 0 0) (below octets rows i some r p w) (old octets rows i some r p w) (new octets rows i some r p w) n.alike n.starts (omega (arith, n.grows)) r.shape (omega (arith, n.inside))

  pub reads_again : Spells octets rows → IsRefilled octets rows i w
  reads_again spelled =
      let at = mark_length octets in
      let f = fills_at octets rows i r p w bare in
      let told = p.made.before ++ filled_events p.made.tag p.until w p.after in
      let first = take at octets in
      let text = f.0 in
      let xs = characters at (chars text) in
      let read : syntax_outcome xs ≡ Ok told = ap (λ (n : ℕ). syntax_outcome (characters n (chars text))) (sym r.mark) ∙ f.2.1 in
      let t = tells xs told read in
      let same : mark_length made ≡ at = ap mark_length f.1 ∙ mark_again octets text t.tree t.read in
      let behind : drop at made ≡ text = ap (drop at) f.1 ∙ ap (λ (n : ℕ). drop n (first ++ text)) (sym r.mark) ∙ drop-append_seam first text in
      let text_is : drop (mark_length made) made ≡ text = ap (λ (n : ℕ). drop n made) same ∙ behind in
      let xs_are : characters_of made ≡ xs = ap (λ (n : ℕ). characters n (chars (drop n made))) same ∙ ap (λ (u : List ℕ). characters at (chars u)) behind in
      let names : resolves [] (events t.tree) ≡ resolves [] (events r.tree) =
      ap (resolves []) (sym t.are) ∙ resolves_filled p.made.before p.after p.made.tag p.until p.words w [] ∙ ap (resolves []) (sym p.told) in
      let resolved = some_resolved (resolve [] t.tree) (sym (check_is t.tree) ∙ names ∙ check_is r.tree ∙ ap is_some r.resolves) in
      let deep : depth t.tree ≡ depth r.tree =
      sym (depth_is t.tree) ∙ ap (deepest_from 0 0) (sym t.are) ∙ depth_filled p.made.before p.after p.made.tag p.until p.words w 0 0 ∙ ap (deepest_from 0 0) (sym p.told) ∙ depth_is r.tree in
      let n = new_rows octets rows i some r p w in
      let others = closed n.made 0 0 in
      let rows_are : rows_of resolved.0 ≡ others =
      sym (some_is others (rows_of resolved.0) (ap (option_map (λ (all : List RowOf). closed all 0 0)) (sym (ap (built no_stack (root_row 0 ∷ [])) (sym t.are) ∙ n.are)) ∙ all_built t.tree resolved.0 resolved.1)) in
      let spells : Spells made others = record {
        tree = t.tree;
        resolved = resolved.0;
        spells = record {
          encoding = record { utf8 = ap is_utf8 text_is ∙ f.2.0; no_other = none_named (characters_of made) (ap names_other_encoding xs_are ∙ t.encoding) };
          spelled = subst (λ (u : List Placed). SpellsDocument u t.tree) (sym xs_are) (document_sound xs t.tree t.read);
        };
        resolves = resolved.1;
        shallow = subst (λ (n : ℕ). n ≤ depth_limit) (sym deep) r.shallow;
        rows_are = sym rows_are;
      } in
      record {
        others = others;
        below = below octets rows i some r p w;
        old = old octets rows i some r p w;
        new = new octets rows i some r p w;
        spells = spells;
        alike = n.alike;
        inside = n.inside;
        ends = n.ends;
        starts = n.starts;
        grows = n.grows;
        stands = n.stands;
        row = n.row;
        same = n.same;
        stood = n.stood;
        own = n.own;
        alone = still_alone n;
        alone_behind = later_alone n;
        moved = λ k from here.
            let there = later_alone n k from here in
            moved_same k (renumbered (old octets rows i some r p w) (new octets rows i some r p w) k) others
            (moves_with (filled_shift p.made.tag p.until w) octets made rows others k (renumbered (old octets rows i some r p w) (new octets rows i some r p w) k) spelled spells here there (n.carried k from here.within));
      }

pub again : (octets : List ℕ) (rows : List RowOf) (i : ℕ) (w : List ℕ) → Spells octets rows → HasTextAlone rows i → are_bare w ≡ true → IsRefilled octets rows i w
again octets rows i w e alone bare =
    let r = read_rows octets rows e in
    reads_again octets rows i (root_or_more i rows r.shape alone) r (place_of_row octets rows i r alone) w bare e
