-- The place of an element that has text alone, from its row.
use Rattle.std.proofs.Common.{◌≡◌, ℕ, zero, suc, ◌+◌, ◌-◌, ◌<◌, Bool, true, false, cond, inl, inr, List, [], ◌∷◌, ◌++◌, length, take, drop, Option, Some, None, refl, sym, ap, subst, ◌∙◌, append-nil, arith, length-append, take-append-drop}
use Rattle.std.specs.Str.{IsUtf8, chars}
use Rattle.std.proofs.lemmas.Bool.{and_parts}
use Rattle.sig_base.proofs.OptionLemmas.{some_is, bind_some}
use Rattle.sig_base.specs.Options.{◌>>=◌}
use Rattle.xml_names.specs.Names.{qname_of, is_ncname, IsQName}
use Rattle.xml_names.specs.Scopes.{is_empty}
use Rattle.xml_names.proofs.QNames.{split_qnames}
use Rattle.xml_doc.specs.Rows.{RowOf}
use Rattle.xml_doc.specs.Shape.{row_at, IsWellShaped}
use Rattle.xml_doc.specs.declared.row.Kind.TheVariants as kinds
use Rattle.xml_syntax.specs.Tree.{Event, Start, events}
use Rattle.xml_resolve.specs.Documents.{has_one_element, are_texts_joined}
use Rattle.xml_resolve.specs.Resolve.{Name, element_name, or_empty}
use Rattle.xml_resolve.specs.Rows.{root_row, element_row}
use Rattle.xml_resolve.specs.Table.{Stack, no_stack, parent_of, bound_by, closed, built}
use Rattle.xml_read.specs.SpelledTree.{mark_length}
use Rattle.xml_spans.specs.Spans.{IsRead, content_with, with_text_alone, replaced, filled, filled_events, are_bare}
use Rattle.xml_spans.proofs.Outcomes.{lies, fills}
use Rattle.row_spans.specs.TextAlone.{HasTextAlone}
use Rattle.row_spans.specs.RowSpans.{written_name, LiesAt}
use Rattle.row_spans.proofs.Kept.{closed_same, closed_length, left_row, last_row, untouched, below_not_open, AllBelow, TagAdds, tag_adds, tag_rest, scope, stack_in, added_by, fields_at, Made, made_at, popped_in, AreSmall, small_tag, small_more, small_closed}
use Rattle.xml_read.specs.Spelled.{Spells}
use Rattle.row_spans.proofs.Read.{ReadRows, read_rows}
use Rattle.row_spans.proofs.Alone.{content_at, same_row, texts_of}

-- an element that has text alone, in the events that tell its document
pub record Placed (octets : List ℕ) (rows : List RowOf) (i : ℕ) (r : ReadRows octets rows) : Type 0 where
  pub made : Made no_stack (root_row 0 ∷ []) (events r.tree) r.all i
  pub adds : TagAdds made.stack_then made.tag
  pub words : List ℕ
  pub until : ℕ
  pub after : List Event
  pub texts : List RowOf
  pub told : events r.tree ≡ made.before ++ with_text_alone made.tag words until after
  pub words_are : texts ≡ texts_of i (length (made.rows_then ++ added_by made.stack_then i made.tag adds.name adds.values)) words
  pub small : AreSmall (closed ((made.rows_then ++ added_by made.stack_then i made.tag adds.name adds.values) ++ texts) i until)
  pub rest : built made.stack_then (closed ((made.rows_then ++ added_by made.stack_then i made.tag adds.name adds.values) ++ texts) i until) after ≡ Some r.all
  pub row_is : row_at rows i ≡ element_row (parent_of made.stack_then) (length ((made.rows_then ++ added_by made.stack_then i made.tag adds.name adds.values) ++ texts) - 1) adds.name made.tag.from made.tag.body_from until made.tag.is_empty

pub root_or_more : (i : ℕ) (rows : List RowOf) → IsWellShaped rows → HasTextAlone rows i → 0 < i
root_or_more zero rows shape alone = (let clash : kinds.Element ≡ kinds.Root = sym alone.element ∙ shape.root_kind in absurd cc)
root_or_more (suc i) rows shape alone = omega arith

small_texts : (front : List RowOf) (i : ℕ) (w : List ℕ) → i < length front → AreSmall front → AreSmall (front ++ texts_of i (length front) w)
small_texts front i [] lt small = subst AreSmall (sym (append-nil front)) small
small_texts front i (c ∷ w) lt small =
    let long = length-append front (texts_of i (length front) (c ∷ w)) in
    small_more front (texts_of i (length front) (c ∷ w)) small (omega (arith, lt, long), omega (arith, long), tt)

root_small : AreSmall (root_row 0 ∷ [])
root_small zero lt = (omega arith, omega arith)
root_small (suc k) lt = absurd (omega (arith, lt))

pub place_of_row : (octets : List ℕ) (rows : List RowOf) (i : ℕ) (r : ReadRows octets rows) → HasTextAlone rows i → Placed octets rows i r
place_of_row octets rows i r alone =
    let some = root_or_more i rows r.shape alone in
    let one = (and_parts (has_one_element r.tree) (are_texts_joined r.tree) r.whole).0 in
    let long : length rows ≡ length r.all = ap length r.closed_are ∙ closed_length r.all 0 0 in
    let same = same_row r.tree one r.all rows r.closed_are r.shape i some alone in
    let made = made_at (events r.tree) no_stack (root_row 0 ∷ []) r.all i r.is_built (omega arith) root_small tt (omega (arith, some)) (omega (arith, long, alone.within)) (ap (λ (t : RowOf). t.kind) (sym same) ∙ alone.element) in
    let adds = tag_adds made.stack_then made.rows_then made.tag made.behind r.all made.rest in
    let P : ℕ → Type 0 = λ n. built (stack_in made.stack_then n made.tag) (made.rows_then ++ added_by made.stack_then n made.tag adds.name adds.values) made.behind ≡ Some r.all in
    let rest = subst P made.number (tag_rest made.stack_then made.rows_then made.tag made.behind r.all adds made.rest) in
    let front = made.rows_then ++ added_by made.stack_then i made.tag adds.name adds.values in
    let front_long = length-append made.rows_then (added_by made.stack_then i made.tag adds.name adds.values) in
    let content = content_at r.tree one r.all rows r.closed_are r.shape i some alone made.behind made.before made.tag (stack_in made.stack_then i made.tag) front made.parts rest refl (omega (arith, front_long)) in
    let all_front = front ++ content.texts in
    let small_front : AreSmall front = subst (λ (n : ℕ). AreSmall (made.rows_then ++ added_by made.stack_then n made.tag adds.name adds.values)) made.number (small_tag made.stack_then made.rows_then made.tag adds.name adds.values (omega (arith, made.number, some)) made.below made.small) in
    let R : Stack → Type 0 = λ k. built k (closed all_front i content.until) content.after ≡ Some r.all in
    let rest' = subst R (popped_in made.stack_then i made.tag) content.rest in
    let all_long = length-append front content.texts in
    let within : i < length all_front = omega (arith, all_long, front_long, made.number) in
    let free = below_not_open i made.stack_then.rows (subst (λ (n : ℕ). AllBelow n made.stack_then.rows) made.number made.below) in
    let end_long = closed_length all_front i content.until in
    let Q : ℕ → Type 0 = λ n. row_at all_front n ≡ element_row (parent_of made.stack_then) i adds.name made.tag.from made.tag.body_from 0 made.tag.is_empty in
    let first : row_at all_front i ≡ element_row (parent_of made.stack_then) i adds.name made.tag.from made.tag.body_from 0 made.tag.is_empty =
    left_row front content.texts i (omega (arith, front_long, made.number)) ∙ ap (λ (n : ℕ). row_at front n) (sym made.number) ∙ last_row made.rows_then (fields_at i (scope made.stack_then made.tag) adds.values) (element_row (parent_of made.stack_then) i adds.name made.tag.from made.tag.body_from 0 made.tag.is_empty) in
    record {
      made = made;
      adds = adds;
      words = content.words;
      until = content.until;
      after = content.after;
      texts = content.texts;
      words_are = content.texts_are;
      small = small_closed all_front i content.until (omega (arith, within)) (subst (λ (t : List RowOf). AreSmall (front ++ t)) (sym content.texts_are) (small_texts front i content.words (omega (arith, front_long, made.number)) small_front));
      told = made.parts ∙ ap (λ (t : List Event). made.before ++ (Start made.tag ∷ t)) content.parts;
      rest = rest';
      row_is = same ∙ untouched content.after made.stack_then (closed all_front i content.until) r.all i rest' some (omega (arith, within, end_long)) free
          ∙ closed_same all_front i content.until within ∙ ap (λ (t : RowOf). record t { last = length all_front - 1; body_until = content.until }) first;
    }

-- ---- octets

mark_first : (octets : List ℕ) → take (mark_length octets) octets ++ drop (mark_length octets) octets ≡ octets
mark_first octets = take-append-drop (mark_length octets) octets

pub read_at : (octets : List ℕ) (rows : List RowOf) (i : ℕ) (r : ReadRows octets rows) (p : Placed octets rows i r) → IsRead (take (mark_length octets) octets) (drop (mark_length octets) octets) (p.made.before ++ with_text_alone p.made.tag p.words p.until p.after)
read_at octets rows i r p = subst (IsRead (take (mark_length octets) octets) (drop (mark_length octets) octets)) p.told r.read

pub lies_at : (octets : List ℕ) (rows : List RowOf) (i : ℕ) → Spells octets rows → HasTextAlone rows i → LiesAt octets (row_at rows i)
lies_at octets rows i e alone =
    let r = read_rows octets rows e in
    let p = place_of_row octets rows i r alone in
    let l = lies (take (mark_length octets) octets) (drop (mark_length octets) octets) p.made.tag p.until p.words p.made.before p.after (read_at octets rows i r p) in
    record {
      front = l.front;
      content = l.content;
      back = l.back;
      parts = sym (mark_first octets) ∙ l.parts;
      begins = ap (λ (t : RowOf). t.body_from) p.row_is ∙ l.begins;
      ends = ap (λ (t : RowOf). t.body_until) p.row_is ∙ l.ends ∙ ap (λ (n : ℕ). n + length l.content) (sym (ap (λ (t : RowOf). t.body_from) p.row_is));
    }

-- the name of the row is that of the tag
named_by : (bound : List ℕ → Option (List ℕ)) (tag_name : List ℕ) (name : Name) → element_name bound tag_name ≡ Some name → qname_of tag_name ≡ Some (name.prefix, name.local)
unfolding element_name
named_by bound tag_name name e =
    let q = bind_some (qname_of tag_name) (λ q. cond (is_empty q.0) (Some (record { prefix = q.0; local = q.1; uri = or_empty (bound q.0) })) (bound q.0 >>= λ uri. Some (record { prefix = q.0; local = q.1; uri = uri }))) name e in
    q.1 ∙ ap (λ (x : List ℕ × List ℕ). Some x) (by q.0.0 q.0.1 (or_empty (bound q.0.0)) (is_empty q.0.0) (bound q.0.0) q.2)
  where
    by : (p l u : List ℕ) (b : Bool) (o : Option (List ℕ)) → cond b (Some (record { prefix = p; local = l; uri = u })) (o >>= λ uri. Some (record { prefix = p; local = l; uri = uri })) ≡ Some name → ◌≡◌ {A = List ℕ × List ℕ} (p, l) (name.prefix, name.local)
    by p l u true o e = let is = some_is (record { prefix = p; local = l; uri = u }) name e in ap (λ (n : Name). (n.prefix, n.local)) is
    by p l u false None e = absurd cc
    by p l u false (Some v) e = let is = some_is (record { prefix = p; local = l; uri = v }) name e in ap (λ (n : Name). (n.prefix, n.local)) is

some_name : (prefix : List ℕ) → is_ncname prefix ≡ true → is_empty prefix ≡ false
unfolding is_ncname chars
some_name [] e = absurd cc
some_name (c ∷ prefix) e = refl

written_is : (text prefix local : List ℕ) → IsQName text prefix local → cond (is_empty prefix) local (prefix ++ 58 ∷ local) ≡ text
written_is text prefix local (inl h) = ap (λ (p : List ℕ). cond (is_empty p) local (p ++ 58 ∷ local)) h.no_prefix ∙ sym h.whole
written_is text prefix local (inr h) = rw (some_name prefix h.prefix_part) (sym h.joined)

name_is : (tag_name : List ℕ) (bound : List ℕ → Option (List ℕ)) (name : Name) → IsUtf8 tag_name → element_name bound tag_name ≡ Some name → cond (is_empty name.prefix) name.local (name.prefix ++ 58 ∷ name.local) ≡ tag_name
name_is tag_name bound name utf8 e = written_is tag_name name.prefix name.local ((split_qnames tag_name utf8 name.prefix name.local).0 (named_by bound tag_name name e))

-- what stands in the span of the row is what stands in that of the tag
pub content_same : (octets : List ℕ) (rows : List RowOf) (i : ℕ) (r : ReadRows octets rows) (p : Placed octets rows i r) (w : List ℕ) → content_with (row_at rows i).empty_tag (written_name (row_at rows i)) w ≡ content_with p.made.tag.is_empty p.made.tag.name w
content_same octets rows i r p w =
    let l = lies (take (mark_length octets) octets) (drop (mark_length octets) octets) p.made.tag p.until p.words p.made.before p.after (read_at octets rows i r p) in
    ap (λ (t : RowOf). content_with t.empty_tag (written_name t) w) p.row_is ∙ by p.made.tag.is_empty l.named
  where
    by : (b : Bool) → (b ≡ true → IsUtf8 p.made.tag.name) → content_with b (cond (is_empty p.adds.name.prefix) p.adds.name.local (p.adds.name.prefix ++ 58 ∷ p.adds.name.local)) w ≡ content_with b p.made.tag.name w
    by false f = refl
    by true f = ap (λ (n : List ℕ). content_with true n w) (name_is p.made.tag.name (bound_by (scope p.made.stack_then p.made.tag)) p.adds.name (f refl) p.adds.named)

-- the law, by the row
pub fills_at : (octets : List ℕ) (rows : List RowOf) (i : ℕ) (r : ReadRows octets rows) (p : Placed octets rows i r) (w : List ℕ) → are_bare w ≡ true
    → (new : List ℕ) × (replaced octets (row_at rows i).body_from (row_at rows i).body_until (content_with (row_at rows i).empty_tag (written_name (row_at rows i)) w) ≡ take (mark_length octets) octets ++ new)
    × IsRead (take (mark_length octets) octets) new (p.made.before ++ filled_events p.made.tag p.until w p.after)
fills_at octets rows i r p w bare =
    let f = fills (take (mark_length octets) octets) (drop (mark_length octets) octets) p.made.tag p.until p.words p.made.before p.after (read_at octets rows i r p) w bare in (
      f.new,
      ap (λ (c : List ℕ). replaced octets (row_at rows i).body_from (row_at rows i).body_until c) (content_same octets rows i r p w)
          ∙ ap (λ (t : RowOf). replaced octets t.body_from t.body_until (content_with p.made.tag.is_empty p.made.tag.name w)) p.row_is
          ∙ ap (λ (o : List ℕ). filled o p.made.tag p.until w) (sym (mark_first octets)) ∙ f.written,
      f.read,
    )
