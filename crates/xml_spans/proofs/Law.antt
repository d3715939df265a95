-- The law on one span: a text in place of an element's content, in octets.
use Rattle.std.proofs.Common.{◌≡◌, ℕ, suc, ◌+◌, Bool, true, false, List, [], ◌∷◌, ◌++◌, length, refl, sym, ap, subst, ◌∙◌, append_assoc, arith, length-append}
use Rattle.std.specs.Prelude.{encode_utf8_all}
use Rattle.std.specs.Str.{chars, IsUtf8}
use lib.Utf8.{scalars}
use Rattle.std.proofs.lemmas.Bool.{false≢true}
use Rattle.std.proofs.lemmas.Str.{chars-encodes, encodes-chars, scalars-chars, encodes-append}
use Rattle.xml_syntax.specs.Characters.{Placed, mark, placed, characters, utf8}
use Rattle.xml_syntax.specs.Tree.{Tag, Content, Event, events, Start, End}
use Rattle.xml_syntax.specs.Grammar.{end, SpellsDocument}
use Rattle.xml_syntax.specs.Seen.{text_events}
use Rattle.xml_spans.specs.Moved.{shift, moved_events, AllFrom}
use Rattle.xml_spans.specs.Code.Moved.{moved}
use Rattle.xml_spans.proofs.Later.{AtLeast, placed_least}
use Rattle.xml_spans.specs.Spans.{content_with, body_of, opened, with_text_alone, filled_events, are_bare}
use Rattle.xml_spans.proofs.Moves.{Steps}
use Rattle.xml_spans.proofs.Octets.{size, encode_cons, cut, joined, placed_moves, placed_steps, scalars_parts, scalars_join, scalars_placed, code_list, codes_append}
use Rattle.xml_spans.proofs.Texts.{bare_text, bare_encodes, bare_size, bare_scalars, name_again, name_octets}
use Rattle.xml_spans.proofs.Places.{Reads, Place, behind_start, in_empty, StartPlace, EmptyPlace, place_of}

-- what becomes of the octets of a text, and of what is read of it
pub record FilledText (text : List ℕ) (at : ℕ) (tag : Tag) (until : ℕ) (w : List ℕ) (before after : List Event) : Type 0 where
  pub front : List ℕ
  pub inner : List ℕ
  pub back : List ℕ
  pub parts : text ≡ front ++ (inner ++ back)
  pub body_is : tag.body_from ≡ at + length front
  pub until_is : until ≡ tag.body_from + length inner
  pub encoded : (cs : List ℕ) × (scalars cs ≡ true) × (encode_utf8_all cs ≡ front ++ (content_with tag.is_empty tag.name w ++ back))
  pub named : tag.is_empty ≡ true → IsUtf8 tag.name
  pub later : AllFrom until after
  pub reads : Reads (characters at (chars text)) (characters at (chars (front ++ (content_with tag.is_empty tag.name w ++ back)))) (before ++ filled_events tag until w after)

-- the events behind, by where the new element's text ends and where what follows it stands
abbrev told_with : List Event → Tag → List ℕ → ℕ → ℕ → ℕ → List Event → List Event
told_with before tag w until old new after = before ++ (Start tag ∷ (text_events w ++ (End until ∷ moved_events (shift old new) after)))

module _ (text : List ℕ) (at : ℕ) (tag : Tag) (until : ℕ) (w : List ℕ) (before after : List Event) (cs : List ℕ) (encoded : encode_utf8_all cs ≡ text) (able : scalars cs ≡ true) (chars_are : chars text ≡ cs) (bare : are_bare w ≡ true) where
  opened_same : tag.is_empty ≡ false → tag ≡ opened tag
  opened_same e =
      ap (λ (b : Bool). let t : Tag = record { name = tag.name; attributes = tag.attributes; from = tag.from; body_from = tag.body_from; is_empty = b } in t) e
      ∙ ap (λ (b : Bool). let t : Tag = record { name = tag.name; attributes = tag.attributes; from = tag.from; body_from = body_of b tag.body_from; is_empty = false } in t) (sym e)

  opened_empty : (slash : ℕ) → tag.is_empty ≡ true → tag.body_from ≡ slash → record { name = tag.name; attributes = tag.attributes; from = tag.from; body_from = slash + 1; is_empty = false } ≡ opened tag
  opened_empty slash e f =
      ap (λ (n : ℕ). let t : Tag = record { name = tag.name; attributes = tag.attributes; from = tag.from; body_from = n + 1; is_empty = false } in t) (sym f)
      ∙ ap (λ (b : Bool). let t : Tag = record { name = tag.name; attributes = tag.attributes; from = tag.from; body_from = body_of b tag.body_from; is_empty = false } in t) (sym e)

  -- a start tag
  start_filled : StartPlace (characters at (chars text)) tag until before after → FilledText text at tag until w before after
  start_filled p =
      let parts : placed false at cs ≡ p.front ++ (mark 62 p.greater ∷ (p.inner ++ (mark 60 until ∷ p.back))) = ap (placed false at) (sym chars_are) ∙ p.parts in
      let one = cut cs false at p.front 62 p.greater (p.inner ++ (mark 60 until ∷ p.back)) refl parts in
      let two = cut one.others false (p.greater + 1) p.inner 60 until p.back refl (sym one.tail_is) in
      let new : ℕ = p.greater + 1 + size w in
      let f = shift until new in
      let cs' : List ℕ = one.first ++ (62 ∷ (w ++ (60 ∷ two.others))) in
      let scalars1 = scalars_parts one.first (62 ∷ one.others) (ap scalars (sym one.parts) ∙ able) in
      let scalars2 = scalars_parts two.first (60 ∷ two.others) (ap scalars (sym two.parts) ∙ scalars1.1) in
      let able' : scalars cs' ≡ true = scalars_join one.first (62 ∷ (w ++ (60 ∷ two.others))) scalars1.0 (scalars_join w (60 ∷ two.others) (bare_scalars w bare) scalars2.1) in
      let front : List ℕ = encode_utf8_all one.first ++ (62 ∷ []) in
      let inner : List ℕ = encode_utf8_all two.first in
      let back : List ℕ = 60 ∷ encode_utf8_all two.others in
      let front_size : length front ≡ size one.first + 1 = length-append (encode_utf8_all one.first) (62 ∷ []) in
      let text_is : text ≡ front ++ (inner ++ back) =
      sym encoded ∙ ap encode_utf8_all one.parts ∙ encodes-append one.first (62 ∷ one.others)
      ∙ ap (λ (u : List ℕ). encode_utf8_all one.first ++ u) (encode_cons 62 one.others (omega arith)
      ∙ ap (λ (u : List ℕ). 62 ∷ u) (ap encode_utf8_all two.parts ∙ encodes-append two.first (60 ∷ two.others) ∙ ap (λ (u : List ℕ). inner ++ u) (encode_cons 60 two.others (omega arith))))
      ∙ sym (append_assoc (encode_utf8_all one.first) (62 ∷ []) (inner ++ back)) in
      let octets_are : encode_utf8_all cs' ≡ front ++ (w ++ back) =
      encodes-append one.first (62 ∷ (w ++ (60 ∷ two.others)))
      ∙ ap (λ (u : List ℕ). encode_utf8_all one.first ++ u) (encode_cons 62 (w ++ (60 ∷ two.others)) (omega arith)
      ∙ ap (λ (u : List ℕ). 62 ∷ u) (encodes-append w (60 ∷ two.others) ∙ ap (λ (u : List ℕ). u ++ encode_utf8_all (60 ∷ two.others)) (bare_encodes w bare) ∙ ap (λ (u : List ℕ). w ++ u) (encode_cons 60 two.others (omega arith))))
      ∙ sym (append_assoc (encode_utf8_all one.first) (62 ∷ []) (w ++ back)) in
      let content_is : content_with tag.is_empty tag.name w ≡ w = ap (λ (b : Bool). content_with b tag.name w) p.not_empty in
      let body_is : tag.body_from ≡ at + length front = omega (arith, p.body_is, one.at_is, front_size) in
      let until_is : until ≡ tag.body_from + length inner = omega (arith, two.at_is, p.body_is) in
      let back_is : mark 60 until ∷ p.back ≡ placed false until (60 ∷ two.others) = ap (λ (u : List Placed). mark 60 until ∷ u) two.tail_is in
      let moved_is : placed false new (60 ∷ two.others) ≡ moved f (mark 60 until ∷ p.back) =
      ap (λ (n : ℕ). placed false n (60 ∷ two.others)) (omega arith) ∙ placed_moves until new (60 ∷ two.others) false until (omega arith) ∙ ap (moved f) (sym back_is) in
      let placed_is : placed false at cs' ≡ p.front ++ (mark 62 p.greater ∷ (placed false (p.greater + 1) w ++ moved f (mark 60 until ∷ p.back))) =
      joined one.first false at 62 p.greater (w ++ (60 ∷ two.others)) refl refl one.at_is
      ∙ ap (λ (u : List Placed). u ++ (mark 62 p.greater ∷ placed false (p.greater + 1) (w ++ (60 ∷ two.others)))) one.front_is
      ∙ ap (λ (u : List Placed). p.front ++ (mark 62 p.greater ∷ u)) (joined w false (p.greater + 1) 60 new two.others refl refl refl ∙ ap (λ (u : List Placed). placed false (p.greater + 1) w ++ u) moved_is) in
      let steps = subst (Steps f) (sym back_is) (placed_steps until new (60 ∷ two.others) false until (omega arith)) in
      let reads = p.again f (placed false (p.greater + 1) w) w steps (bare_text w (p.greater + 1) bare) in
      let all : placed false at cs' ≡ characters at (chars (front ++ (content_with tag.is_empty tag.name w ++ back))) =
      ap (placed false at) (sym (chars-encodes cs' able')) ∙ ap (λ (u : List ℕ). characters at (chars u)) (octets_are ∙ ap (λ (u : List ℕ). front ++ (u ++ back)) (sym content_is)) in
      let P : List Placed → Type 0 = λ u. Reads (characters at (chars text)) u (told_with before tag w (f until) until new after) in
      let Q : List Event → Type 0 = λ u. Reads (characters at (chars text)) (characters at (chars (front ++ (content_with tag.is_empty tag.name w ++ back)))) u in
      let at_new : new ≡ tag.body_from + length (content_with tag.is_empty tag.name w) = omega (arith, p.body_is, bare_size w bare, ap length content_is) in
      let at_end : f until ≡ (opened tag).body_from + length w = omega (arith, p.body_is, bare_size w bare, ap (λ (b : Bool). body_of b tag.body_from) p.not_empty) in
      record {
        front = front;
        inner = inner;
        back = back;
        parts = text_is;
        body_is = body_is;
        until_is = until_is;
        encoded = (cs', able', octets_are ∙ ap (λ (u : List ℕ). front ++ (u ++ back)) (sym content_is));
        named = λ e. absurd (false≢true (sym p.not_empty ∙ e));
        later = p.later until (subst (AtLeast until) (sym back_is) (placed_least until (60 ∷ two.others) false until (omega arith)));
        reads = subst Q (ap (λ (t : Tag). told_with before t w (f until) until new after) (opened_same p.not_empty) ∙ ap (λ (n : ℕ). told_with before (opened tag) w n until new after) at_end
            ∙ ap (λ (n : ℕ). told_with before (opened tag) w ((opened tag).body_from + length w) until n after) at_new) (subst P (sym placed_is ∙ all) reads);
      }

  -- an empty-element tag
  empty_filled : EmptyPlace (characters at (chars text)) tag until before after → FilledText text at tag until w before after
  empty_filled p =
      let parts : placed false at cs ≡ p.front ++ (mark 47 p.slash ∷ (mark 62 p.greater ∷ p.back)) = ap (placed false at) (sym chars_are) ∙ p.parts in
      let one = cut cs false at p.front 47 p.slash (mark 62 p.greater ∷ p.back) refl parts in
      let two = cut one.others false (p.slash + 1) [] 62 p.greater p.back refl (sym one.tail_is) in
      let ncs : List ℕ = code_list p.name in
      let name_is : encode_utf8_all ncs ≡ tag.name = name_octets p.name tag.name p.named in
      let less : ℕ = p.slash + 1 + size w in
      let close : ℕ = less + 1 + 1 + size ncs in
      let new : ℕ = close + 1 in
      let f = shift until new in
      let tail : List ℕ = 60 ∷ (47 ∷ (ncs ++ (62 ∷ two.others))) in
      let cs' : List ℕ = one.first ++ (62 ∷ (w ++ tail)) in
      let scalars1 = scalars_parts one.first (47 ∷ one.others) (ap scalars (sym one.parts) ∙ able) in
      let scalars2 = scalars_parts two.first (62 ∷ two.others) (ap scalars (sym two.parts) ∙ scalars1.1) in
      let codes_in : code_list (placed false at one.first) ≡ code_list p.before_name ++ (ncs ++ code_list p.behind_name) =
      ap code_list (one.front_is ∙ p.front_is) ∙ codes_append p.before_name (p.name ++ p.behind_name) ∙ ap (λ (u : List ℕ). code_list p.before_name ++ u) (codes_append p.name p.behind_name) in
      let scalars3 = scalars_parts (code_list p.before_name) (ncs ++ code_list p.behind_name) (ap scalars (sym codes_in) ∙ scalars_placed one.first false at scalars1.0) in
      let scalars4 = scalars_parts ncs (code_list p.behind_name) scalars3.1 in
      let able' : scalars cs' ≡ true = scalars_join one.first (62 ∷ (w ++ tail)) scalars1.0 (scalars_join w tail (bare_scalars w bare) (scalars_join ncs (62 ∷ two.others) scalars4.0 scalars2.1)) in
      let front : List ℕ = encode_utf8_all one.first in
      let inner : List ℕ = 47 ∷ (encode_utf8_all two.first ++ (62 ∷ [])) in
      let back : List ℕ = encode_utf8_all two.others in
      let inner_size : length inner ≡ size two.first + 1 + 1 = ap suc (length-append (encode_utf8_all two.first) (62 ∷ [])) ∙ omega arith in
      let text_is : text ≡ front ++ (inner ++ back) =
      sym encoded ∙ ap encode_utf8_all one.parts ∙ encodes-append one.first (47 ∷ one.others)
      ∙ ap (λ (u : List ℕ). front ++ u) (encode_cons 47 one.others (omega arith)
      ∙ ap (λ (u : List ℕ). 47 ∷ u) (ap encode_utf8_all two.parts ∙ encodes-append two.first (62 ∷ two.others) ∙ ap (λ (u : List ℕ). encode_utf8_all two.first ++ u) (encode_cons 62 two.others (omega arith))
      ∙ sym (append_assoc (encode_utf8_all two.first) (62 ∷ []) back))) in
      let made : List ℕ = 62 ∷ (w ++ (60 ∷ (47 ∷ (tag.name ++ (62 ∷ []))))) in
      let tail_octets : encode_utf8_all tail ≡ 60 ∷ (47 ∷ ((tag.name ++ (62 ∷ [])) ++ back)) =
      encode_cons 60 (47 ∷ (ncs ++ (62 ∷ two.others))) (omega arith) ∙ ap (λ (u : List ℕ). 60 ∷ u) (encode_cons 47 (ncs ++ (62 ∷ two.others)) (omega arith)
      ∙ ap (λ (u : List ℕ). 47 ∷ u) (encodes-append ncs (62 ∷ two.others) ∙ ap (λ (u : List ℕ). u ++ encode_utf8_all (62 ∷ two.others)) name_is ∙ ap (λ (u : List ℕ). tag.name ++ u) (encode_cons 62 two.others (omega arith)) ∙ sym (append_assoc tag.name (62 ∷ []) back))) in
      let octets_are : encode_utf8_all cs' ≡ front ++ (made ++ back) =
      encodes-append one.first (62 ∷ (w ++ tail))
      ∙ ap (λ (u : List ℕ). front ++ u) (encode_cons 62 (w ++ tail) (omega arith) ∙ ap (λ (u : List ℕ). 62 ∷ u) (encodes-append w tail ∙ ap (λ (u : List ℕ). u ++ encode_utf8_all tail) (bare_encodes w bare) ∙ ap (λ (u : List ℕ). w ++ u) tail_octets
      ∙ sym (append_assoc w (60 ∷ (47 ∷ (tag.name ++ (62 ∷ [])))) back))) in
      let content_is : content_with tag.is_empty tag.name w ≡ made = ap (λ (b : Bool). content_with b tag.name w) p.empty in
      let made_size : length made ≡ size w + (size ncs + 1) + 1 + 1 + 1 =
      omega (arith, length-append w (60 ∷ (47 ∷ (tag.name ++ (62 ∷ [])))), length-append tag.name (62 ∷ []), bare_size w bare, ap length name_is) in
      let body_is : tag.body_from ≡ at + length front = p.body_is ∙ one.at_is in
      let until_is : until ≡ tag.body_from + length inner = omega (arith, p.until_is, two.at_is, p.body_is, inner_size) in
      let back_is : p.back ≡ placed false until two.others = two.tail_is ∙ ap (λ (n : ℕ). placed false n two.others) (sym p.until_is) in
      let moved_is : placed false new two.others ≡ moved f p.back =
      ap (λ (n : ℕ). placed false n two.others) (omega arith) ∙ placed_moves until new two.others false until (omega arith) ∙ ap (moved f) (sym back_is) in
      let n' : List Placed = placed false (less + 1 + 1) ncs in
      let e : List Placed = mark 60 less ∷ (mark 47 (less + 1) ∷ (n' ++ (mark 62 close ∷ []))) in
      let tail_placed : placed false less tail ≡ e ++ moved f p.back =
      ap (λ (u : List Placed). mark 60 less ∷ (mark 47 (less + 1) ∷ u)) (joined ncs false (less + 1 + 1) 62 close two.others refl refl refl ∙ ap (λ (u : List Placed). n' ++ (mark 62 close ∷ u)) moved_is ∙ sym (append_assoc n' (mark 62 close ∷ []) (moved f p.back))) in
      let placed_is : placed false at cs' ≡ p.front ++ (mark 62 p.slash ∷ (placed false (p.slash + 1) w ++ (e ++ moved f p.back))) =
      joined one.first false at 62 p.slash (w ++ tail) refl refl one.at_is
      ∙ ap (λ (u : List Placed). u ++ (mark 62 p.slash ∷ placed false (p.slash + 1) (w ++ tail))) one.front_is
      ∙ ap (λ (u : List Placed). p.front ++ (mark 62 p.slash ∷ u)) (joined w false (p.slash + 1) 60 less (47 ∷ (ncs ++ (62 ∷ two.others))) refl refl refl ∙ ap (λ (u : List Placed). placed false (p.slash + 1) w ++ u) tail_placed) in
      let steps = subst (Steps f) (sym back_is) (placed_steps until new two.others false until (omega arith)) in
      let closed = end n' [] tag.name less (less + 1) close (name_again p.name tag.name (less + 1 + 1) p.named) tt in
      let reads = p.again f (placed false (p.slash + 1) w) e w less steps (bare_text w (p.slash + 1) bare) closed in
      let tag1 : Tag = record { name = tag.name; attributes = tag.attributes; from = tag.from; body_from = p.slash + 1; is_empty = false } in
      let all : placed false at cs' ≡ characters at (chars (front ++ (content_with tag.is_empty tag.name w ++ back))) =
      ap (placed false at) (sym (chars-encodes cs' able')) ∙ ap (λ (u : List ℕ). characters at (chars u)) (octets_are ∙ ap (λ (u : List ℕ). front ++ (u ++ back)) (sym content_is)) in
      let P : List Placed → Type 0 = λ u. Reads (characters at (chars text)) u (told_with before tag1 w less until new after) in
      let Q : List Event → Type 0 = λ u. Reads (characters at (chars text)) (characters at (chars (front ++ (content_with tag.is_empty tag.name w ++ back)))) u in
      let at_new : new ≡ tag.body_from + length (content_with tag.is_empty tag.name w) = omega (arith, p.body_is, made_size, ap length content_is) in
      let at_end : less ≡ (opened tag).body_from + length w = omega (arith, p.body_is, bare_size w bare, ap (λ (b : Bool). body_of b tag.body_from) p.empty) in
      record {
        front = front;
        inner = inner;
        back = back;
        parts = text_is;
        body_is = body_is;
        until_is = until_is;
        encoded = (cs', able', octets_are ∙ ap (λ (u : List ℕ). front ++ (u ++ back)) (sym content_is));
        named = λ e. (ncs, (scalars4.0, name_is));
        later = p.later until (subst (AtLeast until) (sym back_is) (placed_least until two.others false until (omega arith)));
        reads = subst Q (ap (λ (t : Tag). told_with before t w less until new after) (opened_empty p.slash p.empty p.body_is) ∙ ap (λ (n : ℕ). told_with before (opened tag) w n until new after) at_end
            ∙ ap (λ (n : ℕ). told_with before (opened tag) w ((opened tag).body_from + length w) until n after) at_new) (subst P (sym placed_is ∙ all) reads);
      }

pub filled_text : (text : List ℕ) (at : ℕ) (t : Content) (tag : Tag) (w0 w : List ℕ) (until : ℕ) (before after : List Event) → IsUtf8 text → SpellsDocument (characters at (chars text)) t → events t ≡ before ++ with_text_alone tag w0 until after → are_bare w ≡ true
    → FilledText text at tag until w before after
filled_text text at t tag w0 w until before after utf8 spelled told bare = by (place_of (characters at (chars text)) t tag w0 until before after spelled told)
  where
    by : Place (characters at (chars text)) tag until before after → FilledText text at tag until w before after
    by (behind_start p) = start_filled text at tag until w before after (chars text) (encodes-chars text utf8) (scalars-chars text utf8) refl bare p
    by (in_empty p) = empty_filled text at tag until w before after (chars text) (encodes-chars text utf8) (scalars-chars text utf8) refl bare p
