-- An element that has text alone: the events of its content, and the offsets of its row.
use Rattle.std.proofs.Common.{◌≡◌, ◌≢◌, ℕ, ◌+◌, ◌<◌, ◌≤◌, true, false, List, [], ◌∷◌, ◌++◌, length, Some, refl, sym, ap, subst, ◌∙◌, append-nil, arith, length-append}
use Rattle.std.proofs.lemmas.Bool.{false≢true}
use Rattle.xml_doc.specs.Rows.{RowOf}
use Rattle.xml_doc.specs.Shape.{row_at, IsWellShaped}
use Rattle.xml_syntax.specs.Tree.{Tag, Content, nothing, text, comment, instruction, element, Event, Text, Comment, Instruction, Start, End, events}
use Rattle.xml_syntax.specs.Seen.{text_events}
use Rattle.xml_resolve.specs.Documents.{is_misc, has_one_element}
use Rattle.xml_resolve.specs.Rows.{element_row, text_row, comment_row, instruction_row}
use Rattle.xml_resolve.specs.Table.{Stack, parent_of, popped, closed, built}
use Rattle.xml_resolve.proofs.BuiltLaws.{not_fewer}
use Rattle.row_spans.specs.TextAlone.{is_plain_kind, HasTextAlone}
use Rattle.row_spans.proofs.Kept.{node, kept, closed_node, closed_other, closed_length, left_row, last_row, tag_adds, tag_rest, scope, stack_in, fields_at}

-- ---- a document doesn't end with a start tag or a text

abbrev IsCloser : Event → Type 0
IsCloser (Text w) = ⊥
IsCloser (Comment w) = Unit {0}
IsCloser (Instruction target w) = Unit {0}
IsCloser (Start tag) = ⊥
IsCloser (End until) = Unit {0}

abbrev last_of : Event → List Event → Event
last_of d [] = d
last_of d (x ∷ xs) = last_of x xs

last_append : (xs : List Event) (d y : Event) (ys : List Event) → last_of d (xs ++ (y ∷ ys)) ≡ last_of y ys
last_append [] d y ys = refl
last_append (x ∷ xs) d y ys = last_append xs x y ys

misc_closes : (k : Content) (d : Event) → is_misc k ≡ true → IsCloser d → IsCloser (last_of d (events k))
misc_closes nothing d h c = c
misc_closes (text w k) d h c = absurd (false≢true h)
misc_closes (comment w k) d h c = misc_closes k (Comment w) h tt
misc_closes (instruction target w k) d h c = misc_closes k (Instruction target w) h tt
misc_closes (element tag inner until k) d h c = absurd (false≢true h)

document_closes : (k : Content) (d : Event) → has_one_element k ≡ true → IsCloser (last_of d (events k))
document_closes nothing d h = absurd (false≢true h)
document_closes (text w k) d h = absurd (false≢true h)
document_closes (comment w k) d h = document_closes k (Comment w) h
document_closes (instruction target w k) d h = document_closes k (Instruction target w) h
document_closes (element tag inner until k) d h = subst IsCloser (sym (last_append (events inner) (Start tag) (End until) (events k))) (misc_closes k (End until) h tt)

-- the rows of a text, which an empty one has not
abbrev pub texts_of : ℕ → ℕ → List ℕ → List RowOf
texts_of parent number [] = []
texts_of parent number (c ∷ w) = text_row parent number (c ∷ w) ∷ []

-- ---- below the element

module _ (tree : Content) (one : has_one_element tree ≡ true) (all rows : List RowOf) (closed_are : rows ≡ closed all 0 0) (shape : IsWellShaped rows) (i : ℕ) (some : 0 < i) (alone : HasTextAlone rows i) where
  all_length : length rows ≡ length all
  all_length = ap length closed_are ∙ closed_length all 0 0

  same_node : (k : ℕ) → k < length all → node (row_at rows k) ≡ node (row_at all k)
  same_node k lt = ap (λ (t : List RowOf). node (row_at t k)) closed_are ∙ closed_node all 0 0 k lt

  pub same_row : row_at rows i ≡ row_at all i
  same_row = ap (λ (t : List RowOf). row_at t i) closed_are ∙ closed_other all 0 0 i (λ e. omega (arith, e, some))

  -- a child of the element is a field or a text
  plain_child : (m : ℕ) → 0 < m → m < length all → (row_at all m).parent ≡ i → is_plain_kind (row_at all m).kind ≡ true
  plain_child m pos lt parent =
      let within : m < length rows = omega (arith, lt, all_length) in
      let same = same_node m lt in
      let parent' : (row_at rows m).parent ≡ i = ap (λ (r : RowOf). r.parent) same ∙ parent in
      let after = shape.nesting.parent_before m pos within in
      let from = shape.nesting.last_from m within in
      let inside = shape.nesting.last_within m within in
      let ends : m ≤ (row_at rows i).last = omega (arith, from, inside, ap (λ (k : ℕ). (row_at rows k).last) parent') in
      ap is_plain_kind (sym (ap (λ (r : RowOf). r.kind) same)) ∙ alone.alone m (omega (arith, after, parent')) ends

  -- no other node stands there
  no_child : (es : List Event) (stack : Stack) (front more : List RowOf) (r : RowOf) → built stack (front ++ (r ∷ more)) es ≡ Some all → 0 < length front → r.parent ≡ i → is_plain_kind r.kind ≡ false → ⊥
  no_child es stack front more r e pos parent odd =
      let m = length front in
      let lt = length-append front (r ∷ more) in
      let same = kept es stack (front ++ (r ∷ more)) all m e (omega (arith, lt)) ∙ ap node (last_row front more r) in
      let few = not_fewer es stack (front ++ (r ∷ more)) all e in
      let plain = plain_child m pos (omega (arith, lt, few)) (ap (λ (t : RowOf). t.parent) same ∙ parent) in
      false≢true (sym odd ∙ ap is_plain_kind (sym (ap (λ (t : RowOf). t.kind) same)) ∙ plain)

  -- no second text stands there, and none is empty
  text_value : (es : List Event) (stack : Stack) (front : List RowOf) (w : List ℕ) → built stack (front ++ (text_row i (length front) w ∷ [])) es ≡ Some all → w ≢ []
  text_value es stack front w e is =
      let m = length front in
      let lt = length-append front (text_row i (length front) w ∷ []) in
      let same = kept es stack (front ++ (text_row i (length front) w ∷ [])) all m e (omega (arith, lt)) ∙ ap node (last_row front [] (text_row i (length front) w)) in
      let few = not_fewer es stack (front ++ (text_row i (length front) w ∷ [])) all e in
      let lt' : m < length all = omega (arith, lt, few) in
      let here = same_node m lt' ∙ same in
      shape.texts.text_some m (omega (arith, lt', all_length)) (ap (λ (t : RowOf). t.kind) here) (ap (λ (t : RowOf). t.value) here ∙ is)

  two_texts : (es : List Event) (stack : Stack) (front : List RowOf) (v w : List ℕ) → built stack ((front ++ (text_row i (length front) v ∷ [])) ++ (text_row i (length (front ++ (text_row i (length front) v ∷ []))) w ∷ [])) es ≡ Some all → ⊥
  two_texts es stack front v w e =
      let m = length front in
      let r = text_row i (length front) v in
      let s = text_row i (length (front ++ (r ∷ []))) w in
      let one_more = length-append front (r ∷ []) in
      let two_more = length-append (front ++ (r ∷ [])) (s ∷ []) in
      let few = not_fewer es stack ((front ++ (r ∷ [])) ++ (s ∷ [])) all e in
      let first = kept es stack ((front ++ (r ∷ [])) ++ (s ∷ [])) all m e (omega (arith, one_more, two_more)) ∙ ap node (left_row (front ++ (r ∷ [])) (s ∷ []) m (omega (arith, one_more)) ∙ last_row front [] r) in
      let at_second : length (front ++ (r ∷ [])) ≡ m + 1 = one_more in
      let second = kept es stack ((front ++ (r ∷ [])) ++ (s ∷ [])) all (length (front ++ (r ∷ []))) e (omega (arith, two_more)) ∙ ap node (last_row (front ++ (r ∷ [])) [] s) in
      let second' = ap (λ (k : ℕ). node (row_at all k)) (sym at_second) ∙ second in
      let here = same_node m (omega (arith, one_more, two_more, few)) ∙ first in
      let there = same_node (m + 1) (omega (arith, one_more, two_more, few)) ∙ second' in
      shape.texts.texts_apart m (omega (arith, one_more, two_more, few, all_length)) (ap (λ (t : RowOf). t.kind) here) (ap (λ (t : RowOf). t.kind) there) (ap (λ (t : RowOf). t.parent) here ∙ sym (ap (λ (t : RowOf). t.parent) there))

  -- what stands behind the start tag
  pub record TextBehind (stack : Stack) (front : List RowOf) (behind : List Event) : Type 0 where
    pub words : List ℕ
    pub until : ℕ
    pub after : List Event
    pub texts : List RowOf
    pub texts_are : texts ≡ texts_of i (length front) words
    pub parts : behind ≡ text_events words ++ (End until ∷ after)
    pub rest : built (popped stack) (closed (front ++ texts) i until) after ≡ Some all

  pub content_at : (behind before : List Event) (tag : Tag) (stack : Stack) (front : List RowOf) → events tree ≡ before ++ (Start tag ∷ behind) → built stack front behind ≡ Some all → parent_of stack ≡ i → 0 < length front → TextBehind stack front behind
  unfolding built
  content_at [] before tag stack front told e top pos = absurd (subst IsCloser (ap (last_of (Start tag)) told ∙ last_append before (Start tag) (Start tag) []) (document_closes tree (Start tag) one))
  content_at (End until ∷ after) before tag stack front told e top pos =
      let P : List RowOf → Type 0 = λ t. built (popped stack) (closed t i until) after ≡ Some all in
      let Q : ℕ → Type 0 = λ k. built (popped stack) (closed front k until) after ≡ Some all in
      record { words = []; until = until; after = after; texts = []; texts_are = refl; parts = refl; rest = subst P (sym (append-nil front)) (subst Q top e) }
  content_at (Comment w ∷ es) before tag stack front told e top pos = absurd (no_child es stack front [] (comment_row (parent_of stack) (length front) w) e pos top refl)
  content_at (Instruction target w ∷ es) before tag stack front told e top pos = absurd (no_child es stack front [] (instruction_row (parent_of stack) (length front) target w) e pos top refl)
  content_at (Start tag' ∷ es) before tag stack front told e top pos =
      let t = tag_adds stack front tag' es all e in
      absurd (no_child es (stack_in stack (length front) tag') front (fields_at (length front) (scope stack tag') t.values) (element_row (parent_of stack) (length front) t.name tag'.from tag'.body_from 0 tag'.is_empty) (tag_rest stack front tag' es all t e) pos top refl)
  content_at (Text w ∷ es) before tag stack front told e top pos =
      let Q : ℕ → Type 0 = λ k. built stack (front ++ (text_row k (length front) w ∷ [])) es ≡ Some all in
      behind_text es w (subst Q top e) told
    where
      behind_text : (es : List Event) (w : List ℕ) → built stack (front ++ (text_row i (length front) w ∷ [])) es ≡ Some all → events tree ≡ before ++ (Start tag ∷ (Text w ∷ es)) → TextBehind stack front (Text w ∷ es)
      behind_text [] w e told = absurd (subst IsCloser (ap (last_of (Start tag)) told ∙ last_append before (Start tag) (Start tag) (Text w ∷ [])) (document_closes tree (Start tag) one))
      behind_text (End until ∷ after) [] e told = absurd (text_value (End until ∷ after) stack front [] e refl)
      behind_text (End until ∷ after) (c ∷ w) e told =
          let Q : ℕ → Type 0 = λ k. built (popped stack) (closed (front ++ (text_row i (length front) (c ∷ w) ∷ [])) k until) after ≡ Some all in
          record { words = c ∷ w; until = until; after = after; texts = text_row i (length front) (c ∷ w) ∷ []; texts_are = refl; parts = refl; rest = subst Q top e }
      behind_text (Comment v ∷ es) w e told =
          absurd (no_child es stack (front ++ (text_row i (length front) w ∷ [])) [] (comment_row (parent_of stack) (length (front ++ (text_row i (length front) w ∷ []))) v) e (omega (arith, length-append front (text_row i (length front) w ∷ []))) top refl)
      behind_text (Instruction target v ∷ es) w e told =
          absurd (no_child es stack (front ++ (text_row i (length front) w ∷ [])) [] (instruction_row (parent_of stack) (length (front ++ (text_row i (length front) w ∷ []))) target v) e (omega (arith, length-append front (text_row i (length front) w ∷ []))) top refl)
      behind_text (Start tag' ∷ es) w e told =
          let front' = front ++ (text_row i (length front) w ∷ []) in
          let t = tag_adds stack front' tag' es all e in
          absurd (no_child es (stack_in stack (length front') tag') front' (fields_at (length front') (scope stack tag') t.values) (element_row (parent_of stack) (length front') t.name tag'.from tag'.body_from 0 tag'.is_empty) (tag_rest stack front' tag' es all t e) (omega (arith, length-append front (text_row i (length front) w ∷ []))) top refl)
      behind_text (Text v ∷ es) w e told =
          let Q : ℕ → Type 0 = λ k. built stack ((front ++ (text_row i (length front) w ∷ [])) ++ (text_row k (length (front ++ (text_row i (length front) w ∷ []))) v ∷ [])) es ≡ Some all in
          absurd (two_texts es stack front w v (subst Q top e))
