-- The offsets of rows lie within the octets.
use Rattle.std.proofs.Common.{◌≡◌, ℕ, zero, suc, ◌+◌, ◌-◌, ◌<◌, ◌≤◌, Bool, true, false, eqb, inl, inr, ◌⊎◌, List, [], ◌∷◌, ◌++◌, length, take, drop, Some, refl, sym, ap, subst, ◌∙◌, arith, length-append, take-append-drop}
use Rattle.std.proofs.lemmas.Bool.{cases_lt, eqb-true}
use Rattle.sig_base.proofs.OptionLemmas.{some_is}
use Rattle.xml_doc.specs.Rows.{RowOf}
use Rattle.xml_doc.specs.Shape.{row_at}
use Rattle.xml_syntax.specs.Tree.{Event, Text, Comment, Instruction, Start, End, events}
use Rattle.xml_resolve.specs.Rows.{Binding, Ordered, namespace_rows, attribute_rows, text_row, comment_row, instruction_row, root_row}
use Rattle.xml_resolve.specs.Table.{Stack, no_stack, parent_of, popped, closed, built}
use Rattle.xml_read.specs.SpelledTree.{mark_length}
use Rattle.xml_spans.specs.Moved.{AllUpTo}
use Rattle.xml_spans.proofs.UpTo.{read_up_to}
use Rattle.row_spans.proofs.Kept.{apart, closed_other, closed_same, closed_length, left_row, right_row, tag_adds, tag_rest, scope, stack_in, added_by}
use Rattle.xml_read.specs.Spelled.{Spells}
use Rattle.row_spans.proofs.Read.{read_rows}

AreWithin : ℕ → List RowOf → Type 0
AreWithin n rows = (k : ℕ) → k < length rows → ((row_at rows k).body_from ≤ n) × ((row_at rows k).body_until ≤ n)

AllWithin : ℕ → List RowOf → Type 0
AllWithin n [] = Unit {0}
AllWithin n (r ∷ rs) = ((r.body_from ≤ n) × (r.body_until ≤ n)) × AllWithin n rs

all_within : (n : ℕ) (rs : List RowOf) (k : ℕ) → AllWithin n rs → k < length rs → ((row_at rs k).body_from ≤ n) × ((row_at rs k).body_until ≤ n)
unfolding AllWithin
all_within n [] k h lt = absurd (omega (arith, lt))
all_within n (r ∷ rs) zero h lt = h.0
all_within n (r ∷ rs) (suc k) h lt = all_within n rs k h.1 (omega (arith, lt))

more_within : (n : ℕ) (rows rs : List RowOf) → AreWithin n rows → AllWithin n rs → AreWithin n (rows ++ rs)
unfolding AreWithin
more_within n rows rs a h k lt = by (cases_lt k (length rows))
  where
    P : RowOf → Type 0
    P r = (r.body_from ≤ n) × (r.body_until ≤ n)

    by : ((k < length rows) ⊎ (length rows ≤ k)) → P (row_at (rows ++ rs) k)
    by (inl here) = subst P (sym (left_row rows rs k here)) (a k here)
    by (inr past) = subst P (sym (right_row rows rs k past)) (all_within n rs (k - length rows) h (omega (arith, lt, past, length-append rows rs)))

closed_within : (n : ℕ) (rows : List RowOf) (i until : ℕ) → until ≤ n → AreWithin n rows → AreWithin n (closed rows i until)
unfolding AreWithin
closed_within n rows i until le a k lt = by (eqb k i) refl
  where
    P : RowOf → Type 0
    P r = (r.body_from ≤ n) × (r.body_until ≤ n)

    inside : k < length rows
    inside = omega (arith, lt, closed_length rows i until)

    by : (b : Bool) → eqb k i ≡ b → P (row_at (closed rows i until) k)
    by false e = subst P (sym (closed_other rows i until k (apart k i e))) (a k inside)
    by true e =
        let is = eqb-true k i e in
        let Q : ℕ → Type 0 = λ j. P (row_at (closed rows i until) j) in
        let within : i < length rows = subst (λ (j : ℕ). j < length rows) is inside in
        subst Q (sym is) (subst P (sym (closed_same rows i until within)) ((a i within).0, le))

attributes_within : (n p k : ℕ) (xs : Ordered) → AllWithin n (attribute_rows p k xs)
unfolding AllWithin
attributes_within n p k [] = tt
attributes_within n p k (x ∷ xs) = ((omega arith, omega arith), attributes_within n p (k + 1) xs)

fields_within : (n p k m : ℕ) (bs : List Binding) (xs : Ordered) → AllWithin n (namespace_rows p k bs ++ attribute_rows p m xs)
unfolding AllWithin
fields_within n p k m [] xs = attributes_within n p m xs
fields_within n p k m (b ∷ bs) xs = ((omega arith, omega arith), fields_within n p (k + 1) m bs xs)

one_within : (n : ℕ) (rows : List RowOf) (r : RowOf) → AreWithin n rows → r.body_from ≤ n → r.body_until ≤ n → AreWithin n (rows ++ (r ∷ []))
unfolding AllWithin
one_within n rows r a h k = more_within n rows (r ∷ []) a ((h, k), tt)

built_within : (n : ℕ) (es : List Event) (stack : Stack) (rows all : List RowOf) → AllUpTo n es → AreWithin n rows → built stack rows es ≡ Some all → AreWithin n all
unfolding built AllWithin
built_within n [] stack rows all h a e = subst (AreWithin n) (some_is rows all e) a
built_within n (Text w ∷ es) stack rows all h a e = built_within n es stack (rows ++ (text_row (parent_of stack) (length rows) w ∷ [])) all h (one_within n rows (text_row (parent_of stack) (length rows) w) a (omega arith) (omega arith)) e
built_within n (Comment w ∷ es) stack rows all h a e = built_within n es stack (rows ++ (comment_row (parent_of stack) (length rows) w ∷ [])) all h (one_within n rows (comment_row (parent_of stack) (length rows) w) a (omega arith) (omega arith)) e
built_within n (Instruction target w ∷ es) stack rows all h a e = built_within n es stack (rows ++ (instruction_row (parent_of stack) (length rows) target w ∷ [])) all h (one_within n rows (instruction_row (parent_of stack) (length rows) target w) a (omega arith) (omega arith)) e
built_within n (Start tag ∷ es) stack rows all h a e =
    let t = tag_adds stack rows tag es all e in
    built_within n es (stack_in stack (length rows) tag) (rows ++ added_by stack (length rows) tag t.name t.values) all h.1
    (more_within n rows (added_by stack (length rows) tag t.name t.values) a ((h.0, omega arith), fields_within n (length rows) (length rows + 1) (length rows + 1 + length (scope stack tag)) (scope stack tag) t.values))
    (tag_rest stack rows tag es all t e)
built_within n (End until ∷ es) stack rows all h a e = built_within n es (popped stack) (closed rows (parent_of stack) until) all h.1 (closed_within n rows (parent_of stack) until h.0 a) e

root_within : (n : ℕ) → AreWithin n (root_row 0 ∷ [])
unfolding AreWithin
root_within n zero lt = (omega arith, omega arith)
root_within n (suc k) lt = absurd (omega (arith, lt))

pub within_at : (octets : List ℕ) (rows : List RowOf) (i : ℕ) → Spells octets rows → i < length rows → ((row_at rows i).body_from ≤ length octets) × ((row_at rows i).body_until ≤ length octets)
unfolding AreWithin
within_at octets rows i e lt =
    let r = read_rows octets rows e in
    let at = mark_length octets in
    let n = length (take at octets) + length (drop at octets) in
    let same : n ≡ length octets = sym (length-append (take at octets) (drop at octets)) ∙ ap length (take-append-drop at octets) in
    let up_to = read_up_to (take at octets) (drop at octets) (events r.tree) r.read in
    let all = closed_within n r.all 0 0 (omega arith) (built_within n (events r.tree) no_stack (root_row 0 ∷ []) r.all up_to (root_within n) r.is_built) in
    let P : List RowOf → Type 0 = λ t. AreWithin n t in
    let here = (subst P (sym r.closed_are) all) i lt in
    (omega (arith, here.0, same), omega (arith, here.1, same))
