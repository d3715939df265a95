-- The spans of elements that have text alone lie in the order of their rows.
use Rattle.std.proofs.Common.{◌≡◌, ℕ, ◌-◌, ◌<◌, ◌≤◌, inl, inr, ◌⊎◌, List, [], ◌∷◌, ◌++◌, length, take, drop, sym, ap, subst, ◌∙◌, arith, length-append}
use Rattle.std.proofs.lemmas.Bool.{cases_lt, false≢true}
use Rattle.xml_doc.specs.Rows.{RowOf}
use Rattle.xml_doc.specs.Shape.{row_at}
use Rattle.xml_doc.specs.declared.row.Kind.TheVariants as kinds
use Rattle.xml_syntax.specs.Tree.{Tag, Event, Text, Comment, Instruction, Start, End}
use Rattle.xml_resolve.specs.Rows.{element_row}
use Rattle.xml_resolve.specs.Table.{parent_of, closed}
use Rattle.xml_read.specs.SpelledTree.{mark_length}
use Rattle.xml_spans.specs.Moved.{AllFrom}
use Rattle.xml_spans.proofs.Outcomes.{lies}
use Rattle.row_spans.specs.TextAlone.{is_plain_kind, HasTextAlone}
use Rattle.row_spans.proofs.Kept.{node, kept, closed_node, closed_length, last_row, below_more, tag_adds, tag_rest, scope, stack_in, added_by, fields_at, made_at}
use Rattle.xml_read.specs.Spelled.{Spells}
use Rattle.row_spans.proofs.Read.{read_rows}
use Rattle.row_spans.proofs.Places.{place_of_row, read_at}

from_at : (n : ℕ) (before : List Event) (tag : Tag) (r : List Event) → AllFrom n (before ++ (Start tag ∷ r)) → n ≤ tag.body_from
from_at n [] tag r h = h.1
from_at n (Text w ∷ before) tag r h = from_at n before tag r h
from_at n (Comment w ∷ before) tag r h = from_at n before tag r h
from_at n (Instruction target w ∷ before) tag r h = from_at n before tag r h
from_at n (Start other ∷ before) tag r h = from_at n before tag r h.2
from_at n (End until ∷ before) tag r h = from_at n before tag r h.1

pub order_at : (octets : List ℕ) (rows : List RowOf) (i j : ℕ) → Spells octets rows → HasTextAlone rows i → i < j → j < length rows → (row_at rows j).kind ≡ kinds.Element → (row_at rows i).body_until ≤ (row_at rows j).body_from
order_at octets rows i j e alone lt within element =
    let r = read_rows octets rows e in
    let p = place_of_row octets rows i r alone in
    let l = lies (take (mark_length octets) octets) (drop (mark_length octets) octets) p.made.tag p.until p.words p.made.before p.after (read_at octets rows i r p) in
    let front = (p.made.rows_then ++ added_by p.made.stack_then i p.made.tag p.adds.name p.adds.values) ++ p.texts in
    let rows2 = closed front i p.until in
    let long = length-append (p.made.rows_then ++ added_by p.made.stack_then i p.made.tag p.adds.name p.adds.values) p.texts in
    let more = length-append p.made.rows_then (added_by p.made.stack_then i p.made.tag p.adds.name p.adds.values) in
    let same_length : length rows ≡ length r.all = ap length r.closed_are ∙ closed_length r.all 0 0 in
    let last_is : (row_at rows i).last ≡ length front - 1 = ap (λ (t : RowOf). t.last) p.row_is in
    let behind : length rows2 ≤ j = past front rows2 (closed_length front i p.until) last_is (omega (arith, long, more)) in
    let below = below_more (length p.made.rows_then) (length rows2) p.made.stack_then.rows (omega (arith, long, more, closed_length front i p.until)) p.made.below in
    let within' : j < length r.all = omega (arith, within, same_length) in
    let same : node (row_at rows j) ≡ node (row_at r.all j) = ap (λ (t : List RowOf). node (row_at t j)) r.closed_are ∙ closed_node r.all 0 0 j within' in
    let m = made_at p.after p.made.stack_then rows2 r.all j p.rest (omega (arith, long, more, closed_length front i p.until)) p.small below behind within' (sym (ap (λ (t : RowOf). t.kind) same) ∙ element) in
    let t = tag_adds m.stack_then m.rows_then m.tag m.behind r.all m.rest in
    let row = element_row (parent_of m.stack_then) (length m.rows_then) t.name m.tag.from m.tag.body_from 0 m.tag.is_empty in
    let fields = fields_at (length m.rows_then) (scope m.stack_then m.tag) t.values in
    let kept_node = kept m.behind (stack_in m.stack_then (length m.rows_then) m.tag) (m.rows_then ++ (row ∷ fields)) r.all (length m.rows_then) (tag_rest m.stack_then m.rows_then m.tag m.behind r.all t m.rest) (omega (arith, length-append m.rows_then (row ∷ fields))) ∙ ap node (last_row m.rows_then fields row) in
    let at_j : node (row_at r.all j) ≡ node row = ap (λ (k : ℕ). node (row_at r.all k)) (sym m.number) ∙ kept_node in
    let body : (row_at rows j).body_from ≡ m.tag.body_from = ap (λ (u : RowOf). u.body_from) (same ∙ at_j) in
    let until : (row_at rows i).body_until ≡ p.until = ap (λ (u : RowOf). u.body_until) p.row_is in
    omega (arith, body, until, from_at p.until m.before m.tag m.behind (subst (AllFrom p.until) m.parts l.later))
  where
    past : (front rows2 : List RowOf) → length rows2 ≡ length front → (row_at rows i).last ≡ length front - 1 → 0 < length front → length rows2 ≤ j
    past front rows2 same last_is some = by (cases_lt (row_at rows i).last j)
      where
        by : ((row_at rows i).last < j) ⊎ (j ≤ (row_at rows i).last) → length rows2 ≤ j
        by (inl more) = omega (arith, more, same, last_is, some)
        by (inr inside) = absurd (false≢true (sym (ap is_plain_kind element) ∙ alone.alone j lt inside))
