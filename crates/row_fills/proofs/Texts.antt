-- Where the texts stand that were filled in, in octets and in rows.
use Rattle.std.proofs.Common.{◌≡◌, ℕ, ◌+◌, ◌-◌, ◌<◌, ◌≤◌, Bool, true, false, inl, inr, List, [], ◌∷◌, ◌++◌, length, take, drop, refl, sym, ap, ◌∙◌, arith, append-nil, append_assoc, length-append}
use Rattle.std.proofs.lemmas.Bool.{cases_lt, false≢true}
use Rattle.std.proofs.lemmas.List.{take-append-le, drop-append-le, length-take-le, length-drop}
use Rattle.xml_doc.specs.Rows.{RowOf}
use Rattle.xml_doc.specs.Shape.{row_at}
use Rattle.xml_doc.specs.declared.row.Kind.TheVariants.{Element}
use Rattle.xml_read.specs.Spelled.{Spells}
use Rattle.xml_spans.specs.Spans.{replaced, content_with, body_of}
use Rattle.row_spans.specs.Alike.{renumbered, IsRefilled}
use Rattle.row_spans.specs.RowSpans.{refilled, written_name}
use Rattle.row_spans.specs.TextAlone.{is_plain_kind, HasTextAlone}
use Rattle.row_spans.proofs.Order.{order_at}
use Rattle.row_spans.proofs.Places.{lies_at}
use Rattle.row_spans.proofs.Within.{within_at}
use Rattle.row_fills.specs.Fillings.{Filling, Stands, AllStand}
use Rattle.row_fills.proofs.Lasts as lasts

-- an element stands behind a text that stands alone
pub stands_behind : (rows : List RowOf) (i j : ℕ) → HasTextAlone rows i → i < j → (row_at rows j).kind ≡ Element → (row_at rows i).last < j
stands_behind rows i j alone lt e = elim (cases_lt (row_at rows i).last j) [
  | inl before ↦ before
  | inr inside ↦ absurd (false≢true (sym (ap is_plain_kind e) ∙ alone.alone j lt inside))
]

-- ---- octets

-- what is replaced in front of a place leaves what is behind it
pub replaced_in_front : (front rest : List ℕ) (from until : ℕ) (new : List ℕ) → from ≤ until → until ≤ length front → replaced (front ++ rest) from until new ≡ replaced front from until new ++ rest
replaced_in_front front rest from until new le far =
    ap (λ t. t ++ (new ++ drop until (front ++ rest))) (take-append-le from front rest (omega (arith, le, far)))
    ∙ ap (λ d. take from front ++ (new ++ d)) (drop-append-le until front rest far) ∙ regroup (take from front) new (drop until front) rest
  where
    regroup : (a b c d : List ℕ) → a ++ (b ++ (c ++ d)) ≡ (a ++ (b ++ c)) ++ d
    regroup a b c d = simp append_assoc

pub replaced_long : (front : List ℕ) (from until : ℕ) (new : List ℕ) → from ≤ until → until ≤ length front → length (replaced front from until new) + until ≡ length front + from + length new
replaced_long front from until new le far =
    let whole = length-append (take from front) (new ++ drop until front) in
    let more = length-append new (drop until front) in
    let first = length-take-le from front (omega (arith, le, far)) in
    let last = length-drop until front in
    omega (arith, whole, more, first, last, far)

-- what an empty-element tag becomes in front of the text and behind it
abbrev opening : Bool → List ℕ
opening false = []
opening true = 62 ∷ []

abbrev closing : Bool → List ℕ → List ℕ
closing false name = []
closing true name = 60 ∷ (47 ∷ (name ++ (62 ∷ [])))

content_parts : (empty : Bool) (name w : List ℕ) → content_with empty name w ≡ opening empty ++ (w ++ closing empty name)
content_parts false name w = sym (append-nil w)
content_parts true name w = refl

-- what stands in front of an element's new text and behind it, whatever the text is
abbrev pub front_of : List ℕ → RowOf → List ℕ
front_of octets r = take r.body_from octets ++ opening r.empty_tag

abbrev pub back_of : List ℕ → RowOf → List ℕ
back_of octets r = closing r.empty_tag (written_name r) ++ drop r.body_until octets

pub refilled_parts : (octets : List ℕ) (r : RowOf) (w : List ℕ) → refilled octets r w ≡ front_of octets r ++ (w ++ back_of octets r)
refilled_parts octets r w =
    ap (λ c. take r.body_from octets ++ (c ++ drop r.body_until octets)) (content_parts r.empty_tag (written_name r) w)
    ∙ regroup (take r.body_from octets) (opening r.empty_tag) w (closing r.empty_tag (written_name r)) (drop r.body_until octets)
  where
    regroup : (a b c d e : List ℕ) → a ++ ((b ++ (c ++ d)) ++ e) ≡ (a ++ b) ++ (c ++ (d ++ e))
    regroup a b c d e = simp append_assoc

pub front_long : (octets : List ℕ) (r : RowOf) → r.body_from ≤ length octets → length (front_of octets r) ≡ body_of r.empty_tag r.body_from
front_long octets r le = by r.empty_tag (take r.body_from octets) ∙ ap (body_of r.empty_tag) (length-take-le r.body_from octets le)
  where
    by : (empty : Bool) (t : List ℕ) → length (t ++ opening empty) ≡ body_of empty (length t)
    by false t = ap length (append-nil t)
    by true t = length-append t (62 ∷ [])

-- ---- rows

module _ (octets : List ℕ) (rows : List RowOf) (i : ℕ) (w : List ℕ) (spells : Spells octets rows) (alone : HasTextAlone rows i) (r : IsRefilled octets rows i w) where
  -- the element that is filled
  pub own_stands : Stands (refilled octets (row_at rows i) w) r.others i w
  own_stands = record {
    alone = r.alone;
    tagged = ap (λ (t : RowOf). t.empty_tag) r.row;
    front = front_of octets (row_at rows i);
    back = back_of octets (row_at rows i);
    parts = refilled_parts octets (row_at rows i) w;
    begins = ap (λ (t : RowOf). t.body_from) r.row ∙ sym (front_long octets (row_at rows i) (within_at octets rows i spells alone.within).0);
    ends = ap (λ (t : RowOf). t.body_until) r.row ∙ ap (λ n. n + length w) (sym (ap (λ (t : RowOf). t.body_from) r.row));
  }

  -- a place behind it, and what stands in front of that place
  pub record Later (k : ℕ) (front : List ℕ) : Type 0 where
    pub begins : (row_at r.others (renumbered r.old r.new k)).body_from ≡ length (refilled front (row_at rows i) w)
    pub parts : (rest : List ℕ) → refilled (front ++ rest) (row_at rows i) w ≡ refilled front (row_at rows i) w ++ rest

  pub later : (k : ℕ) (front : List ℕ) → i < k → HasTextAlone rows k → (row_at rows k).body_from ≡ length front → Later k front
  later k front less there begins =
      let row = row_at rows i in
      let new = content_with row.empty_tag (written_name row) w in
      let stops = stands_behind rows i k alone less there.element in
      let m = r.moved k (omega (arith, stops, r.ends)) there in
      let order = order_at octets rows i k spells alone less there.within there.element in
      let lies = lies_at octets rows i spells alone in
      let reach : row.body_from ≤ row.body_until = omega (arith, lies.ends) in
      let far : row.body_until ≤ length front = omega (arith, order, begins) in
      let long = replaced_long front row.body_from row.body_until new reach far in
      let goes : ((row_at rows k).body_from + (row.body_from + length new)) - row.body_until ≡ length (refilled front row w) = omega (arith, begins, long, far) in
      record { begins = m.body_from ∙ goes; parts = λ rest. replaced_in_front front rest row.body_from row.body_until new reach far }

  -- a text behind it
  pub later_stands : (k : ℕ) (v : List ℕ) → i < k → Stands octets rows k v → Stands (refilled octets (row_at rows i) w) r.others (renumbered r.old r.new k) v
  later_stands k v less s =
      let row = row_at rows i in
      let new = content_with row.empty_tag (written_name row) w in
      let stops = stands_behind rows i k alone less s.alone.element in
      let from : r.old ≤ k = omega (arith, stops, r.ends) in
      let m = r.moved k from s.alone in
      let l = later k s.front less s.alone s.begins in
      let order = order_at octets rows i k spells alone less s.alone.within s.alone.element in
      let begins : (row_at r.others (renumbered r.old r.new k)).body_from ≡ ((row_at rows k).body_from + (row.body_from + length new)) - row.body_until = m.body_from in
      let ends : ((row_at rows k).body_until + (row.body_from + length new)) - row.body_until ≡ (row_at r.others (renumbered r.old r.new k)).body_from + length v = omega (arith, begins, s.ends, order) in
      record {
        alone = r.alone_behind k from s.alone;
        tagged = m.empty_tag ∙ s.tagged;
        front = refilled s.front row w;
        back = s.back;
        parts = ap (λ o. refilled o row w) s.parts ∙ l.parts (v ++ s.back);
        begins = l.begins;
        ends = m.body_until ∙ ends;
      }

  -- all texts behind it
  pub later_stand : (number : ℕ → ℕ) (first now : ℕ) (fs : List Filling) → i < first → ((k : ℕ) → first ≤ k → r.old ≤ k → now ≤ renumbered r.old r.new k) → AllStand octets rows number first fs
      → AllStand (refilled octets (row_at rows i) w) r.others (λ x. renumbered r.old r.new (number x)) now fs
  later_stand number first now [] less low all = tt
  later_stand number first now (f ∷ fs) less low all = (
    low (number f.row) all.0 from,
    later_stands (number f.row) f.text (omega (arith, less, all.0)) all.1,
    later_stand number (number f.row + 1) (renumbered r.old r.new (number f.row) + 1) fs (omega (arith, less, all.0))
        (λ k le far. let here = lasts.renumbered_behind r.old r.new (number f.row) from in let there = lasts.renumbered_behind r.old r.new k far in omega (arith, here, there, le, from)) all.2,
  )
    where
      from : r.old ≤ number f.row
      from = let stops = stands_behind rows i (number f.row) alone (omega (arith, less, all.0)) all.1.alone.element in omega (arith, stops, r.ends)
