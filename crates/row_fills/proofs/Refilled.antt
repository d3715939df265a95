-- Filling in what stands there changes nothing, and with another last text it changes that text alone.
use Rattle.std.proofs.Common.{◌≡◌, ℕ, ◌+◌, ◌≤◌, List, [], ◌∷◌, ◌++◌, length, drop, refl, sym, ap, ◌∙◌, arith, append_assoc, length-append}
use Rattle.std.proofs.lemmas.List.{append_cancel_right, drop_at, take_at}
use Rattle.xml_doc.specs.Rows.{RowOf}
use Rattle.xml_doc.specs.Shape.{row_at}
use Rattle.xml_read.specs.Spelled.{Spells}
use Rattle.xml_spans.specs.Spans.{replaced, content_with}
use Rattle.row_spans.specs.RowSpans.{refilled, written_name}
use Rattle.row_spans.proofs.Order.{order_at}
use Rattle.row_fills.specs.Fillings.{Filling, AreFilledAlike, AllStand, Stands, filled_again, filled_in, filling}
use Rattle.row_fills.proofs.Texts.{replaced_in_front}
use Rattle.row_fills.proofs.Together.{last_stands}

-- other octets in place of some
replaced_here : (front old back new : List ℕ) (from until : ℕ) → from ≡ length front → until ≡ from + length old → replaced (front ++ (old ++ back)) from until new ≡ front ++ (new ++ back)
replaced_here front old back new from until begins ends =
    let both : length (front ++ old) ≡ until = omega (arith, length-append front old, begins, ends) in
    ap (λ t. t ++ (new ++ drop until (front ++ (old ++ back)))) (take_at front (old ++ back) from (sym begins))
    ∙ ap (λ t. front ++ (new ++ drop until t)) (regroup front old back) ∙ ap (λ t. front ++ (new ++ t)) (drop_at (front ++ old) back until both)
  where
    regroup : (a b c : List ℕ) → a ++ (b ++ c) ≡ (a ++ b) ++ c
    regroup a b c = simp append_assoc

module _ (octets : List ℕ) (rows : List RowOf) where
  -- another text in place of one that stands there
  refilled_at : (k : ℕ) (old new front back : List ℕ) → Stands octets rows k old → octets ≡ front ++ (old ++ back) → (row_at rows k).body_from ≡ length front → refilled octets (row_at rows k) new ≡ front ++ (new ++ back)
  refilled_at k old new front back s parts begins =
      let r = row_at rows k in
      ap (λ e. replaced octets r.body_from r.body_until (content_with e (written_name r) new)) s.tagged ∙ ap (λ o. replaced o r.body_from r.body_until new) parts
      ∙ replaced_here front old back new r.body_from r.body_until begins s.ends

  refilled_same : (k : ℕ) (w : List ℕ) → Stands octets rows k w → refilled octets (row_at rows k) w ≡ octets
  refilled_same k w s = refilled_at k w w s.front s.back s s.parts s.begins ∙ sym s.parts

  -- the texts that stand there
  pub all_refilled : (number : ℕ → ℕ) (from : ℕ) (fs : List Filling) → AllStand octets rows number from fs → filled_in octets rows (filled_again number fs) ≡ octets
  all_refilled number from [] all = refl
  all_refilled number from (f ∷ fs) all = ap (λ o. refilled o (row_at rows (number f.row)) f.text) (all_refilled number (number f.row + 1) fs all.2) ∙ refilled_same (number f.row) f.text all.1

  last_from : (number : ℕ → ℕ) (from : ℕ) (fs : List Filling) (w : Filling) → AllStand octets rows number from (fs ++ w ∷ []) → from ≤ number w.row
  last_from number from [] w all = all.0
  last_from number from (f ∷ fs) w all = let more = last_from number (number f.row + 1) fs w all.2 in omega (arith, more, all.0)

  -- a text that stands there, in octets that begin alike beyond it
  refilled_alike : (k : ℕ) (w front rest other : List ℕ) → Stands octets rows k w → (row_at rows k).body_until ≤ length front → octets ≡ front ++ rest → refilled (front ++ other) (row_at rows k) w ≡ front ++ other
  refilled_alike k w front rest other s far parts =
      let r = row_at rows k in
      let new = content_with r.empty_tag (written_name r) w in
      let reach : r.body_from ≤ r.body_until = omega (arith, s.ends) in
      let same : replaced front r.body_from r.body_until new ++ rest ≡ front ++ rest = sym (replaced_in_front front rest r.body_from r.body_until new reach far) ∙ ap (λ o. refilled o r w) (sym parts) ∙ refilled_same k w s ∙ parts in
      replaced_in_front front other r.body_from r.body_until new reach far ∙ ap (λ t. t ++ other) (append_cancel_right (replaced front r.body_from r.body_until new) front rest same)

  -- the texts that stand there, and another last one
  last_refilled : (number : ℕ → ℕ) (from : ℕ) (fs : List Filling) (row : ℕ) (t o t' o' ahead back : List ℕ) → Spells octets rows → AllStand octets rows number from (fs ++ filling row t' o' ∷ []) → octets ≡ ahead ++ (t' ++ back)
      → (row_at rows (number row)).body_from ≡ length ahead → filled_in octets rows (filled_again number (fs ++ filling row t o ∷ [])) ≡ ahead ++ (t ++ back)
  last_refilled number from [] row t o t' o' ahead back spells all parts begins = refilled_at (number row) t' t ahead back all.1 parts begins
  last_refilled number from (f ∷ fs) row t o t' o' ahead back spells all parts begins =
      let w = filling row t' o' in
      let less = last_from number (number f.row + 1) fs w all.2 in
      let last = last_stands octets rows number (number f.row + 1) fs w all.2 in
      let order = order_at octets rows (number f.row) (number row) spells all.1.alone (omega (arith, less)) last.alone.within last.alone.element in
      ap (λ x. refilled x (row_at rows (number f.row)) f.text) (last_refilled number (number f.row + 1) fs row t o t' o' ahead back spells all.2 parts begins)
      ∙ refilled_alike (number f.row) f.text ahead (t' ++ back) (t ++ back) all.1 (omega (arith, order, begins)) parts

-- of two documents that differ in the last text alone, the one is the other with its own texts filled in
pub other_refilled : (octets : List ℕ) (rows : List RowOf) (first : ℕ) (fs : List Filling) (row : ℕ) (t o t' o' : List ℕ) (p : AreFilledAlike octets rows first fs (filling row t o) (filling row t' o'))
    → filled_in (filled_in octets rows (fs ++ filling row t' o' ∷ [])) p.other.others (filled_again p.other.number (fs ++ filling row t o ∷ [])) ≡ filled_in octets rows (fs ++ filling row t o ∷ [])
other_refilled octets rows first fs row t o t' o' p =
    last_refilled (filled_in octets rows (fs ++ filling row t' o' ∷ [])) p.other.others p.other.number first fs row t o t' o' p.ahead p.back p.other.spells p.other.texts p.other_parts
    (ap (λ n. (row_at p.other.others n).body_from) p.in_other ∙ p.text_from)
    ∙ sym p.one_parts
