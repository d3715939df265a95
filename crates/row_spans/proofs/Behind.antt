-- Elements that have text alone, in a document with another text in place of that of an element in front of them.
use Rattle.std.proofs.Common.{◌≡◌, ◌≢◌, ℕ, ◌+◌, ◌-◌, ◌<◌, ◌≤◌, true, inl, inr, ◌⊎◌, List, [], ◌∷◌, length, refl, sym, ap, ◌∙◌, arith}
use Rattle.std.proofs.lemmas.Bool.{cases_lt}
use Rattle.xml_doc.specs.Kinds.{is_field}
use Rattle.xml_doc.specs.Rows.{RowOf}
use Rattle.xml_doc.specs.Shape.{row_at, IsWellShaped}
use Rattle.xml_doc.specs.declared.row.Kind.TheVariants as kinds
use Rattle.xml_doc.proofs.ShapeLemmas.{last_below}
use Rattle.xml_read.specs.Spelled.{Spells}
use Rattle.row_spans.specs.Alike.{renumbered, AreAlike, IsAlike, IsMoved, IsTextOf, text_count}
use Rattle.row_spans.specs.TextAlone.{is_plain_kind, HasTextAlone}
use Rattle.row_spans.proofs.Children.{field_plain}
use Rattle.row_spans.proofs.Places.{lies_at}
use Rattle.row_spans.proofs.Steps.{high_sum, IsCarried}

not_nil : (c : ℕ) (v : List ℕ) → ◌≡◌ {A = List ℕ} (c ∷ v) [] → ⊥
not_nil c v e = cc

module _ (rows others : List RowOf) (below old new : ℕ) (alike : AreAlike below old new rows others) (starts : below ≤ old) (grown : below ≤ new) where
  -- the element itself
  pub alone_again : (i : ℕ) (w : List ℕ) → (row_at rows i).kind ≡ kinds.Element → i < below → new ≡ below + text_count w → (w ≢ [] → IsTextOf others below i w) → (row_at others i).last ≡ new - 1
      → ((k : ℕ) → i < k → k < below → is_field (row_at rows k).kind ≡ true) → HasTextAlone others i
  alone_again i w element inside grows stands last own = record {
    within = omega (arith, inside, grown, alike.count, alike.enough);
    element = (alike.before i inside).kind ∙ element;
    alone = λ k lt le. by k lt (omega (arith, le, last, inside, grown)) (cases_lt k below);
  }
    where
      fresh : (v : List ℕ) → w ≡ v → (k : ℕ) → below ≤ k → k < new → is_plain_kind (row_at others k).kind ≡ true
      fresh [] is k le lt = absurd (omega (arith, le, lt, grows, ap text_count is))
      fresh (c ∷ v) is k le lt =
          let here : below ≡ k = omega (arith, le, lt, grows, ap text_count is) in
          let text = stands (λ none. not_nil c v (sym is ∙ none)) in
          ap (λ j. is_plain_kind (row_at others j).kind) (sym here) ∙ ap is_plain_kind text.kind

      by : (k : ℕ) → i < k → k < new → ((k < below) ⊎ (below ≤ k)) → is_plain_kind (row_at others k).kind ≡ true
      by k lt le (inl field) = ap is_plain_kind (alike.before k field).kind ∙ field_plain (row_at rows k).kind (own k lt field)
      by k lt le (inr past) = fresh w refl k past le

  -- an element behind it
  pub alone_later : IsWellShaped rows → 0 < below → (k : ℕ) → old ≤ k → HasTextAlone rows k → HasTextAlone others (renumbered old new k)
  alone_later shape some k from here = record {
    within = omega (arith, sum, here.within, alike.count);
    element = at_k.kind ∙ here.element;
    alone = by;
  }
    where
      sum : renumbered old new k + old ≡ k + new
      sum = high_sum below old new some starts grown k from

      at_k : IsAlike (renumbered old new) below (row_at rows k) (row_at others (renumbered old new k))
      at_k = alike.behind k from here.within

      ends : (row_at others (renumbered old new k)).last + 1 ≡ renumbered old new ((row_at rows k).last + 1)
      ends = elim at_k.last [
        | inl moved ↦ moved
        | inr still ↦ let reach = shape.nesting.last_from k here.within in absurd (omega (arith, reach, still.0, from, starts))
      ]

      by : (j : ℕ) → renumbered old new k < j → j ≤ (row_at others (renumbered old new k)).last → is_plain_kind (row_at others j).kind ≡ true
      by j lt le =
          let reach = shape.nesting.last_from k here.within in
          let last_sum = high_sum below old new some starts grown ((row_at rows k).last + 1) (omega (arith, reach, from)) in
          let m : ℕ = (j + old) - new in
          let m_from : old ≤ m = omega (arith, sum, lt, from) in
          let m_sum = high_sum below old new some starts grown m m_from in
          let is : renumbered old new m ≡ j = omega (arith, m_sum, sum, lt, from) in
          let within : m < length rows = omega (arith, le, ends, last_sum, sum, lt, last_below rows shape k here.within) in
          ap (λ x. is_plain_kind (row_at others x).kind) (sym is) ∙ ap is_plain_kind (alike.behind m m_from within).kind
          ∙ here.alone m (omega (arith, sum, lt, from)) (omega (arith, le, ends, last_sum, sum, lt, from))

-- where it is closed in both documents, its end moves too
pub moves_with : (g : ℕ → ℕ) (octets made : List ℕ) (rows others : List RowOf) (k j : ℕ) → Spells octets rows → Spells made others → HasTextAlone rows k → HasTextAlone others j
    → IsCarried g (row_at rows k) (row_at others j) → IsMoved g (row_at rows k) (row_at others j)
moves_with g octets made rows others k j spells spells' here there c = record { tag_from = begins.0; body_from = begins.1; body_until = by c.ends; empty_tag = c.empty_tag }
  where
    begins : ((row_at others j).tag_from ≡ g (row_at rows k).tag_from) × ((row_at others j).body_from ≡ g (row_at rows k).body_from)
    begins = c.begins here.element

    by : (((row_at rows k).body_until ≡ 0) × ((row_at others j).body_until ≡ 0)) ⊎ ((row_at others j).body_until ≡ g (row_at rows k).body_until) → (row_at others j).body_until ≡ g (row_at rows k).body_until
    by (inr moved) = moved
    by (inl none) =
        let l = lies_at octets rows k spells here in
        let l' = lies_at made others j spells' there in
        let first : (row_at rows k).body_from ≡ (row_at rows k).body_until = omega (arith, l.ends, none.0) in
        let first' : (row_at others j).body_until ≡ (row_at others j).body_from = omega (arith, l'.ends, none.1) in
        first' ∙ begins.1 ∙ ap g first
