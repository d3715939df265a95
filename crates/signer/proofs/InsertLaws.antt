-- The text of a template, and the place where it is put.
use Rattle.std.proofs.Common.{◌≡◌, ◌∙◌, ℕ, ◌≤◌, Bool, true, false, List, [], ◌∷◌, ◌++◌, map, Some, Result, Ok, Err, ap, sym, append_assoc, append-nil}
use Rattle.std.specs.Prelude.{IfOk, Option, option_map, slice_get, if◌then◌else◌}
use Rattle.std.proofs.lemmas.List.{map-append}
use Rattle.std.proofs.lemmas.Option.{get_or_from_slice_get}
use Rattle.xml_doc.specs.Rows.{RowOf, row_of}
use Rattle.xml_doc.specs.declared.row.Row.{Row}
use Rattle.xml_doc.specs.Shape.{no_row, row_at}
use Rattle.row_spans.specs.RowSpans.{Span}
use Rattle.row_spans.specs.Seen.{seen_span}
use Rattle.row_spans.specs.declared.write.Span as code
use Rattle.row_spans.specs.Code.RowSpans.{span_of}
use Rattle.signer.specs.Template.{insertion}

join : {a a' b b' : List ℕ} → a ≡ a' → b ≡ b' → a ++ b ≡ a' ++ b'
join {a} {a'} {b} {b'} e f = ap (λ (t : List ℕ). t ++ b) e ∙ ap (λ (t : List ℕ). a' ++ t) f

left4 : (a b c d : List ℕ) → a ++ (b ++ (c ++ d)) ≡ ((a ++ b) ++ c) ++ d
left4 a b c d = sym (append_assoc (a ++ b) c d ∙ append_assoc a b (c ++ d))

left5 : (a b c d e : List ℕ) → a ++ (b ++ (c ++ (d ++ e))) ≡ (((a ++ b) ++ c) ++ d) ++ e
left5 a b c d e = left4 a b c (d ++ e) ∙ sym (append_assoc ((a ++ b) ++ c) d e)

left7 : (a b c d e f g : List ℕ) → a ++ (b ++ (c ++ (d ++ (e ++ (f ++ g))))) ≡ (((((a ++ b) ++ c) ++ d) ++ e) ++ f) ++ g
left7 a b c d e f g = left5 a b c d (e ++ (f ++ g)) ∙ left4 (((a ++ b) ++ c) ++ d) e f g

-- pieces one behind the other are these
pub parts4 : {a b c d a' b' c' d' : List ℕ} → a ≡ a' → b ≡ b' → c ≡ c' → d ≡ d' → a ++ (b ++ (c ++ (d ++ []))) ≡ ((a' ++ b') ++ c') ++ d'
parts4 {a} {b} {c} {d} {a'} {b'} {c'} {d'} p q r s = join p (join q (join r (append-nil d ∙ s))) ∙ left4 a' b' c' d'

pub parts5 : {a b c d e a' b' c' d' e' : List ℕ} → a ≡ a' → b ≡ b' → c ≡ c' → d ≡ d' → e ≡ e' → a ++ (b ++ (c ++ (d ++ (e ++ [])))) ≡ (((a' ++ b') ++ c') ++ d') ++ e'
parts5 {a} {b} {c} {d} {e} {a'} {b'} {c'} {d'} {e'} p q r s t = join p (join q (join r (join s (append-nil e ∙ t)))) ∙ left5 a' b' c' d' e'

pub parts7 : {a b c d e f g a' b' c' d' e' f' g' : List ℕ} → a ≡ a' → b ≡ b' → c ≡ c' → d ≡ d' → e ≡ e' → f ≡ f' → g ≡ g'
    → a ++ (b ++ (c ++ (d ++ (e ++ (f ++ (g ++ [])))))) ≡ (((((a' ++ b') ++ c') ++ d') ++ e') ++ f') ++ g'
parts7 {a} {b} {c} {d} {e} {f} {g} {a'} {b'} {c'} {d'} {e'} {f'} {g'} p q r s t u v =
    join p (join q (join r (join s (join t (join u (append-nil g ∙ v)))))) ∙ left7 a' b' c' d' e' f' g'

-- where something is given, another word for it is too
pub ok_by : {A E : Type 0} (view : A → List ℕ) (r : Result A E) (xs ys : List ℕ) → IfOk r (λ o. view o ≡ xs) → xs ≡ ys → IfOk r (λ o. view o ≡ ys)
ok_by view (Ok o) xs ys e f = e ∙ f
ok_by view (Err cause) xs ys e f = tt

-- the row of that number
row_is : (rows : List RowOf) (k : ℕ) (r : RowOf) → Some r ≡ slice_get rows k → r ≡ row_at rows k
row_is rows k r e = sym (get_or_from_slice_get rows k r no_row (sym e))

pub row_told : (rows : List RowOf) (k : ℕ) (o : Option Row) (r : Row) → o ≡ Some r → option_map row_of o ≡ slice_get rows k → row_of r ≡ row_at rows k
row_told rows k o r e f = row_is rows k (row_of r) (ap (option_map row_of) (sym e) ∙ f)

-- one more span
pub span_pushed : (old new : List code.Span) (s : code.Span) (t : Span) → new ≡ old ++ s ∷ [] → seen_span s ≡ t → map seen_span new ≡ map seen_span old ++ t ∷ []
span_pushed old new s t e f = ap (map seen_span) e ∙ map-append seen_span old (s ∷ []) ∙ ap (λ (u : Span). map seen_span old ++ u ∷ []) f

-- the place lies within the octets
pub insertion_within : (r : RowOf) (text : List ℕ) (n : ℕ) → r.body_from ≤ n → r.body_until ≤ n → ((insertion r text).from ≤ n) × ((insertion r text).until ≤ n)
insertion_within r text n a b = go r.empty_tag
  where
    go : (empty : Bool) → ((if empty then span_of r text else record { from = r.body_until; until = r.body_until; new = text }).from ≤ n)
        × ((if empty then span_of r text else record { from = r.body_until; until = r.body_until; new = text }).until ≤ n)
    go true = (a, b)
    go false = (b, b)
