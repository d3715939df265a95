-- The first occurrence of a mark, by characters and by octets.
use Rattle.std.proofs.Common.{◌≡◌, refl, ap, sym, subst, ◌∙◌, ◌++◌, ℕ, suc, ◌+◌, ◌<◌, ◌≤◌, List, [], ◌∷◌, length, take, drop, Bool, true, false, Some, None, arith, inl, inr}
use Rattle.std.specs.Prelude.{◌==◌, option_map, encode_utf8_all, is_some}
use Rattle.std.specs.Str.{chars, IsUtf8}
use Rattle.std.specs.Str.Pattern.{FindsText, LacksTextAt}
use Rattle.std.proofs.lemmas.Bool.{and_parts, cases_lt, eq-eqb, eqb-true}
use Rattle.std.proofs.lemmas.Str.{encodes-append, encodes-chars, chars-append, length-le-encodes}
use Rattle.std.proofs.lemmas.List.{length-append, take-append-drop, take-append-le, length-drop}
use Rattle.std.proofs.Math.Seq.{take-append_seam, drop-append_seam, drop-append-add}
use Rattle.xpath_value.specs.Texts.{begins_with, first_occurrence, before_place, after_place, substring_before_of, substring_after_of}

-- a text begins with a mark just where the mark stands at its front
begins_at_front : (mark ys : List ℕ) → begins_with mark (mark ++ ys) ≡ true
unfolding begins_with
begins_at_front [] ys = refl
begins_at_front (m ∷ ms) ys = rw (eq-eqb m m refl) (begins_at_front ms ys)

front_begins : (mark text : List ℕ) → begins_with mark text ≡ true → text ≡ mark ++ drop (length mark) text
unfolding begins_with
front_begins [] text e = refl
front_begins (m ∷ ms) [] e = absurd (cc)
front_begins (m ∷ ms) (c ∷ cs) e =
    let p : ((m == c) ≡ true) × (begins_with ms cs ≡ true) = and_parts (m == c) (begins_with ms cs) e in
    ap (λ (t : List ℕ). c ∷ t) (front_begins ms cs p.1) ∙ ap (λ (d : ℕ). d ∷ ms ++ drop (length ms) cs) (sym (eqb-true m c p.0))

octets_of_front : (text mark ys : List ℕ) → IsUtf8 text → IsUtf8 mark → chars text ≡ chars mark ++ ys → text ≡ mark ++ encode_utf8_all ys
octets_of_front text mark ys u v e =
    sym (encodes-chars text u) ∙ ap encode_utf8_all e ∙ encodes-append (chars mark) ys ∙ ap (λ (t : List ℕ). t ++ encode_utf8_all ys) (encodes-chars mark v)

-- octets that begin with a mark are characters that do
pub begins : (text mark : List ℕ) → IsUtf8 text → IsUtf8 mark → (r : Bool) → (r ≡ true → text ≡ mark ++ drop (length mark) text)
    → ((rest : List ℕ) → text ≡ mark ++ rest → r ≡ true) → r ≡ begins_with (chars mark) (chars text)
begins text mark u v true is only =
    let split : chars text ≡ chars mark ++ chars (drop (length mark) text) = ap chars (is refl) ∙ chars-append mark (drop (length mark) text) v in
    sym (ap (begins_with (chars mark)) split ∙ begins_at_front (chars mark) (chars (drop (length mark) text)))
begins text mark u v false is only = elim (begins_with (chars mark) (chars text)) as (λ b. begins_with (chars mark) (chars text) ≡ b → false ≡ b) [
  | true ↦ λ e.
      let rest = drop (length (chars mark)) (chars text) in
      only (encode_utf8_all rest) (octets_of_front text mark rest u v (front_begins (chars mark) (chars text) e))
  | false ↦ λ e. refl
] refl

-- the mark stands nowhere in the text
abbrev pub Lacks : List ℕ → List ℕ → Type 0
Lacks mark text = (xs ys : List ℕ) → text ≡ xs ++ (mark ++ ys) → ⊥

-- no occurrence of the mark is before that place
abbrev pub NoneBefore : List ℕ → List ℕ → ℕ → Type 0
NoneBefore mark text place = (xs ys : List ℕ) → text ≡ xs ++ (mark ++ ys) → place ≤ length xs

no_front : (mark text : List ℕ) → ((ys : List ℕ) → text ≡ mark ++ ys → ⊥) → begins_with mark text ≡ false
no_front mark text never = elim (begins_with mark text) as (λ b. begins_with mark text ≡ b → b ≡ false) [
  | true ↦ λ e. absurd (never _ (front_begins mark text e))
  | false ↦ λ e. refl
] refl

pub occurs_nowhere : (mark text : List ℕ) → Lacks mark text → first_occurrence mark text ≡ None
unfolding first_occurrence
occurs_nowhere mark [] never = rw (no_front mark [] (λ ys e. never [] ys e)) refl
occurs_nowhere mark (c ∷ cs) never =
    rw (no_front mark (c ∷ cs) (λ ys e. never [] ys e))
    (ap (option_map suc) (occurs_nowhere mark cs (λ xs ys e. never (c ∷ xs) ys (ap (λ (t : List ℕ). c ∷ t) e))))

starts_here : (mark text : List ℕ) → begins_with mark text ≡ true → first_occurrence mark text ≡ Some 0
unfolding first_occurrence
starts_here mark [] e = rw e refl
starts_here mark (c ∷ cs) e = rw e refl

pub occurs_first : (mark before after : List ℕ) → NoneBefore mark (before ++ (mark ++ after)) (length before) → first_occurrence mark (before ++ (mark ++ after)) ≡ Some (length before)
unfolding first_occurrence
occurs_first mark [] after first = starts_here mark (mark ++ after) (begins_at_front mark after)
occurs_first mark (c ∷ cs) after first =
    rw (no_front mark (c ∷ (cs ++ (mark ++ after))) (λ ys e. omega (arith, first [] ys e)))
    (ap (option_map suc) (occurs_first mark cs after (λ xs ys e. omega (arith, first (c ∷ xs) ys (ap (λ (t : List ℕ). c ∷ t) e)))))

-- from octets to characters
octets_of : (text mark xs ys : List ℕ) → IsUtf8 text → IsUtf8 mark → chars text ≡ xs ++ (chars mark ++ ys) → text ≡ encode_utf8_all xs ++ (mark ++ encode_utf8_all ys)
octets_of text mark xs ys u v e =
    sym (encodes-chars text u) ∙ ap encode_utf8_all e ∙ encodes-append xs (chars mark ++ ys)
    ∙ ap (λ (t : List ℕ). encode_utf8_all xs ++ t) (encodes-append (chars mark) ys ∙ ap (λ (t : List ℕ). t ++ encode_utf8_all ys) (encodes-chars mark v))

at_octets : (text mark front back : List ℕ) → text ≡ front ++ (mark ++ back) → LacksTextAt mark text (length front) → ⊥
at_octets text mark front back e never = never back (ap (drop (length front)) e ∙ drop-append_seam front (mark ++ back))

pub lacks_chars : (text mark : List ℕ) → IsUtf8 text → IsUtf8 mark → ((i : ℕ) → i ≤ length text → LacksTextAt mark text i) → Lacks (chars mark) (chars text)
lacks_chars text mark u v never xs ys e =
    let o : text ≡ encode_utf8_all xs ++ (mark ++ encode_utf8_all ys) = octets_of text mark xs ys u v e in
    at_octets text mark (encode_utf8_all xs) (encode_utf8_all ys) o
    (never (length (encode_utf8_all xs)) (omega (arith, ap length o, length-append (encode_utf8_all xs) (mark ++ encode_utf8_all ys))))

chars_around : (text mark before after : List ℕ) → IsUtf8 mark → IsUtf8 before → text ≡ before ++ (mark ++ after) → chars text ≡ chars before ++ (chars mark ++ chars after)
chars_around text mark before after v w e =
    ap chars e ∙ chars-append before (mark ++ after) w ∙ ap (λ (t : List ℕ). chars before ++ t) (chars-append mark after v)

-- a shorter front of characters is a shorter front of octets
shorter_octets : (before xs rest ys : List ℕ) → IsUtf8 before → chars before ++ rest ≡ xs ++ ys → length xs < length (chars before) → length (encode_utf8_all xs) < length before
shorter_octets before xs rest ys w e h =
    let same : take (length xs) (chars before) ≡ xs =
    sym (take-append-le (length xs) (chars before) rest (omega arith)) ∙ ap (take (length xs)) e ∙ take-append_seam xs ys in
    let more : List ℕ = drop (length xs) (chars before) in
    let parts : chars before ≡ xs ++ more = sym (take-append-drop (length xs) (chars before)) ∙ ap (λ (t : List ℕ). t ++ more) same in
    let octets : before ≡ encode_utf8_all xs ++ encode_utf8_all more = sym (encodes-chars before w) ∙ ap encode_utf8_all parts ∙ encodes-append xs more in
    omega (arith, ap length octets, length-append (encode_utf8_all xs) (encode_utf8_all more), length-le-encodes more, length-drop (length xs) (chars before))

pub none_before_chars : (text mark before after : List ℕ) → IsUtf8 text → IsUtf8 mark → IsUtf8 before → text ≡ before ++ (mark ++ after)
    → ((i : ℕ) → i < length before → LacksTextAt mark text i) → NoneBefore (chars mark) (chars text) (length (chars before))
none_before_chars text mark before after u v w e never xs ys f = elim (cases_lt (length xs) (length (chars before))) [
  | inl h ↦
      let o : text ≡ encode_utf8_all xs ++ (mark ++ encode_utf8_all ys) = octets_of text mark xs ys u v f in
      let k : length (encode_utf8_all xs) < length before =
      shorter_octets before xs (chars mark ++ chars after) (chars mark ++ ys) w (sym (chars_around text mark before after v w e) ∙ f) h in
      absurd (at_octets text mark (encode_utf8_all xs) (encode_utf8_all ys) o (never (length (encode_utf8_all xs)) k))
  | inr h ↦ h
]

-- the mark stands there, and no earlier
pub record StandsFirst (text mark before after : List ℕ) : Type 0 where
  pub joined : text ≡ before ++ (mark ++ after)
  pub none : (i : ℕ) → i < length before → LacksTextAt mark text i

place_of : (text mark before after : List ℕ) → IsUtf8 text → IsUtf8 mark → IsUtf8 before → StandsFirst text mark before after
    → first_occurrence (chars mark) (chars text) ≡ Some (length (chars before))
place_of text mark before after u v w h =
    let around : chars text ≡ chars before ++ (chars mark ++ chars after) = chars_around text mark before after v w h.joined in
    let first : NoneBefore (chars mark) (chars text) (length (chars before)) = none_before_chars text mark before after u v w h.joined h.none in
    ap (first_occurrence (chars mark)) around
    ∙ occurs_first (chars mark) (chars before) (chars after) (subst (λ (t : List ℕ). NoneBefore (chars mark) t (length (chars before))) around first)

pub before_is : (text mark before after : List ℕ) → IsUtf8 text → IsUtf8 mark → IsUtf8 before → StandsFirst text mark before after
    → chars before ≡ substring_before_of (chars text) (chars mark)
before_is text mark before after u v w h =
    sym (
    ap (before_place (chars text)) (place_of text mark before after u v w h)
    ∙ ap (take (length (chars before))) (chars_around text mark before after v w h.joined)
    ∙ take-append_seam (chars before) (chars mark ++ chars after))

pub after_is : (text mark before after : List ℕ) → IsUtf8 text → IsUtf8 mark → IsUtf8 before → StandsFirst text mark before after
    → chars after ≡ substring_after_of (chars text) (chars mark)
after_is text mark before after u v w h =
    sym (
    ap (after_place (chars text) (length (chars mark))) (place_of text mark before after u v w h)
    ∙ ap (drop (length (chars before) + length (chars mark))) (chars_around text mark before after v w h.joined)
    ∙ drop-append-add (chars before) (chars mark ++ chars after) (length (chars mark))
    ∙ drop-append_seam (chars mark) (chars after))

pub before_none : (text mark : List ℕ) → IsUtf8 text → IsUtf8 mark → ((i : ℕ) → i ≤ length text → LacksTextAt mark text i) → [] ≡ substring_before_of (chars text) (chars mark)
before_none text mark u v never = sym (ap (before_place (chars text)) (occurs_nowhere (chars mark) (chars text) (lacks_chars text mark u v never)))

pub after_none : (text mark : List ℕ) → IsUtf8 text → IsUtf8 mark → ((i : ℕ) → i ≤ length text → LacksTextAt mark text i) → [] ≡ substring_after_of (chars text) (chars mark)
after_none text mark u v never =
    sym (ap (after_place (chars text) (length (chars mark))) (occurs_nowhere (chars mark) (chars text) (lacks_chars text mark u v never)))

-- from the clause of `split_once`
pub stands_first : (text mark before after : List ℕ) (i j : ℕ) → FindsText mark text (Some (i, j)) → before ≡ take i text → after ≡ drop j text → length before ≡ i
    → StandsFirst text mark before after
stands_first text mark before after i j found e f g = record {
  joined =
      sym (take-append-drop i text) ∙ ap (λ (t : List ℕ). take i text ++ t) found.1.split
      ∙ ap (λ (t : List ℕ). t ++ (mark ++ drop j text)) (sym e) ∙ ap (λ (t : List ℕ). before ++ (mark ++ t)) (sym f);
  none = λ k h. found.0 k (omega arith);
}

-- whether the mark occurs
pub occurs : (text mark before after : List ℕ) → IsUtf8 text → IsUtf8 mark → IsUtf8 before → StandsFirst text mark before after
    → true ≡ is_some (first_occurrence (chars mark) (chars text))
occurs text mark before after u v w h = sym (ap is_some (place_of text mark before after u v w h))

pub occurs_not : (text mark : List ℕ) → IsUtf8 text → IsUtf8 mark → ((i : ℕ) → i ≤ length text → LacksTextAt mark text i)
    → false ≡ is_some (first_occurrence (chars mark) (chars text))
occurs_not text mark u v never = sym (ap is_some (occurs_nowhere (chars mark) (chars text) (lacks_chars text mark u v never)))
