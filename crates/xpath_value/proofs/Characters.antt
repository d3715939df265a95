-- Characters of texts, and white space at the ends of a list of them.
use Rattle.std.proofs.Common.{◌≡◌, refl, ap, sym, subst, ◌∙◌, ◌++◌, ℕ, suc, ◌+◌, ◌-◌, ◌≤◌, List, [], ◌∷◌, length, take, drop, true, false, Option, None, Result, Ok, Err, arith, append-nil}
use Rattle.std.specs.Prelude.{encode_utf8, IfOk, reverse}
use Rattle.std.specs.Str.{chars, IsUtf8}
use Rattle.std.specs.Str.Iter.{chars_rest}
use Rattle.std.specs.List.{prefix_len, suffix_len}
use Rattle.std.proofs.iter.TextItems.{spells}
use Rattle.std.specs.Iterator.{Yields}
use Rattle.std.proofs.lemmas.Str.{chars-nil, chars-append, chars_past_char, IsUtf8-drop, IsCharBoundary-from_take}
use Rattle.std.proofs.lemmas.Iterator.{YieldsList-from_chars}
use Rattle.std.proofs.lemmas.Iterator.Consumers.{YieldsList-end}
use Rattle.std.proofs.lemmas.List.{length-append, map-id, reverse-append, take-append-le, take_all}
use Rattle.std.proofs.lemmas.List.Sums.{suffix_len-le-length}
use Rattle.std.proofs.Math.Seq.{take-append_seam, drop-append_seam}
use Rattle.xpath_value.specs.Characters.{is_space, stripped_start, stripped_end}

-- the characters of a text before whose last one another text stands
pub chars_before_last : (text before : List ℕ) (c : ℕ) → IsUtf8 text → IsUtf8 before → text ≡ before ++ encode_utf8 c → chars text ≡ chars before ++ c ∷ []
chars_before_last text before c u v e =
    let w : IsUtf8 (before ++ encode_utf8 c) = subst IsUtf8 e u in
    let front : IsUtf8 (take (length before) (before ++ encode_utf8 c)) = subst IsUtf8 (sym (take-append_seam before (encode_utf8 c))) v in
    let within : length before ≤ length (before ++ encode_utf8 c) = omega (arith, length-append before (encode_utf8 c)) in
    let last : IsUtf8 (encode_utf8 c) =
    subst IsUtf8 (drop-append_seam before (encode_utf8 c)) (IsUtf8-drop _ (length before) w (IsCharBoundary-from_take _ (length before) w within front)) in
    ap chars e ∙ chars-append before (encode_utf8 c) v
    ∙ ap (λ (t : List ℕ). chars before ++ t) (chars_past_char (encode_utf8 c) [] c last (sym (append-nil _)) ∙ ap (λ (t : List ℕ). c ∷ t) chars-nil)

-- a loop over all characters has met them all when it ends
pub all_met : (text : List ℕ) (s t u : _) (met : List ℕ) → IsUtf8 text → chars_rest s ≡ text → Yields spells s met t → (r : Option ℕ) → r ≡ None → spells t r u → met ≡ chars text
all_met text s t u met v e y r n k = sym (map-id met) ∙ (YieldsList-end (YieldsList-from_chars text v e) met t y r u n k).0

-- an answer whose text is the same
pub ok_same : {E : Type 0} (r : Result (List ℕ) E) (x y : List ℕ) → x ≡ y → IfOk r (λ t. t ≡ x) → IfOk r (λ t. t ≡ y)
ok_same (Ok t) x y e h = h ∙ e
ok_same (Err f) x y e h = h

-- white space at the start
pub stripped_start-nil : stripped_start [] ≡ []
unfolding stripped_start
stripped_start-nil = refl

pub stripped_start-space : (c : ℕ) (cs : List ℕ) → is_space c ≡ true → stripped_start (c ∷ cs) ≡ stripped_start cs
unfolding stripped_start
stripped_start-space c cs e = rw e (ap (λ (n : ℕ). drop n (c ∷ cs)) (let k : 1 + prefix_len is_space cs ≡ suc (prefix_len is_space cs) = omega arith in k))

pub stripped_start-other : (c : ℕ) (cs : List ℕ) → is_space c ≡ false → stripped_start (c ∷ cs) ≡ c ∷ cs
unfolding stripped_start
stripped_start-other c cs e = rw e refl

-- white space at the end
pub stripped_end-nil : stripped_end [] ≡ []
unfolding stripped_end
stripped_end-nil = refl

last_counts : (cs : List ℕ) (c : ℕ) → is_space c ≡ true → suffix_len is_space (cs ++ c ∷ []) ≡ suc (suffix_len is_space cs)
last_counts cs c e = ap (prefix_len is_space) (reverse-append cs (c ∷ [])) ∙ (rw e (let k : 1 + prefix_len is_space (reverse cs) ≡ suc (prefix_len is_space (reverse cs)) = omega arith in k))

last_stops : (cs : List ℕ) (c : ℕ) → is_space c ≡ false → suffix_len is_space (cs ++ c ∷ []) ≡ 0
last_stops cs c e = ap (prefix_len is_space) (reverse-append cs (c ∷ [])) ∙ rw e refl

without_last : (cs : List ℕ) (c n : ℕ) → n ≤ length cs → take (length (cs ++ c ∷ []) - suc n) (cs ++ c ∷ []) ≡ take (length cs - n) cs
without_last cs c n h =
    let e : length (cs ++ c ∷ []) - suc n ≡ length cs - n = omega (arith, length-append cs (c ∷ [])) in
    ap (λ (k : ℕ). take k (cs ++ c ∷ [])) e ∙ take-append-le (length cs - n) cs (c ∷ []) (omega arith)

pub stripped_end-space : (cs : List ℕ) (c : ℕ) → is_space c ≡ true → stripped_end (cs ++ c ∷ []) ≡ stripped_end cs
unfolding stripped_end
stripped_end-space cs c e =
    ap (λ (n : ℕ). take (length (cs ++ c ∷ []) - n) (cs ++ c ∷ [])) (last_counts cs c e)
    ∙ without_last cs c (suffix_len is_space cs) (suffix_len-le-length is_space cs)

pub stripped_end-other : (cs : List ℕ) (c : ℕ) → is_space c ≡ false → stripped_end (cs ++ c ∷ []) ≡ cs ++ c ∷ []
unfolding stripped_end
stripped_end-other cs c e =
    ap (λ (n : ℕ). take (length (cs ++ c ∷ []) - n) (cs ++ c ∷ [])) (last_stops cs c e) ∙ take_all _ (cs ++ c ∷ []) (omega arith)

pub start_stands : (rest cs text : List ℕ) (c : ℕ) → rest ≡ c ∷ cs → is_space c ≡ false → stripped_start rest ≡ text → rest ≡ text
start_stands rest cs text c e f g = e ∙ sym (stripped_start-other c cs f) ∙ sym (ap stripped_start e) ∙ g

pub start_goes_on : (rest cs text : List ℕ) (c : ℕ) → rest ≡ c ∷ cs → is_space c ≡ true → stripped_start rest ≡ text → stripped_start cs ≡ text
start_goes_on rest cs text c e f g = sym (stripped_start-space c cs f) ∙ sym (ap stripped_start e) ∙ g

pub start_is_all : (rest text : List ℕ) → rest ≡ [] → stripped_start rest ≡ text → rest ≡ text
start_is_all rest text e g = e ∙ sym stripped_start-nil ∙ sym (ap stripped_start e) ∙ g

pub end_stands : (rest cs text : List ℕ) (c : ℕ) → rest ≡ cs ++ c ∷ [] → is_space c ≡ false → stripped_end rest ≡ text → rest ≡ text
end_stands rest cs text c e f g = e ∙ sym (stripped_end-other cs c f) ∙ sym (ap stripped_end e) ∙ g

pub end_goes_on : (rest cs text : List ℕ) (c : ℕ) → rest ≡ cs ++ c ∷ [] → is_space c ≡ true → stripped_end rest ≡ text → stripped_end cs ≡ text
end_goes_on rest cs text c e f g = sym (stripped_end-space cs c f) ∙ sym (ap stripped_end e) ∙ g

pub end_is_all : (rest text : List ℕ) → rest ≡ [] → stripped_end rest ≡ text → rest ≡ text
end_is_all rest text e g = e ∙ sym stripped_end-nil ∙ sym (ap stripped_end e) ∙ g
