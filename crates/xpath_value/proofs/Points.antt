-- What stands before the first point of a text, and what stands behind it.
use Rattle.std.proofs.Common.{◌≡◌, refl, ap, sym, subst, ◌∙◌, ◌++◌, ℕ, suc, ◌+◌, ◌<◌, List, [], ◌∷◌, length, take, drop, get_or, arith}
use Rattle.std.specs.Prelude.{Some, encode_utf8}
use Rattle.std.specs.Str.{chars, IsUtf8, NonePass, NoCharPasses}
use Rattle.std.specs.List.{position_or_len}
use Rattle.std.proofs.lemmas.Str.{encode_ascii, chars-append, chars_past_char, chars_from_encodes, chars-nil, IsUtf8-take, IsUtf8-drop, IsCharBoundary-before_ascii}
use Rattle.std.proofs.lemmas.List.{length-append, take_all, drop_all}
use Rattle.std.proofs.Math.Seq.{take-append_seam, drop-append_seam, get_or-append_seam, drop-append-add}
use Rattle.std.specs.Str.Pattern.{FindsChar}
use Rattle.std.proofs.lemmas.List.{take-append-drop}
use Rattle.xpath_value.specs.Characters.{is_point}
use Rattle.xpath_value.specs.Numbers.{whole_part, fraction_part}

-- the text has a point behind the part w
pub record HasPoint (text w f : List ℕ) : Type 0 where
  pub joined : text ≡ w ++ 46 ∷ f
  pub none : NoCharPasses is_point w

no_point : (w : List ℕ) → IsUtf8 w → NoCharPasses is_point w → NonePass is_point (chars w)
no_point w u (cs, e, none) = subst (NonePass is_point) (chars_from_encodes cs w u e) none

point_behind : (cs fs : List ℕ) → NonePass is_point cs → position_or_len is_point (cs ++ 46 ∷ fs) ≡ length cs
point_behind [] fs none = refl
point_behind (c ∷ cs) fs none = rw none.0 (let k : 1 + position_or_len is_point (cs ++ 46 ∷ fs) ≡ suc (length cs) = omega (arith, point_behind cs fs none.1) in k)

point_nowhere : (cs : List ℕ) → NonePass is_point cs → position_or_len is_point cs ≡ length cs
point_nowhere [] none = refl
point_nowhere (c ∷ cs) none = rw none.0 (let k : 1 + position_or_len is_point cs ≡ suc (length cs) = omega (arith, point_nowhere cs none.1) in k)

point_bound : (text w f : List ℕ) → text ≡ w ++ 46 ∷ f → (length w < length text) × (get_or text (length w) 0 < 128)
point_bound text w f e =
    let at : get_or (w ++ 46 ∷ f) (length w) 0 ≡ 46 = get_or-append_seam w 46 f 0 in
    (omega (arith, ap length e, length-append w (46 ∷ f)), omega (arith, at, ap (λ (t : List ℕ). get_or t (length w) 0) e))

utf8_before : (text w f : List ℕ) → IsUtf8 text → text ≡ w ++ 46 ∷ f → IsUtf8 w
utf8_before text w f u e =
    let b : (length w < length text) × (get_or text (length w) 0 < 128) = point_bound text w f e in
    subst IsUtf8 (ap (take (length w)) e ∙ take-append_seam w (46 ∷ f)) (IsUtf8-take text (length w) u (IsCharBoundary-before_ascii text (length w) b.0 b.1))

utf8_from : (text w f : List ℕ) → IsUtf8 text → text ≡ w ++ 46 ∷ f → IsUtf8 (46 ∷ f)
utf8_from text w f u e =
    let b : (length w < length text) × (get_or text (length w) 0 < 128) = point_bound text w f e in
    subst IsUtf8 (ap (drop (length w)) e ∙ drop-append_seam w (46 ∷ f)) (IsUtf8-drop text (length w) u (IsCharBoundary-before_ascii text (length w) b.0 b.1))

point_code : {f : List ℕ} → encode_utf8 46 ++ f ≡ 46 ∷ f
point_code {f} = ap (λ (t : List ℕ). t ++ f) (encode_ascii 46 (omega arith))

chars_around : (text w f : List ℕ) → IsUtf8 text → text ≡ w ++ 46 ∷ f → chars text ≡ chars w ++ 46 ∷ chars f
chars_around text w f u e =
    ap chars e ∙ chars-append w (46 ∷ f) (utf8_before text w f u e)
    ∙ ap (λ (t : List ℕ). chars w ++ t) (chars_past_char (46 ∷ f) f 46 (utf8_from text w f u e) (sym point_code))

pub whole_before : (text w f : List ℕ) → IsUtf8 text → HasPoint text w f → chars w ≡ whole_part (chars text)
whole_before text w f u h =
    let none : NonePass is_point (chars w) = no_point w (utf8_before text w f u h.joined) h.none in
    sym (
    ap whole_part (chars_around text w f u h.joined)
    ∙ ap (λ (n : ℕ). take n (chars w ++ 46 ∷ chars f)) (point_behind (chars w) (chars f) none)
    ∙ take-append_seam (chars w) (46 ∷ chars f))

pub fraction_behind : (text w f : List ℕ) → IsUtf8 text → HasPoint text w f → chars f ≡ fraction_part (chars text)
fraction_behind text w f u h =
    let none : NonePass is_point (chars w) = no_point w (utf8_before text w f u h.joined) h.none in
    sym (
    ap fraction_part (chars_around text w f u h.joined)
    ∙ ap (λ (n : ℕ). drop (n + 1) (chars w ++ 46 ∷ chars f)) (point_behind (chars w) (chars f) none)
    ∙ drop-append-add (chars w) (46 ∷ chars f) 1)

pub whole_is_all : (text : List ℕ) → IsUtf8 text → NoCharPasses is_point text → chars text ≡ whole_part (chars text)
whole_is_all text u h =
    sym (ap (λ (n : ℕ). take n (chars text)) (point_nowhere (chars text) (no_point text u h)) ∙ take_all _ (chars text) (omega arith))

pub fraction_is_none : (text : List ℕ) → IsUtf8 text → NoCharPasses is_point text → chars [] ≡ fraction_part (chars text)
fraction_is_none text u h =
    chars-nil
    ∙ sym (ap (λ (n : ℕ). drop (n + 1) (chars text)) (point_nowhere (chars text) (no_point text u h)) ∙ drop_all _ (chars text) (omega arith))

-- from the clause of `split_once`
pub has_point : (text w f : List ℕ) (i j : ℕ) → FindsChar 46 text (Some (i, j)) → w ≡ take i text → f ≡ drop j text → HasPoint text w f
has_point text w f i j found e g = record {
  joined = sym (take-append-drop i text) ∙ ap (λ (t : List ℕ). take i text ++ t) (found.1.split ∙ point_code) ∙ ap (λ (t : List ℕ). t ++ 46 ∷ drop j text) (sym e) ∙ ap (λ (t : List ℕ). w ++ 46 ∷ t) (sym g);
  none = subst (NoCharPasses is_point) (sym e) found.0;
}
