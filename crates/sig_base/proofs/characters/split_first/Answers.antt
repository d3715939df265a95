use Rattle.std.proofs.Common.{◌≡◌, ◌++◌, length, ap, sym, ◌∙◌, List, ℕ, ◌+◌, arith}
use Rattle.std.proofs.lemmas.Str.{chars_past_char, length-encode}
use Rattle.std.proofs.lemmas.List.{length-append}
use Rattle.std.specs.Prelude.{encode_utf8}
use Rattle.std.specs.Char.{len_utf8}
use Rattle.sig_base.proofs.CharacterLemmas.{nil_from_length}
use Rattle.sig_base.proofs.characters.split_first.Goals as goal

parts : (text given rest behind : List ℕ) (c : ℕ) → given ≡ encode_utf8 c ++ rest → given ≡ text → behind ≡ rest → text ≡ encode_utf8 c ++ behind
parts text given rest behind c h e f = sym e ∙ h ∙ ap (λ (t : List ℕ). encode_utf8 c ++ t) (sym f)

length_parts : (text behind : List ℕ) (c : ℕ) → text ≡ encode_utf8 c ++ behind → length text ≡ len_utf8 c + length behind
length_parts text behind c e = omega (arith, ap length e, length-append (encode_utf8 c) behind, length-encode c)

pub returns-in-Some-clause-some : goal.returns-in-Some-clause-some
returns-in-Some-clause-some c =
    chars_past_char _ _ _ c.utf8.text (parts _ _ _ _ _ c.in-Some.ensures.steps.0 c.chars-chars.ensures.rest c.as_str.ensures)

pub returns-in-Some-clause-len : goal.returns-in-Some-clause-len
returns-in-Some-clause-len c =
    length_parts _ _ _ (parts _ _ _ _ _ c.in-Some.ensures.steps.0 c.chars-chars.ensures.rest c.as_str.ensures)

pub returns-in-None-clause-none : goal.returns-in-None-clause-none
returns-in-None-clause-none c = nil_from_length _ (omega (arith, c.in-None.ensures.steps.0.0, ap length c.chars-chars.ensures.rest))
