use Rattle.std.proofs.Common.{◌≡◌, ◌++◌, length, ap, sym, ◌∙◌, List, ℕ, arith}
use Rattle.std.specs.Prelude.{encode_utf8}
use Rattle.sig_base.proofs.CharacterLemmas.{nil_from_length}
use Rattle.xpath_value.proofs.Characters.{chars_before_last}
use Rattle.xpath_value.proofs.scan.split_last.Goals as goal

parts : (text given rest before : List ℕ) (c : ℕ) → given ≡ rest ++ encode_utf8 c → given ≡ text → before ≡ rest → text ≡ before ++ encode_utf8 c
parts text given rest before c h e f = sym e ∙ h ∙ ap (λ (t : List ℕ). t ++ encode_utf8 c) (sym f)

pub returns-in-Some-clause-some : goal.returns-in-Some-clause-some
returns-in-Some-clause-some c =
    chars_before_last _ _ _ c.utf8.text c.as_str.utf8 (parts _ _ _ _ _ c.in-Some.ensures.steps c.chars-chars.ensures.rest c.as_str.ensures)

pub returns-in-None-clause-none : goal.returns-in-None-clause-none
returns-in-None-clause-none c = nil_from_length _ (omega (arith, c.in-None.ensures.steps.0, ap length c.chars-chars.ensures.rest))
