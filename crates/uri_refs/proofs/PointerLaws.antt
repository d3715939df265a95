-- Texts and their characters.
use Rattle.std.proofs.Common.{◌≡◌, ℕ, true, false, List, [], ◌∷◌, length, ap, sym, ◌∙◌, arith}
use Rattle.std.specs.Prelude.{◌==◌, nat_lt, encode_utf8_all}
use Rattle.std.specs.Str.{chars, IsUtf8}
use Rattle.std.proofs.lemmas.Bool.{false≢true, lt-ltb, eqb-true}
use Rattle.std.proofs.lemmas.Str.{encodes-chars}
use Rattle.sig_base.proofs.CharacterLemmas.{nil_from_length}
use Rattle.uri_refs.specs.Pointers.{is_pointer}

some_encoded : (s cs : List ℕ) → encode_utf8_all cs ≡ s → (length s == 0) ≡ false → nat_lt 0 (length cs) ≡ true
some_encoded s [] e n = absurd (false≢true (sym n ∙ ap (λ (t : List ℕ). length t == 0) (sym e)))
some_encoded s (c ∷ cs) e n = lt-ltb 0 (length (c ∷ cs)) (omega arith)

-- a text with octets has characters
pub some_characters : (s : List ℕ) → IsUtf8 s → (length s == 0) ≡ false → nat_lt 0 (length (chars s)) ≡ true
some_characters s u n = some_encoded s (chars s) (encodes-chars s u) n

-- one without has none
pub no_characters : (s : List ℕ) → (length s == 0) ≡ true → is_pointer (chars s) ≡ false
no_characters s e = ap is_pointer (nil_from_length s (eqb-true (length s) 0 e))
