-- Base64 is bare text.
use Rattle.std.proofs.Common.{◌≡◌, ℕ, zero, suc, ◌+◌, ◌*◌, ◌/◌, ◌%◌, ◌<◌, ◌&&◌, Bool, true, false, List, [], ◌∷◌, ◌++◌, length, replicate, slice_index, refl, sym, ap, ◌∙◌, arith}
use Rattle.std.specs.List.{list_all}
use Rattle.std.proofs.lemmas.Bool.{false≢true}
use Rattle.std.proofs.lemmas.List.Folds.{list_all-append, list_all_at}
use Rattle.base64.specs.Engines.{standard}
use Rattle.base64.specs.GeneralPurpose.{IsBytes}
use Rattle.base64.specs.Rfc4648.{encode_symbols, padding_len}
use Rattle.dsig_base64.specs.Bare.{is_bare, are_bare}
use Rattle.dsig_base64.specs.Loose.{base64_of}

symbols_are_bare : are_bare standard.encode_table ≡ true
symbols_are_bare = refl

unless_false : (b : Bool) → (b ≡ false → ⊥) → b ≡ true
unless_false true h = refl
unless_false false h = absurd (h refl)

symbol_is_bare : (i : ℕ) → i < 64 → is_bare (slice_index standard.encode_table i) ≡ true
symbol_is_bare i lt =
    let long : length standard.encode_table ≡ 64 = refl in
    unless_false (is_bare (slice_index standard.encode_table i)) (λ e.
    false≢true (sym (list_all_at is_bare standard.encode_table i 0 (omega (arith, lt, long)) e) ∙ symbols_are_bare))

-- tests one behind the other
two : (a b : Bool) → a ≡ true → b ≡ true → (a && (b && true)) ≡ true
two a b e f = rw (e, f) refl

three : (a b c : Bool) → a ≡ true → b ≡ true → c ≡ true → (a && (b && (c && true))) ≡ true
three a b c e f g = rw (e, f, g) refl

four : (a b c d rest : Bool) → a ≡ true → b ≡ true → c ≡ true → d ≡ true → rest ≡ true → (a && (b && (c && (d && rest)))) ≡ true
four a b c d rest e f g h r = rw (e, f, g, h, r) refl

bare_symbols : (b : List ℕ) → IsBytes b → are_bare (encode_symbols standard.encode_table b) ≡ true
unfolding encode_symbols
bare_symbols [] bytes = refl
bare_symbols (a ∷ []) bytes =
    let x : a < 256 = bytes 0 in
    two _ _ (symbol_is_bare (a / 4) (omega (arith, x))) (symbol_is_bare (a % 4 * 16) (omega (arith, x)))
bare_symbols (a ∷ b ∷ []) bytes =
    let x : a < 256 = bytes 0 in
    let y : b < 256 = bytes 1 in
    three _ _ _ (symbol_is_bare (a / 4) (omega (arith, x))) (symbol_is_bare (a % 4 * 16 + b / 16) (omega (arith, x, y)))
    (symbol_is_bare (b % 16 * 4) (omega (arith, y)))
bare_symbols (a ∷ b ∷ c ∷ rest) bytes =
    let x : a < 256 = bytes 0 in
    let y : b < 256 = bytes 1 in
    let z : c < 256 = bytes 2 in
    four _ _ _ _ _ (symbol_is_bare (a / 4) (omega (arith, x))) (symbol_is_bare (a % 4 * 16 + b / 16) (omega (arith, x, y)))
    (symbol_is_bare (b % 16 * 4 + c / 64) (omega (arith, y, z))) (symbol_is_bare (c % 64) (omega (arith, z)))
    (bare_symbols rest (λ i. bytes (suc (suc (suc i)))))

bare_padding : (n : ℕ) → are_bare (replicate {A = ℕ} n 61) ≡ true
bare_padding zero = refl
bare_padding (suc n) = bare_padding n

both : (a b : Bool) → a ≡ true → b ≡ true → (a && b) ≡ true
both a b e f = rw (e, f) refl

pub base64_is_bare : (octets : List ℕ) → IsBytes octets → are_bare (base64_of octets) ≡ true
unfolding base64_of
base64_is_bare octets bytes =
    let symbols = encode_symbols standard.encode_table octets in
    let padding = replicate {A = ℕ} (padding_len (length octets)) 61 in
    list_all-append is_bare symbols padding
    ∙ both (are_bare symbols) (are_bare padding) (bare_symbols octets bytes) (bare_padding (padding_len (length octets)))
