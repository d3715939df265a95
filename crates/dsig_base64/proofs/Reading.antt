use Rattle.std.proofs.Common.{◌≡◌, ℕ, zero, suc, ◌+◌, ◌*◌, ◌/◌, ◌%◌, ◌<◌, Bool, true, false, not, List, [], ◌∷◌, ◌++◌, length, replicate, slice_index, Some, None, Result, Ok, Err, refl, ap, ◌∙◌, inl, inr}
use Rattle.std.specs.List.{list_all}
use Rattle.std.specs.Result.{result_ok}
use Rattle.std.proofs.lemmas.List.{get_or_past}
use Rattle.std.proofs.lemmas.List.Elements.{filter-append}
use Rattle.std.proofs.lemmas.List.Folds.{list_all_at}
use Rattle.std.proofs.lemmas.Bool.{cases_lt}
use Rattle.base64.specs.Engines.{standard}
use Rattle.base64.specs.GeneralPurpose.{IsBytes, IsStrict, encode_of, decode_of, decoded_of}
use Rattle.base64.specs.declared.decode.DecodeError.{DecodeError}
use Rattle.base64.specs.Rfc4648.{encode_symbols, padding_len}
use Rattle.base64.proofs.EngineFacts.{decode_of_strict, decode_of_iff, decode_of-encode_of}
use Rattle.sig_base.specs.Space.{is_space}
use Rattle.dsig_base64.specs.Loose.{base64_of, octets_in, without_space, SpellsExactly}

pub strict : IsStrict standard
strict = (refl, refl)

-- `decoded_of` is `decode_of` less the error
pub decoded-ok : (s b : List ℕ) → decode_of standard s ≡ Ok b → decoded_of standard s ≡ Some b
unfolding decoded_of
decoded-ok s b e = ap result_ok e

pub decoded-err : (s : List ℕ) (error : DecodeError) → decode_of standard s ≡ Err error → decoded_of standard s ≡ None
unfolding decoded_of
decoded-err s error e = ap result_ok e

ok_of : (r : Result (List ℕ) DecodeError) (b : List ℕ) → result_ok r ≡ Some b → r ≡ Ok b
ok_of (Ok x) b e = cc
ok_of (Err x) b e = cc

pub ok-decoded : (s b : List ℕ) → decoded_of standard s ≡ Some b → decode_of standard s ≡ Ok b
unfolding decoded_of
ok-decoded s b e = ok_of (decode_of standard s) b e

-- nothing that isn't an encoding is decoded
pub none_if_no_encoding : (s : List ℕ) → IsBytes s → ((b : List ℕ) → s ≡ encode_of standard b → ⊥) → decoded_of standard s ≡ None
none_if_no_encoding s bytes isnt = elim (decoded_of standard s) as (λ d. decoded_of standard s ≡ d → d ≡ None) [
  | None ↦ λ e. refl
  | Some b ↦ λ e. absurd (isnt b (decode_of_strict standard s b strict bytes (ok-decoded s b e)))
] refl

-- an octet that isn't white space stays
kept-one : (x : ℕ) (rest : List ℕ) → is_space x ≡ false → without_space (x ∷ rest) ≡ x ∷ without_space rest
kept-one x rest h = rw h refl

-- no symbol is white space
symbols_are_no_space : list_all (λ x. not (is_space x)) standard.encode_table ≡ true
symbols_are_no_space = refl

not-true : (b : Bool) → (not b ≡ false → ⊥) → b ≡ false
not-true true h = absurd (h refl)
not-true false h = refl

at_no_space : (xs : List ℕ) (i : ℕ) → list_all (λ x. not (is_space x)) xs ≡ true → is_space (slice_index xs i) ≡ false
at_no_space xs i h = elim (cases_lt i (length xs)) [
  | inl lt ↦ not-true (is_space (slice_index xs i)) (λ e. let bad = list_all_at (λ x. not (is_space x)) xs i 0 lt e in cc (bad, h))
  | inr ge ↦ rw (get_or_past xs i 0 ge) refl
]

symbol_is_no_space : (i : ℕ) → is_space (slice_index standard.encode_table i) ≡ false
symbol_is_no_space i = at_no_space standard.encode_table i symbols_are_no_space

kept-four : (x y z w : ℕ) (rest : List ℕ) → is_space x ≡ false → is_space y ≡ false → is_space z ≡ false → is_space w ≡ false → without_space rest ≡ rest → without_space (x ∷ y ∷ z ∷ w ∷ rest) ≡ x ∷ y ∷ z ∷ w ∷ rest
kept-four x y z w rest hx hy hz hw e = rw (hx, hy, hz, hw, e) refl

-- the symbols of a message hold no white space
kept-symbols : (t b : List ℕ) → ((i : ℕ) → is_space (slice_index t i) ≡ false) → without_space (encode_symbols t b) ≡ encode_symbols t b
unfolding encode_symbols
kept-symbols t [] h = refl
kept-symbols t (a ∷ []) h = rw (h, h) refl
kept-symbols t (a ∷ b ∷ []) h = rw (h, h, h) refl
kept-symbols t (a ∷ b ∷ c ∷ rest) h =
    kept-four (slice_index t (a / 4)) (slice_index t (a % 4 * 16 + b / 16)) (slice_index t (b % 16 * 4 + c / 64)) (slice_index t (c % 64)) (encode_symbols t rest)
    (h (a / 4)) (h (a % 4 * 16 + b / 16)) (h (b % 16 * 4 + c / 64)) (h (c % 64)) (kept-symbols t rest h)

kept-padding : (n : ℕ) → without_space (replicate n 61) ≡ replicate n 61
kept-padding zero = refl
kept-padding (suc n) = ap (λ (xs : List ℕ). 61 ∷ xs) (kept-padding n)

-- base64 has no white space
pub without_space-base64 : (b : List ℕ) → without_space (base64_of b) ≡ base64_of b
unfolding base64_of
without_space-base64 b =
    filter-append (λ octet. not (is_space octet)) (encode_symbols standard.encode_table b) (replicate {A = ℕ} (padding_len (length b)) 61)
    ∙ ap (λ (xs : List ℕ). xs ++ without_space (replicate {A = ℕ} (padding_len (length b)) 61)) (kept-symbols standard.encode_table b symbol_is_no_space)
    ∙ ap (λ (xs : List ℕ). encode_symbols standard.encode_table b ++ xs) (kept-padding (padding_len (length b)))

bytes-cons : (x : ℕ) (xs : List ℕ) → x < 256 → IsBytes xs → IsBytes (x ∷ xs)
bytes-cons x xs h t zero = h
bytes-cons x xs h t (suc i) = t i

bytes-kept : (xs : List ℕ) → IsBytes xs → IsBytes (without_space xs)
bytes-kept [] h = h
bytes-kept (x ∷ xs) h =
    let rest = bytes-kept xs (λ i. h (suc i)) in
    elim (is_space x) as (λ v. is_space x ≡ v → IsBytes (without_space (x ∷ xs))) [
      | true ↦ λ e. rw e rest
      | false ↦ λ e. rw e (bytes-cons x (without_space xs) (h 0) rest)
    ] refl

-- a text spells what it encodes
pub spells : (text octets : List ℕ) → IsBytes text → IsBytes octets → SpellsExactly text octets
unfolding octets_in base64_of
spells text octets t o =
    let both = decode_of_iff standard (without_space text) octets strict (bytes-kept text t) o in
    (λ e. both.0 (ok-decoded (without_space text) octets e), λ e. decoded-ok (without_space text) octets (both.1 e))

-- the reading of an encoding
decode_of-base64_of : (octets : List ℕ) → IsBytes octets → decode_of standard (base64_of octets) ≡ Ok octets
unfolding base64_of
decode_of-base64_of octets o = decode_of-encode_of standard octets refl o

pub octets_in-base64_of : (octets : List ℕ) → IsBytes octets → octets_in (base64_of octets) ≡ Some octets
unfolding octets_in
octets_in-base64_of octets o = rw (without_space-base64 octets) (decoded-ok (base64_of octets) octets (decode_of-base64_of octets o))
