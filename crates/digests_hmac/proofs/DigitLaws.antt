use Rattle.std.proofs.Common.{◌≡◌, ℕ, ◌+◌, ◌*◌, ◌<◌, ◌≤◌, List, [], ◌∷◌, ◌++◌, length, drop, get_or, refl, sym, ap, ◌∙◌, arith, add-one, append_assoc, drop-cons}
use Rattle.digests_hmac.specs.KeyLines.{value_of, octets_of_digits}

pub drop_one : (l : List ℕ) (i : ℕ) → i < length l → drop i l ≡ get_or l i 0 ∷ drop (i + 1) l
drop_one l i h = rw (add-one i) (drop-cons l i 0 h)

-- two digits more
octets-two : (digits : List ℕ) (i : ℕ) → i + 1 < length digits → octets_of_digits (drop i digits) ≡ (16 * value_of (get_or digits i 0) + value_of (get_or digits (i + 1) 0)) ∷ octets_of_digits (drop (i + 2) digits)
unfolding octets_of_digits
octets-two digits i h =
    let first : drop i digits ≡ get_or digits i 0 ∷ drop (i + 1) digits = drop_one digits i (omega arith) in
    let second : drop (i + 1) digits ≡ get_or digits (i + 1) 0 ∷ drop (i + 1 + 1) digits = drop_one digits (i + 1) h in
    let place : i + 1 + 1 ≡ i + 2 = omega arith in
    rw (← place) (ap octets_of_digits (first ∙ ap (λ (t : List ℕ). get_or digits i 0 ∷ t) second))

-- one octet more of what the digits spell
pub octets-turn : (done digits total : List ℕ) (i high low : ℕ) → 2 * i + 1 < length digits → high ≡ value_of (get_or digits (2 * i) 0) → low ≡ value_of (get_or digits (2 * i + 1) 0) → done ++ octets_of_digits (drop (2 * i) digits) ≡ total → (done ++ (16 * high + low) ∷ []) ++ octets_of_digits (drop (2 * (i + 1)) digits) ≡ total
octets-turn done digits total i high low h p q e =
    let place : 2 * (i + 1) ≡ 2 * i + 2 = omega arith in
    rw (place, p, q) (append_assoc done ((16 * value_of (get_or digits (2 * i) 0) + value_of (get_or digits (2 * i + 1) 0)) ∷ []) (octets_of_digits (drop (2 * i + 2) digits)) ∙ ap (λ (t : List ℕ). done ++ t) (sym (octets-two digits (2 * i) h)) ∙ e)

-- no pair is left
pub octets-few : (digits : List ℕ) → length digits ≤ 1 → octets_of_digits digits ≡ []
unfolding octets_of_digits
octets-few [] h = refl
octets-few (x ∷ []) h = refl
octets-few (x ∷ y ∷ rest) h = absurd (omega arith)
