-- The value of digits, and the text of a number.
use Rattle.std.proofs.Common.{◌≡◌, refl, ap, sym, subst, ◌∙◌, ℕ, zero, suc, ◌<◌, ◌≤◌, ◌^◌, List, [], ◌∷◌, length, Bool, true, false, arith, Result, Ok, Err}
use Rattle.std.specs.Prelude.{IfOk, codes, if◌then◌else◌, nat_abs, nat_le, negsuc, pos, ℤ}
use Rattle.std.specs.Str.{chars, IsUtf8, IsAscii}
use Rattle.std.specs.List.{list_all}
use Rattle.std.specs.Result.{OkIff}
use Rattle.std.specs.Int.{IsInRange}
use Rattle.std.specs.Fmt.{signed_decimal}
use Rattle.std.specs.Str.Parse.{ParsesUnsigned, digits_value}
use Rattle.std.proofs.lemmas.Str.{encodes-chars, encodes-IsAscii, chars-IsAscii}
use Rattle.std.proofs.lemmas.Str.Ascii.{IsAscii-cons, IsAscii-nil}
use Rattle.std.proofs.lemmas.Str.Parse.{IsDigitsTest, IsNumeralModel, numerals_by_value, parse_digits}
use Rattle.std.proofs.lemmas.Fmt.{IsAscii-signed}
use Rattle.std.proofs.lemmas.Bool.Decides.{nat_tests}
use Rattle.std.specs.Int.Signed.{mag}
use Rattle.std.proofs.lemmas.Bool.{and_parts}
use Rattle.xpath_value.specs.Characters.{is_digit, is_empty}
use Rattle.xpath_value.specs.Numbers.{IsWithin, greatest, number_behind_sign, signed, text_of, whole_value}
use Rattle.xpath_value.specs.declared.number.NumberFault.{NumberFault}
use Rattle.xpath_value.specs.declared.number.NumberFault.TheVariants.{Fraction, NumberRange}
use Rattle.xpath_value.specs.declared.number.Number.{Number}
use Rattle.xpath_value.specs.declared.number.Number.TheVariants.{Whole, Nan}

abbrev Digits : List ℕ → Type 0
Digits ds = list_all is_digit ds ≡ true

digit_range : (c : ℕ) → is_digit c ≡ true → IsInRange 48 57 c
digit_range c e = grind (arith, nat_tests)

range_digit : (c : ℕ) → IsInRange 48 57 c → is_digit c ≡ true
range_digit c h = grind (arith, nat_tests)

tells : IsDigitsTest Digits
tells = record {
  empty = refl;
  parts = λ c cs e. let p : (is_digit c ≡ true) × (list_all is_digit cs ≡ true) = and_parts (is_digit c) (list_all is_digit cs) e in (digit_range c p.0, p.1);
  more = λ c cs r e. rw (range_digit c r) e;
}

own : IsNumeralModel Digits (digits_value 10)
own = numerals_by_value Digits tells

ascii_from_digits : (cs : List ℕ) → Digits cs → IsAscii cs
ascii_from_digits [] e = IsAscii-nil
ascii_from_digits (c ∷ cs) e =
    let p : (is_digit c ≡ true) × (list_all is_digit cs ≡ true) = and_parts (is_digit c) (list_all is_digit cs) e in
    let r : IsInRange 48 57 c = digit_range c p.0 in
    IsAscii-cons c cs (omega (arith, r.1)) (ascii_from_digits cs p.1)

-- digits are their own octets
pub digits_are_octets : (bs : List ℕ) → IsUtf8 bs → Digits (chars bs) → chars bs ≡ bs
digits_are_octets bs u e = sym (encodes-IsAscii (chars bs) (ascii_from_digits (chars bs) e)) ∙ encodes-chars bs u

some_length : (cs : List ℕ) → is_empty cs ≡ false → 0 < length cs
some_length [] e = absurd (cc)
some_length (c ∷ cs) e = omega arith

pub none_value : (cs : List ℕ) → is_empty cs ≡ true → 0 ≡ digits_value 10 cs
none_value [] e = refl
none_value (c ∷ cs) e = absurd (cc)

-- what `parse` says of digits
parse_octets : {E : Type 0} (bs : List ℕ) (r : Result ℕ E) → Digits bs → is_empty bs ≡ false → ParsesUnsigned 64 10 bs r
    → OkIff r ((0 < length bs) × (digits_value 10 bs < 2 ^ 64)) (digits_value 10 bs)
parse_octets bs r d e h = parse_digits own 64 bs r h d

pub parsed : (bs : List ℕ) (value : ℕ) → IsUtf8 bs → Digits (chars bs) → is_empty (chars bs) ≡ false → ParsesUnsigned {E = Unit {0}} 64 10 bs (Ok value)
    → value ≡ digits_value 10 (chars bs)
parsed bs value u d e h =
    let same : chars bs ≡ bs = digits_are_octets bs u d in
    (parse_octets {E = Unit {0}} bs (Ok value) (subst Digits same d) (sym (ap is_empty same) ∙ e) h).1 ∙ ap (digits_value 10) (sym same)

pub too_great : (bs : List ℕ) → IsUtf8 bs → Digits (chars bs) → is_empty (chars bs) ≡ false → ParsesUnsigned {E = Unit {0}} 64 10 bs (Err tt)
    → 2 ^ 64 ≤ digits_value 10 (chars bs)
too_great bs u d e h =
    let same : chars bs ≡ bs = digits_are_octets bs u d in
    let long : 0 < length bs = subst (λ (t : List ℕ). 0 < length t) same (some_length (chars bs) e) in
    let never : (digits_value 10 bs < 2 ^ 64) → ⊥ = λ k. parse_octets {E = Unit {0}} bs (Err tt) (subst Digits same d) (sym (ap is_empty same) ∙ e) h (long, k) in
    omega (arith, never, ap (digits_value 10) same)

-- the text of a whole number
pub text_of_whole : (z : ℤ) → mag z < 2 ^ 63 → chars (signed_decimal z) ≡ text_of (Whole z)
text_of_whole (pos n) h = chars-IsAscii _ (IsAscii-signed (pos n) h)
text_of_whole (negsuc n) h = chars-IsAscii _ (IsAscii-signed (negsuc n) h)

pub text_of_nan : chars (codes "NaN") ≡ text_of Nan
unfolding chars
text_of_nan = refl

-- what a text spells is in the range
size_of_signed : (b : Bool) (n : ℕ) → nat_abs (signed b n) ≡ n
size_of_signed true zero = refl
size_of_signed true (suc n) = refl
size_of_signed false n = refl

within_if : (fraction small : Bool) (n : ℤ) → (small ≡ true → nat_abs n ≤ greatest)
    → IfOk {E = NumberFault} (if fraction then Err Fraction else (if small then Ok (Whole n) else Err NumberRange)) IsWithin
within_if true small n h = tt
within_if false true n h = h refl
within_if false false n h = tt

within_parts : (number fraction small : Bool) (n : ℤ) → (small ≡ true → nat_abs n ≤ greatest)
    → IfOk {E = NumberFault} (if number then (if fraction then Err Fraction else (if small then Ok (Whole n) else Err NumberRange)) else Ok Nan) IsWithin
within_parts true fraction small n h = within_if fraction small n h
within_parts false fraction small n h = tt

small_is : (n m : ℕ) → nat_le n m ≡ true → n ≤ m
small_is n m e = grind (arith, nat_tests)

pub behind_sign_within : (b : Bool) (text : List ℕ) → IfOk (number_behind_sign b text) IsWithin
unfolding number_behind_sign
behind_sign_within b text =
    within_parts _ _ (nat_le (whole_value text) greatest) (signed b (whole_value text))
    (λ e. omega (arith, size_of_signed b (whole_value text), small_is (whole_value text) greatest e))

pub within : (r : Result Number NumberFault) (b : Bool) (text : List ℕ) → r ≡ number_behind_sign b text → IfOk r IsWithin
within r b text e = subst (λ (x : Result Number NumberFault). IfOk x IsWithin) (sym e) (behind_sign_within b text)
