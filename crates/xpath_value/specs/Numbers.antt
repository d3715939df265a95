-- Numbers of an expression (XPath 1.0 §3.5), restricted to whole numbers of at most 53 bits and NaN, and the two conversions
-- between numbers and texts (XPath 1.0 §4.2 and §4.4).
use Rattle.std.specs.Prelude.{ℕ, suc, ℤ, pos, negsuc, neg_ℤ, nat_abs, Bool, true, false, ◌&&◌, ◌==◌, not, nat_le, ◌≤◌, List, [], ◌∷◌, Result, Ok, Err, if◌then◌else◌, codes, decimal}
use Rattle.std.specs.List.{list_all, before_first, after_first}
use Rattle.std.specs.Str.Parse.{digits_value}
use Rattle.xpath_value.specs.Characters.{is_digit, is_empty, is_point, is_zero, stripped}
use Rattle.xpath_value.specs.declared.number.Number.{Number}
use Rattle.xpath_value.specs.declared.number.Number.TheVariants.{Whole, Nan}
use Rattle.xpath_value.specs.declared.number.NumberFault.{NumberFault}
use Rattle.xpath_value.specs.declared.number.NumberFault.TheVariants.{Fraction, NumberRange}

-- the greatest number, 2 ^ 53 - 1
abbrev pub greatest : ℕ
greatest = 9007199254740991

-- the digits before the point, all of the text where it has none
abbrev pub whole_part : List ℕ → List ℕ
whole_part text = before_first is_point text

-- what stands behind the point
abbrev pub fraction_part : List ℕ → List ℕ
fraction_part text = after_first is_point text

-- the two parts are digits, and not both are empty
abbrev pub are_parts : List ℕ → List ℕ → Bool
are_parts whole fraction = list_all is_digit whole && (list_all is_digit fraction && not (is_empty whole && is_empty fraction))

-- a Number (XPath 1.0 §3.7): digits, or digits and a point, with or without digits behind it, or a point and digits
abbrev pub is_number : List ℕ → Bool
is_number text = are_parts (whole_part text) (fraction_part text)

-- some digit behind the point isn't zero
abbrev pub has_fraction : List ℕ → Bool
has_fraction text = not (list_all is_zero (fraction_part text))

-- the value of the digits before the point
abbrev pub whole_value : List ℕ → ℕ
whole_value text = digits_value 10 (whole_part text)

-- the integer of that size: there is no negative zero
abbrev pub signed : Bool → ℕ → ℤ
signed is_negative n = if is_negative then neg_ℤ (pos n) else pos n

-- the number that a text without its sign spells, or why it isn't a whole number in the range
unfoldable pub number_behind_sign : Bool → List ℕ → Result Number NumberFault
number_behind_sign is_negative text =
    if is_number text
    then (if has_fraction text then Err Fraction
    else (if nat_le (whole_value text) greatest then Ok (Whole (signed is_negative (whole_value text))) else Err NumberRange))
    else Ok Nan

-- the number of a text without white space at its ends: a minus sign may stand before a Number
abbrev pub number_with_sign : List ℕ → Result Number NumberFault
number_with_sign [] = number_behind_sign false []
number_with_sign (c ∷ cs) = if c == 45 then number_behind_sign true cs else number_behind_sign false (c ∷ cs)

-- `number` of a text (XPath 1.0 §4.4): white space, a minus sign or none, a Number, white space; every other text is NaN
unfoldable pub number_of : List ℕ → Result Number NumberFault
number_of text = number_with_sign (stripped text)

-- `string` of a number (XPath 1.0 §4.2): decimal digits without leading zeros, a minus sign before them where it is
-- negative, and NaN
abbrev pub text_of : Number → List ℕ
text_of Nan = codes "NaN"
text_of (Whole (pos n)) = decimal n
text_of (Whole (negsuc n)) = 45 ∷ decimal (suc n)

-- NaN, or an integer whose size is at most the greatest number
abbrev pub IsWithin : Number → Type 0
IsWithin Nan = Unit {0}
IsWithin (Whole n) = nat_abs n ≤ greatest
