-- The definitions, computed on the examples of the standard (XPath 1.0 §4.2) and on examples that were worked by hand.
use Rattle.std.proofs.Common.{◌≡◌, refl, [], ◌∷◌, Some, None, Ok, Err}
use Rattle.std.specs.Prelude.{codes, pos, negsuc}
use Rattle.xpath_value.specs.Characters.{stripped_end, stripped_start}
use Rattle.xpath_value.specs.Numbers.{number_behind_sign, number_of}
use Rattle.xpath_value.specs.Texts.{at_places, begins_with, first_occurrence, normalized, runs_replaced, substring_after_of, substring_before_of, substring_of, translated}
use Rattle.xpath_value.specs.declared.number.Number.TheVariants.{Whole, Nan}
use Rattle.xpath_value.specs.declared.number.NumberFault.TheVariants.{Fraction, NumberRange}

-- substring("12345", 2, 3) returns "234"
pub places_two_to_four : substring_of (codes "12345") (Whole (pos 2)) (Some (Whole (pos 3))) ≡ codes "234"
unfolding at_places
places_two_to_four = refl

-- substring("12345", 2) returns "2345"
pub places_from_two : substring_of (codes "12345") (Whole (pos 2)) None ≡ codes "2345"
unfolding at_places
places_from_two = refl

-- substring("12345", 0, 3) returns "12"
pub places_from_zero : substring_of (codes "12345") (Whole (pos 0)) (Some (Whole (pos 3))) ≡ codes "12"
unfolding at_places
places_from_zero = refl

-- substring("12345", 0 div 0, 3) returns ""
pub no_place : substring_of (codes "12345") Nan (Some (Whole (pos 3))) ≡ []
unfolding at_places
no_place = refl

-- substring("12345", 1, 0 div 0) returns ""
pub no_count : substring_of (codes "12345") (Whole (pos 1)) (Some Nan) ≡ []
unfolding at_places
no_count = refl

-- a first place far below 1
pub places_from_below : substring_of (codes "12345") (Whole (negsuc 41)) (Some (Whole (pos 45))) ≡ codes "12"
unfolding at_places
places_from_below = refl

-- substring-before("1999/04/01","/") returns 1999
pub before_slash : substring_before_of (codes "1999/04/01") (codes "/") ≡ codes "1999"
unfolding begins_with first_occurrence
before_slash = refl

-- substring-after("1999/04/01","/") returns 04/01
pub after_slash : substring_after_of (codes "1999/04/01") (codes "/") ≡ codes "04/01"
unfolding begins_with first_occurrence
after_slash = refl

-- substring-after("1999/04/01","19") returns 99/04/01
pub after_19 : substring_after_of (codes "1999/04/01") (codes "19") ≡ codes "99/04/01"
unfolding begins_with first_occurrence
after_19 = refl

-- a mark that isn't there, and an empty one
pub before_nothing : substring_before_of (codes "1999") (codes "-") ≡ []
unfolding begins_with first_occurrence
before_nothing = refl

pub after_the_empty_mark : substring_after_of (codes "1999") [] ≡ codes "1999"
unfolding begins_with first_occurrence
after_the_empty_mark = refl

-- translate("bar","abc","ABC") returns the string BAr
pub translated_bar : translated (codes "abc") (codes "ABC") (codes "bar") ≡ codes "BAr"
unfolding translated
translated_bar = refl

-- translate("--aaa--","abc-","ABC") returns "AAA"
pub translated_dashes : translated (codes "abc-") (codes "ABC") (codes "--aaa--") ≡ codes "AAA"
unfolding translated
translated_dashes = refl

-- two spaces, a, a tab, b, a line feed
pub normal_text : normalized (32 ∷ 32 ∷ 97 ∷ 9 ∷ 98 ∷ 10 ∷ []) ≡ codes "a b"
unfolding normalized runs_replaced stripped_start stripped_end
normal_text = refl

-- numbers of texts
pub whole_number : number_of (codes " -12.0 ") ≡ Ok (Whole (negsuc 11))
unfolding number_of number_behind_sign stripped_start stripped_end
whole_number = refl

pub no_negative_zero : number_of (codes "-0") ≡ Ok (Whole (pos 0))
unfolding number_of number_behind_sign stripped_start stripped_end
no_negative_zero = refl

pub fraction : number_of (codes "2.50") ≡ Err Fraction
unfolding number_of number_behind_sign stripped_start stripped_end
fraction = refl

pub greatest_number : number_of (codes "9007199254740991") ≡ Ok (Whole (pos 9007199254740991))
unfolding number_of number_behind_sign stripped_start stripped_end
greatest_number = refl

pub too_great : number_of (codes "9007199254740992") ≡ Err NumberRange
unfolding number_of number_behind_sign stripped_start stripped_end
too_great = refl

pub fraction_comes_first : number_of (codes "99999999999999999999.5") ≡ Err Fraction
unfolding number_of number_behind_sign stripped_start stripped_end
fraction_comes_first = refl

pub space_behind_the_sign : number_of (codes "- 1") ≡ Ok Nan
unfolding number_of number_behind_sign stripped_start stripped_end
space_behind_the_sign = refl

pub point_alone : number_of (codes ".") ≡ Ok Nan
unfolding number_of number_behind_sign stripped_start stripped_end
point_alone = refl
