-- The test of a class of characters.
use Rattle.std.specs.Prelude.{ℕ, Bool}
use Rattle.xpath_words.specs.Characters.{is_space, is_digit, is_quote, is_point, is_colon, is_star, differs, begins_name, is_in_name}
use Rattle.xpath_words.specs.declared.class.Class.{Class}
use Rattle.xpath_words.specs.declared.class.Class.TheVariants as classes

abbrev pub test_of : Class → ℕ → Bool
test_of classes.Space = is_space
test_of classes.Digit = is_digit
test_of classes.Quote = is_quote
test_of classes.Point = is_point
test_of classes.Colon = is_colon
test_of classes.Star = is_star
test_of classes.NameStart = begins_name
test_of classes.Name = is_in_name
test_of (classes.Other mark) = differs mark
