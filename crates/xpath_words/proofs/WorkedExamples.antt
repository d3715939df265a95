-- The definitions, computed on short texts.
use Rattle.std.proofs.Common.{◌≡◌, refl, [], ◌∷◌, Some, None, false}
use Rattle.std.specs.Prelude.{codes, pos}
use lib.Utf8.{encode}
use Rattle.xpath_value.specs.Characters.{stripped_start, stripped_end}
use Rattle.xpath_value.specs.Numbers.{number_behind_sign}
use Rattle.xpath_value.specs.Numbers as numbers
use Rattle.xpath_value.specs.declared.number.Number.TheVariants as number
use Rattle.xml_names.specs.Characters.{is_name_start, is_name_char}
use Rattle.xpath_words.specs.Characters.{front, behind}
use Rattle.xpath_words.specs.Reading.{long_sign, short_sign, sign_of, number_of, name_of, word_of, words_behind, words_of}
use Rattle.xpath_words.specs.Meaning.{meanings}
use Rattle.xpath_words.specs.Prefixes.{namespace_of}
use Rattle.xpath_words.specs.Terminals.{lawful, offending, group_at, groups_behind}
use Rattle.xpath_words.specs.Tokens.{tokens_of}
use Rattle.xpath_words.specs.declared.word.Sign.TheVariants as signs
use Rattle.xpath_words.specs.declared.word.Word.TheVariants as words
use Rattle.xpath_words.specs.declared.meaning.OperatorName.TheVariants as names
use Rattle.xpath_words.specs.declared.meaning.Meant.TheVariants as meant
use Rattle.xpath_words.specs.declared.operator.BinaryOp.TheVariants as operators
use Rattle.xpath_words.specs.declared.axis.AxisName.TheVariants as axes
use Rattle.xpath_words.specs.declared.function.Function.TheVariants as function
use Rattle.xpath_words.specs.declared.test.NodeTest.TheVariants as tests
use Rattle.xpath_words.specs.declared.terminal.Terminal.TheVariants as terminals
use Rattle.xpath_words.specs.declared.terminal.Offence.TheVariants as offences

-- ---- The longest token

pub a_point_after_digits : words_of (codes "5..") ≡ Some (words.Number (codes "5.") ∷ words.Sign signs.Dot ∷ [])
unfolding front behind word_of number_of sign_of short_sign long_sign words_behind is_name_start
a_point_after_digits = refl

pub a_point_before_digits : words_of (codes "..5") ≡ Some (words.Sign signs.DoubleDot ∷ words.Number (codes "5") ∷ [])
unfolding front behind word_of number_of sign_of short_sign long_sign words_behind is_name_start
a_point_before_digits = refl

pub less_or_equal : words_of (codes "<=<") ≡ Some (words.Sign signs.LessEqual ∷ words.Sign signs.Less ∷ [])
unfolding word_of sign_of short_sign long_sign words_behind is_name_start
less_or_equal = refl

pub a_name_with_a_prefix : words_of (codes "a:b") ≡ Some (words.Name (codes "a") (codes "b") ∷ [])
unfolding front behind word_of name_of words_behind is_name_start is_name_char
a_name_with_a_prefix = refl

pub all_of_a_prefix : words_of (codes "a:*") ≡ Some (words.AnyIn (codes "a") ∷ [])
unfolding front behind word_of name_of words_behind is_name_start is_name_char
all_of_a_prefix = refl

pub an_axis : words_of (codes "a::b") ≡ Some (words.Name [] (codes "a") ∷ words.Sign signs.DoubleColon ∷ words.Name [] (codes "b") ∷ [])
unfolding front behind word_of name_of sign_of short_sign long_sign words_behind is_name_start is_name_char
an_axis = refl

pub a_lone_colon : words_of (codes "a :*") ≡ None
unfolding front behind word_of name_of sign_of short_sign long_sign words_behind is_name_start is_name_char
a_lone_colon = refl

-- ---- The token before

pub three_stars : meanings false (words.Sign signs.Star ∷ words.Sign signs.Star ∷ words.Sign signs.Star ∷ []) ≡ Some (meant.Any ∷ meant.Multiply ∷ meant.Any ∷ [])
unfolding meanings
three_stars = refl

pub three_times_div : meanings false (words.Name [] (codes "div") ∷ words.Name [] (codes "div") ∷ words.Name [] (codes "div") ∷ [])
    ≡ Some (meant.Name [] (codes "div") ∷ meant.Operator names.Div ∷ meant.Name [] (codes "div") ∷ [])
unfolding encode meanings
three_times_div = refl

pub no_operator : meanings false (words.Name [] (codes "a") ∷ words.Name (codes "p") (codes "or") ∷ []) ≡ None
unfolding meanings
no_operator = refl

-- ---- Terminals

pub a_division : tokens_of (codes "1 div 2") [] ≡ Some (lawful (terminals.Number (number.Whole (pos 1))) ∷ offending (terminals.Operator operators.Mod) offences.Div ∷ lawful (terminals.Number (number.Whole (pos 2))) ∷ [])
unfolding encode front behind word_of name_of sign_of number_of words_behind is_name_start is_name_char meanings group_at groups_behind tokens_of numbers.number_of number_behind_sign stripped_start stripped_end
a_division = refl

pub a_variable : tokens_of (codes "$ or") [] ≡ Some (offending (terminals.Literal []) offences.Variable ∷ [])
unfolding front behind word_of name_of sign_of short_sign long_sign words_behind is_name_start is_name_char meanings group_at groups_behind tokens_of
a_variable = refl

pub a_node_type : tokens_of (codes "self ::text ( )") [] ≡ Some (lawful (terminals.Axis axes.SelfNode) ∷ lawful (terminals.Test tests.Words) ∷ [])
unfolding encode front behind word_of name_of sign_of short_sign long_sign words_behind is_name_start is_name_char meanings group_at groups_behind tokens_of
a_node_type = refl

pub a_call : tokens_of (codes "last()") [] ≡ Some (lawful (terminals.Call function.Last) ∷ lawful terminals.Close ∷ [])
unfolding encode front behind word_of name_of sign_of short_sign long_sign words_behind is_name_start is_name_char meanings group_at groups_behind tokens_of
a_call = refl

pub no_function : tokens_of (codes "p:last()") ((codes "p", codes "u") ∷ []) ≡ Some (offending (terminals.Call function.Last) offences.UnknownFunction ∷ lawful terminals.Close ∷ [])
unfolding front behind word_of name_of sign_of short_sign long_sign words_behind is_name_start is_name_char meanings group_at groups_behind tokens_of
no_function = refl

pub the_first_pair_counts : namespace_of (codes "p") ((codes "q", codes "u") ∷ (codes "p", codes "v") ∷ (codes "p", codes "w") ∷ []) ≡ Some (codes "v")
unfolding namespace_of
the_first_pair_counts = refl
