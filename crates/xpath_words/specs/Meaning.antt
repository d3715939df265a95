-- What `*` and a name mean, by the token before (the rules of XPath 1.0 §3.7 by which tokens are told apart).
use Rattle.std.specs.Prelude.{ℕ, Bool, true, false, List, [], ◌∷◌, Option, Some, None, option_and_then, option_map, if◌then◌else◌, codes, find, bytes_eq, encode_utf8_all}
use Rattle.xpath_words.specs.Characters.{is_empty}
use Rattle.xpath_words.specs.Reading.{before_all}
use Rattle.xpath_words.specs.declared.word.Sign.{Sign}
use Rattle.xpath_words.specs.declared.word.Sign.TheVariants as signs
use Rattle.xpath_words.specs.declared.word.Word.{Word}
use Rattle.xpath_words.specs.declared.word.Word.TheVariants as words
use Rattle.xpath_words.specs.declared.meaning.OperatorName.{OperatorName}
use Rattle.xpath_words.specs.declared.meaning.OperatorName.TheVariants as operators
use Rattle.xpath_words.specs.declared.meaning.Meant.{Meant}
use Rattle.xpath_words.specs.declared.meaning.Meant.TheVariants as meant

-- the names that may be operators (XPath 1.0 §3.7, OperatorName)
abbrev pub operator_text : OperatorName → List ℕ
operator_text operators.Or = codes "or"
operator_text operators.And = codes "and"
operator_text operators.Mod = codes "mod"
operator_text operators.Div = codes "div"

-- the operator of this name, given as UTF-8 octets
abbrev pub operator_named : List ℕ → Option OperatorName
operator_named name = find (λ o. bytes_eq name (operator_text o)) (operators.Or ∷ operators.And ∷ operators.Mod ∷ operators.Div ∷ [])

-- the star
abbrev pub is_star : Sign → Bool
is_star signs.Star = true
is_star _ = false

-- an operand may end with these signs
abbrev pub closes : Sign → Bool
closes signs.Close = true
closes signs.CloseBracket = true
closes signs.Dot = true
closes signs.DoubleDot = true
closes _ = false

-- An operand may end with the token, so that an operator stands behind it: it is neither an operator nor one of @ :: ( [ and
-- the comma. The $ isn't one either, since the name behind it is that of a variable.
abbrev pub ends_operand : Meant → Bool
ends_operand (meant.Sign s) = closes s
ends_operand meant.Multiply = false
ends_operand (meant.Operator o) = false
ends_operand meant.Any = true
ends_operand (meant.Name prefix local) = true
ends_operand (meant.AnyIn prefix) = true
ends_operand (meant.Literal text) = true
ends_operand (meant.Number text) = true

-- a name behind an operand, which must be an operator
abbrev pub operator_of : List ℕ → List ℕ → Option Meant
operator_of prefix local =
    if is_empty prefix then option_map (λ o. meant.Operator o) (operator_named (encode_utf8_all local)) else None

-- what a token means, behind an operand or not
abbrev pub meaning_of : Bool → Word → Option Meant
meaning_of is_behind (words.Sign s) =
    Some (if is_star s then (if is_behind then meant.Multiply else meant.Any) else meant.Sign s)
meaning_of is_behind (words.Literal text) = Some (meant.Literal text)
meaning_of is_behind (words.Number text) = Some (meant.Number text)
meaning_of is_behind (words.Name prefix local) = if is_behind then operator_of prefix local else Some (meant.Name prefix local)
meaning_of is_behind (words.AnyIn prefix) = Some (meant.AnyIn prefix)

-- what tokens mean, each by the meaning of the one before, the first one behind an operand or not
unfoldable pub meanings : Bool → List Word → Option (List Meant)
meanings is_behind [] = Some []
meanings is_behind (word ∷ more) = option_and_then (λ m. before_all m (meanings (ends_operand m) more)) (meaning_of is_behind word)
