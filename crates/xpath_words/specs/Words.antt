-- The tokens of a text, the longest one each time (XPath 1.0 §3.7, ExprToken).
use Rattle.std.specs.Prelude.{◌≡◌, ℕ, ◌≤◌, true, List, [], ◌∷◌, ◌++◌, length, codes}
use Rattle.std.specs.List.{list_all}
use Rattle.xpath_words.specs.Characters.{is_space, is_digit, is_quote, differs, begins_name, is_in_name}
use Rattle.xpath_words.specs.declared.word.Sign.{Sign}
use Rattle.xpath_words.specs.declared.word.Sign.TheVariants as signs
use Rattle.xpath_words.specs.declared.word.Word.{Word}
use Rattle.xpath_words.specs.declared.word.Word.TheVariants as words

-- how the signs are written (XPath 1.0 §3.7, ExprToken and Operator)
abbrev pub sign_text : Sign → List ℕ
sign_text signs.Open = codes "("
sign_text signs.Close = codes ")"
sign_text signs.OpenBracket = codes "["
sign_text signs.CloseBracket = codes "]"
sign_text signs.Dot = codes "."
sign_text signs.DoubleDot = codes ".."
sign_text signs.At = codes "@"
sign_text signs.Comma = codes ","
sign_text signs.DoubleColon = codes "::"
sign_text signs.Slash = codes "/"
sign_text signs.DoubleSlash = codes "//"
sign_text signs.Bar = codes "|"
sign_text signs.Plus = codes "+"
sign_text signs.Minus = codes "-"
sign_text signs.Equal = codes "="
sign_text signs.NotEqual = codes "!="
sign_text signs.Less = codes "<"
sign_text signs.LessEqual = codes "<="
sign_text signs.Greater = codes ">"
sign_text signs.GreaterEqual = codes ">="
sign_text signs.Star = codes "*"
sign_text signs.Dollar = codes "$"

-- the characters are an NCName (Namespaces in XML 1.0 §3)
abbrev pub IsNCName : List ℕ → Type 0
IsNCName [] = ⊥
IsNCName (c ∷ cs) = (begins_name c ≡ true) × (list_all is_in_name cs ≡ true)

-- one or more digits (XPath 1.0 §3.7, Digits)
abbrev pub AreDigits : List ℕ → Type 0
AreDigits [] = ⊥
AreDigits (c ∷ cs) = (is_digit c ≡ true) × (list_all is_digit cs ≡ true)

-- These characters spell this token: signs, a Literal, a Number in its three forms (XPath 1.0 §3.7), a QName without and with a
-- prefix (Namespaces in XML 1.0 §4), or NCName:* (XPath 1.0 §3.7, NameTest).
pub data Spells : List ℕ → Word → Type 0 where
  sign : (s : Sign) → Spells (sign_text s) (words.Sign s)
  literal : (mark : ℕ) (text : List ℕ) → is_quote mark ≡ true → list_all (differs mark) text ≡ true
      → Spells (mark ∷ (text ++ (mark ∷ []))) (words.Literal text)
  whole : (digits : List ℕ) → AreDigits digits → Spells digits (words.Number digits)
  decimal : (digits fraction : List ℕ) → AreDigits digits → list_all is_digit fraction ≡ true
      → Spells (digits ++ (46 ∷ fraction)) (words.Number (digits ++ (46 ∷ fraction)))
  fraction : (digits : List ℕ) → AreDigits digits → Spells (46 ∷ digits) (words.Number (46 ∷ digits))
  name : (local : List ℕ) → IsNCName local → Spells local (words.Name [] local)
  qualified : (prefix local : List ℕ) → IsNCName prefix → IsNCName local → Spells (prefix ++ (58 ∷ local)) (words.Name prefix local)
  any_in : (prefix : List ℕ) → IsNCName prefix → Spells (prefix ++ (58 ∷ (42 ∷ []))) (words.AnyIn prefix)

-- No token that stands at the front of xs is longer than s (XPath 1.0 §3.7: the longest token is taken).
abbrev pub IsLongest : List ℕ → List ℕ → Type 0
IsLongest s xs = (other rest : List ℕ) (word : Word) → Spells other word → xs ≡ other ++ rest → length other ≤ length s

-- These characters spell these tokens, the longest one each time, with white space anywhere between.
pub data SpellsAll : List ℕ → List Word → Type 0 where
  no_more : (space : List ℕ) → list_all is_space space ≡ true → SpellsAll space []
  one_more : (space s rest : List ℕ) (word : Word) (more : List Word) → list_all is_space space ≡ true → Spells s word
      → IsLongest s (s ++ rest) → SpellsAll rest more → SpellsAll (space ++ (s ++ rest)) (word ∷ more)
