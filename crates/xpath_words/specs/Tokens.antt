-- The tokens of an expression's text, each with its meaning (XPath 1.0 §3.7).
use Rattle.std.specs.Prelude.{◌≡◌, ℕ, false, List, Option, Some, None, option_and_then, Result, Ok, Err, Vec}
use Rattle.xpath_words.specs.Prefixes.{Pair}
use Rattle.xpath_words.specs.Reading.{words_of}
use Rattle.xpath_words.specs.Meaning.{meanings}
use Rattle.xpath_words.specs.Terminals.{grouped}
use Rattle.xpath_words.specs.declared.terminal.Token.{Token}
use Rattle.xpath_words.specs.declared.fault.TokensFault.{TokensFault}
use Rattle.xpath_words.specs.declared.fault.TokensFault.TheVariants as faults

-- The tokens of a text, by the pairs of a prefix and a namespace name in scope. None: the text has no cut into tokens, or a
-- token has no meaning in its place.
unfoldable pub tokens_of : List ℕ → List Pair → Option (List Token)
tokens_of text pairs = option_and_then (λ words. option_and_then (grouped pairs) (meanings false words)) (words_of text)

-- A call gives just these tokens; it may want memory whatever they are.
abbrev pub Reads : {A : Type 0} → Result (Vec Token A) TokensFault → Option (List Token) → Type 0
Reads (Ok tokens) read = read ≡ Some tokens.items
Reads (Err faults.NotXPath) read = read ≡ None
Reads (Err faults.Memory) read = Unit {0}
