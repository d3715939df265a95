-- The leftmost offending token.
use Rattle.std.specs.Prelude.{◌≡◌, Bool, true, List, [], ◌∷◌, map, Option, Some, None, if◌then◌else◌}
use Rattle.xpath_words.specs.declared.terminal.Terminal.{Terminal}
use Rattle.xpath_words.specs.declared.terminal.Terminal.TheVariants as t
use Rattle.xpath_words.specs.declared.terminal.Token.{Token}
use Rattle.xpath_words.specs.declared.terminal.Offence.{Offence}
use Rattle.xpath_words.specs.declared.terminal.Offence.TheVariants as offence
use Rattle.xpath_words.specs.Functions.{permits}
use Rattle.xpath_syntax.specs.declared.refusal.SyntaxRefusal.{SyntaxRefusal}
use Rattle.xpath_syntax.specs.declared.refusal.SyntaxRefusal.TheVariants as refusal
use Rattle.xpath_syntax.specs.Counts.{arguments}

abbrev pub terminals : List Token → List Terminal
terminals ts = map (λ t. t.terminal) ts

abbrev pub refusal_of : Offence → SyntaxRefusal
refusal_of offence.Fraction = refusal.Fraction
refusal_of offence.NumberRange = refusal.NumberRange
refusal_of offence.Div = refusal.Div
refusal_of offence.Variable = refusal.Variable
refusal_of offence.UnknownFunction = refusal.UnknownFunction
refusal_of offence.UnboundPrefix = refusal.UnboundPrefix

-- a function before its `(` has a permitted number of arguments behind it (XPath 1.0, section 4)
abbrev pub permitted : Terminal → List Terminal → Bool
permitted (t.Call g) more = permits g (arguments more)
permitted _ more = true

-- what is wrong with a token, by its own offence and the terminals behind it
abbrev pub offence_of : Option Offence → Terminal → List Terminal → Option SyntaxRefusal
offence_of (Some o) sign more = Some (refusal_of o)
offence_of None sign more = if permitted sign more then None else Some refusal.Arity

abbrev pub or_else : Option SyntaxRefusal → Option SyntaxRefusal → Option SyntaxRefusal
or_else None later = later
or_else (Some r) later = Some r

-- the offence of the first token that has one
unfoldable pub first_offence : List Token → Option SyntaxRefusal
first_offence [] = None
first_offence (token ∷ more) = or_else (offence_of token.offence token.terminal (terminals more)) (first_offence more)

-- no token is offensive in itself
abbrev pub NoneByItself : List Token → Type 0
NoneByItself [] = Unit {0}
NoneByItself (token ∷ more) = (token.offence ≡ None) × NoneByItself more
