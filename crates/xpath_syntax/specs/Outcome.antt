-- What the text of an expression comes to.
use Rattle.std.specs.Prelude.{◌≡◌, ℕ, ◌<◌, ◌≤◌, Bool, true, false, List, length, Option, Some, None, Result, Ok, Err, nat_lt, if◌then◌else◌}
use Rattle.std.specs.Str.{chars}
use Rattle.xpath_words.specs.Prefixes.{Pair}
use Rattle.xpath_words.specs.Tokens.{tokens_of}
use Rattle.xpath_words.specs.declared.terminal.Token.{Token}
use Rattle.xpath_syntax.specs.declared.expr.Expr.{Expr}
use Rattle.xpath_syntax.specs.declared.refusal.SyntaxRefusal.{SyntaxRefusal}
use Rattle.xpath_syntax.specs.declared.refusal.SyntaxRefusal.TheVariants as refusal
use Rattle.xpath_syntax.specs.Grammar.{Spells, Level}
use Rattle.xpath_syntax.specs.Lawful.{Lawful, One}
use Rattle.xpath_syntax.specs.Nesting.{limit, nesting}
use Rattle.xpath_syntax.specs.Offences.{terminals, first_offence}
use Rattle.xpath_syntax.specs.Reading.{expression_of}

-- the most octets of a text
abbrev pub greatest : ℕ
greatest = 4096

-- ---- as a relation

-- The first refusal that holds, in this order, and else the expression that the grammar gives. A terminal stands in the
-- place of each offending token, so that the grammar has its say before the offences.
pub data Means : List ℕ → List Pair → Result Expr SyntaxRefusal → Type 0 where
  too_long : (text : List ℕ) (ps : List Pair) → greatest < length text → Means text ps (Err refusal.TooLong)
  no_tokens : (text : List ℕ) (ps : List Pair) → length text ≤ greatest → tokens_of (chars text) ps ≡ None
      → Means text ps (Err refusal.NotXPath)
  not_spelled : (text : List ℕ) (ps : List Pair) (ts : List Token) → length text ≤ greatest
      → tokens_of (chars text) ps ≡ Some ts → ((x : Expr) → Spells (Level 0 x) (terminals ts) → ⊥)
      → Means text ps (Err refusal.NotXPath)
  too_deep : (text : List ℕ) (ps : List Pair) (ts : List Token) (x : Expr) → length text ≤ greatest
      → tokens_of (chars text) ps ≡ Some ts → (h : Spells (Level 0 x) (terminals ts))
      → limit < nesting (Level 0 x) (terminals ts) h → Means text ps (Err refusal.TooDeep)
  offending : (text : List ℕ) (ps : List Pair) (ts : List Token) (x : Expr) (r : SyntaxRefusal) → length text ≤ greatest
      → tokens_of (chars text) ps ≡ Some ts → (h : Spells (Level 0 x) (terminals ts))
      → nesting (Level 0 x) (terminals ts) h ≤ limit → first_offence ts ≡ Some r → Means text ps (Err r)
  spelled : (text : List ℕ) (ps : List Pair) (ts : List Token) (x : Expr) → length text ≤ greatest
      → tokens_of (chars text) ps ≡ Some ts → (h : Spells (Level 0 x) (terminals ts))
      → nesting (Level 0 x) (terminals ts) h ≤ limit → first_offence ts ≡ None → Means text ps (Ok x)

-- The text's terminals spell the expression, they don't nest too deep, and no token is offending.
pub record Spelled (text : List ℕ) (ps : List Pair) (x : Expr) : Type 0 where
  pub tokens : List Token
  pub reads : tokens_of (chars text) ps ≡ Some tokens
  pub spells : Spells (Level 0 x) (terminals tokens)
  pub within : nesting (Level 0 x) (terminals tokens) spells ≤ limit
  pub none_offends : first_offence tokens ≡ None
  pub lawful : Lawful (One x)

-- The text has no terminals that spell an expression.
abbrev pub SpellsNone : List ℕ → List Pair → Type 0
SpellsNone text ps =
    (ts : List Token) (x : Expr) → tokens_of (chars text) ps ≡ Some ts → Spells (Level 0 x) (terminals ts) → ⊥

-- ---- as a function

-- the first offence, else the expression
abbrev pub offended : Option SyntaxRefusal → Expr → Result Expr SyntaxRefusal
offended (Some r) x = Err r
offended None x = Ok x

-- the expression that the terminals spell, if any, and whether they nest too deep
abbrev pub decided : Option SyntaxRefusal → Option (Expr × Bool) → Result Expr SyntaxRefusal
decided first None = Err refusal.NotXPath
decided first (Some (x, true)) = Err refusal.TooDeep
decided first (Some (x, false)) = offended first x

abbrev pub tokens_outcome : Option (List Token) → Result Expr SyntaxRefusal
tokens_outcome None = Err refusal.NotXPath
tokens_outcome (Some ts) = decided (first_offence ts) (expression_of (terminals ts))

-- What a text, as octets, comes to, by the pairs of a prefix and a namespace name in scope.
unfoldable pub parse_outcome : List ℕ → List Pair → Result Expr SyntaxRefusal
parse_outcome text ps =
    if nat_lt greatest (length text) then Err refusal.TooLong else tokens_outcome (tokens_of (chars text) ps)

-- ---- an answer

-- a refusal is the outcome, unless memory ran out
abbrev pub Refuses : SyntaxRefusal → Result Expr SyntaxRefusal → Type 0
Refuses refusal.Memory outcome = Unit {0}
Refuses r outcome = outcome ≡ Err r

-- the answer is the outcome, unless memory ran out
abbrev pub Answers : Result Expr SyntaxRefusal → Result Expr SyntaxRefusal → Type 0
Answers (Ok x) outcome = outcome ≡ Ok x
Answers (Err r) outcome = Refuses r outcome

-- the text means the answer, unless memory ran out
abbrev pub IsMeant : List ℕ → List Pair → Result Expr SyntaxRefusal → Type 0
IsMeant text ps (Err refusal.Memory) = Unit {0}
IsMeant text ps answer = Means text ps answer
