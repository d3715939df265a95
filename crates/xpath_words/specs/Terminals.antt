-- The terminals of the grammar (XPath 1.0 §2.3, §3.1 and §3.7), each of one token or of several that belong together, and what
-- is wrong with them.
use Rattle.std.specs.Prelude.{ℕ, suc, zero, Bool, true, false, List, [], ◌∷◌, Option, Some, None, Result, Ok, Err, option_and_then, if◌then◌else◌, encode_utf8_all}
use Rattle.std.specs.Str.{chars}
use Rattle.xpath_value.specs.Numbers as numbers
use Rattle.xpath_value.specs.declared.number.Number.{Number}
use Rattle.xpath_value.specs.declared.number.Number.TheVariants as number
use Rattle.xpath_value.specs.declared.number.NumberFault.{NumberFault}
use Rattle.xpath_value.specs.declared.number.NumberFault.TheVariants as faults
use Rattle.xpath_words.specs.Reading.{before_all}
use Rattle.xpath_words.specs.Characters.{is_empty}
use Rattle.xpath_words.specs.Named.{axis_named, type_named, function_named}
use Rattle.xpath_words.specs.Prefixes.{Pair, namespace_of}
use Rattle.xpath_words.specs.declared.word.Sign.{Sign}
use Rattle.xpath_words.specs.declared.word.Sign.TheVariants as signs
use Rattle.xpath_words.specs.declared.meaning.OperatorName.{OperatorName}
use Rattle.xpath_words.specs.declared.meaning.OperatorName.TheVariants as names
use Rattle.xpath_words.specs.declared.meaning.Meant.{Meant}
use Rattle.xpath_words.specs.declared.meaning.Meant.TheVariants as meant
use Rattle.xpath_words.specs.declared.operator.BinaryOp.TheVariants as operators
use Rattle.xpath_words.specs.declared.axis.AxisName.{AxisName}
use Rattle.xpath_words.specs.declared.axis.AxisName.TheVariants as axes
use Rattle.xpath_words.specs.declared.function.Function.{Function}
use Rattle.xpath_words.specs.declared.function.Function.TheVariants as function
use Rattle.xpath_words.specs.declared.group.NodeType.{NodeType}
use Rattle.xpath_words.specs.declared.group.NodeType.TheVariants as types
use Rattle.xpath_words.specs.declared.test.NodeTest.{NodeTest}
use Rattle.xpath_words.specs.declared.test.NodeTest.TheVariants as tests
use Rattle.xpath_words.specs.declared.terminal.Terminal.{Terminal}
use Rattle.xpath_words.specs.declared.terminal.Terminal.TheVariants as terminals
use Rattle.xpath_words.specs.declared.terminal.Offence.{Offence}
use Rattle.xpath_words.specs.declared.terminal.Offence.TheVariants as offences
use Rattle.xpath_words.specs.declared.terminal.Token.{Token}

-- a terminal with which nothing is wrong, and one with which something is
abbrev pub lawful : Terminal → Token
lawful t = record { terminal = t; offence = None }

abbrev pub offending : Terminal → Offence → Token
offending t o = record { terminal = t; offence = Some o }

-- a terminal, and how many tokens more than the first belong to it
abbrev pub Group : Type 0
Group = Token × ℕ

abbrev pub alone : Terminal → Option Group
alone t = Some (lawful t, 0)

-- ---- What comes behind

abbrev pub begins_open : List Meant → Bool
begins_open (meant.Sign signs.Open ∷ more) = true
begins_open _ = false

abbrev pub begins_close : List Meant → Bool
begins_close (meant.Sign signs.Close ∷ more) = true
begins_close _ = false

abbrev pub begins_colons : List Meant → Bool
begins_colons (meant.Sign signs.DoubleColon ∷ more) = true
begins_colons _ = false

abbrev pub begins_name : List Meant → Bool
begins_name (meant.Name prefix local ∷ more) = true
begins_name _ = false

abbrev pub behind_first : List Meant → List Meant
behind_first [] = []
behind_first (m ∷ more) = more

-- ---- Single tokens

-- a variable (XPath 1.0 §3.1): none is bound, so a text stands in its place
abbrev pub variable : List Meant → Option Group
variable more = if begins_name more then Some (offending (terminals.Literal []) offences.Variable, 1) else None

-- signs; `@` is the attribute axis (XPath 1.0 §2.5), and `::` stands behind an axis alone
abbrev pub sign_at : Sign → List Meant → Option Group
sign_at signs.Open more = alone terminals.Open
sign_at signs.Close more = alone terminals.Close
sign_at signs.OpenBracket more = alone terminals.OpenBracket
sign_at signs.CloseBracket more = alone terminals.CloseBracket
sign_at signs.Dot more = alone terminals.Dot
sign_at signs.DoubleDot more = alone terminals.DoubleDot
sign_at signs.At more = alone (terminals.Axis axes.Attribute)
sign_at signs.Comma more = alone terminals.Comma
sign_at signs.DoubleColon more = None
sign_at signs.Slash more = alone terminals.Slash
sign_at signs.DoubleSlash more = alone terminals.DoubleSlash
sign_at signs.Bar more = alone (terminals.Operator operators.Union)
sign_at signs.Plus more = alone (terminals.Operator operators.Add)
sign_at signs.Minus more = alone terminals.Minus
sign_at signs.Equal more = alone (terminals.Operator operators.Equal)
sign_at signs.NotEqual more = alone (terminals.Operator operators.NotEqual)
sign_at signs.Less more = alone (terminals.Operator operators.Less)
sign_at signs.LessEqual more = alone (terminals.Operator operators.LessEqual)
sign_at signs.Greater more = alone (terminals.Operator operators.Greater)
sign_at signs.GreaterEqual more = alone (terminals.Operator operators.GreaterEqual)
sign_at signs.Star more = None
sign_at signs.Dollar more = variable more

-- operators that are names; `div` stands as another operator of its level
abbrev pub operator_token : OperatorName → Token
operator_token names.Or = lawful (terminals.Operator operators.Or)
operator_token names.And = lawful (terminals.Operator operators.And)
operator_token names.Mod = lawful (terminals.Operator operators.Mod)
operator_token names.Div = offending (terminals.Operator operators.Mod) offences.Div

-- a number (XPath 1.0 §3.5), which must be whole and have at most 53 bits
abbrev pub number_token : Result Number NumberFault → Token
number_token (Ok n) = lawful (terminals.Number n)
number_token (Err faults.Fraction) = offending (terminals.Number number.Nan) offences.Fraction
number_token (Err faults.NumberRange) = offending (terminals.Number number.Nan) offences.NumberRange

-- `prefix:*`, by the namespace name of the prefix
abbrev pub any_in_token : Option (List ℕ) → Token
any_in_token (Some uri) = lawful (terminals.Test (tests.AnyIn (chars uri)))
any_in_token None = offending (terminals.Test (tests.AnyIn [])) offences.UnboundPrefix

-- a name with a prefix, by the namespace name of the prefix
abbrev pub named_in_token : Option (List ℕ) → List ℕ → Token
named_in_token (Some uri) local = lawful (terminals.Test (tests.Named (chars uri) local))
named_in_token None local = offending (terminals.Test (tests.Named [] local)) offences.UnboundPrefix

-- ---- Names

-- a name as a test; without a prefix it is in no namespace (XPath 1.0 §2.3)
abbrev pub name_token : List Pair → List ℕ → List ℕ → Token
name_token pairs prefix local =
    if is_empty prefix then lawful (terminals.Test (tests.Named [] local))
    else named_in_token (namespace_of (encode_utf8_all prefix) pairs) local

-- a name before `::` (XPath 1.0 §2.2)
abbrev pub axis_group : Option AxisName → Option Group
axis_group None = None
axis_group (Some a) = Some (lawful (terminals.Axis a), 1)

abbrev pub axis_at : List ℕ → List ℕ → Option Group
axis_at prefix local = if is_empty prefix then axis_group (axis_named (encode_utf8_all local)) else None

-- a function's name and `(` (XPath 1.0 §3.2)
abbrev pub call_token : Option Function → Token
call_token (Some f) = lawful (terminals.Call f)
call_token None = offending (terminals.Call function.Last) offences.UnknownFunction

-- a node type with its parentheses (XPath 1.0 §2.3, NodeTest); behind the first parenthesis stand these tokens
abbrev pub closed : NodeTest → ℕ → List Meant → Option Group
closed test count more = if begins_close more then Some (lawful (terminals.Test test), count) else None

abbrev pub instruction_at : List Meant → Option Group
instruction_at (meant.Literal target ∷ more) = closed (tests.Instruction (Some target)) 3 more
instruction_at more = closed (tests.Instruction None) 2 more

abbrev pub type_at : NodeType → List Meant → Option Group
type_at types.Comment more = closed tests.Comment 2 more
type_at types.Words more = closed tests.Words 2 more
type_at types.Node more = closed tests.Node 2 more
type_at types.Instruction more = instruction_at more

-- a name and `(`, of a node type or of a function
abbrev pub call_or_type : Option NodeType → List ℕ → List Meant → Option Group
call_or_type (Some t) local more = type_at t more
call_or_type None local more = Some (call_token (function_named (encode_utf8_all local)), 1)

abbrev pub called : List ℕ → List ℕ → List Meant → Option Group
called prefix local more =
    if is_empty prefix then call_or_type (type_named (encode_utf8_all local)) local more
    else Some (offending (terminals.Call function.Last) offences.UnknownFunction, 1)

abbrev pub name_at : List Pair → List ℕ → List ℕ → List Meant → Option Group
name_at pairs prefix local more =
    if begins_colons more then axis_at prefix local
    else (if begins_open more then called prefix local (behind_first more) else Some (name_token pairs prefix local, 0))

-- ---- All tokens

-- the terminal that begins with this token, before these ones
unfoldable pub group_at : List Pair → Meant → List Meant → Option Group
group_at pairs (meant.Sign s) more = sign_at s more
group_at pairs meant.Multiply more = alone (terminals.Operator operators.Multiply)
group_at pairs meant.Any more = alone (terminals.Test tests.Any)
group_at pairs (meant.Operator o) more = Some (operator_token o, 0)
group_at pairs (meant.Name prefix local) more = name_at pairs prefix local more
group_at pairs (meant.AnyIn prefix) more = Some (any_in_token (namespace_of (encode_utf8_all prefix) pairs), 0)
group_at pairs (meant.Literal text) more = alone (terminals.Literal text)
group_at pairs (meant.Number text) more = Some (number_token (numbers.number_of text), 0)

-- the terminals behind so many tokens that belong to a terminal before
unfoldable pub groups_behind : List Pair → ℕ → List Meant → Option (List Token)
groups_behind pairs k [] = Some []
groups_behind pairs (suc k) (m ∷ more) = groups_behind pairs k more
groups_behind pairs zero (m ∷ more) =
    option_and_then (λ (g : Group). before_all g.0 (groups_behind pairs g.1 more)) (group_at pairs m more)

-- the terminals of meant tokens
abbrev pub grouped : List Pair → List Meant → Option (List Token)
grouped pairs all = groups_behind pairs 0 all
