-- What spells what, by the productions of XPath 1.0, sections 2 and 3: one case for each.
use Rattle.std.specs.Prelude.{◌≡◌, ℕ, suc, List, [], ◌∷◌, ◌++◌, Option, Some, None}
use Rattle.xpath_value.specs.declared.number.Number.{Number}
use Rattle.xpath_words.specs.declared.operator.BinaryOp.{BinaryOp}
use Rattle.xpath_words.specs.declared.operator.BinaryOp.TheVariants as op
use Rattle.xpath_words.specs.declared.function.Function.{Function}
use Rattle.xpath_words.specs.declared.axis.AxisName.{AxisName}
use Rattle.xpath_words.specs.declared.axis.AxisName.TheVariants as axis
use Rattle.xpath_words.specs.declared.test.NodeTest.{NodeTest}
use Rattle.xpath_words.specs.declared.test.NodeTest.TheVariants as test
use Rattle.xpath_words.specs.declared.terminal.Terminal.{Terminal}
use Rattle.xpath_words.specs.declared.terminal.Terminal.TheVariants as t
use Rattle.xpath_syntax.specs.declared.expr.Expr.{Expr}
use Rattle.xpath_syntax.specs.declared.expr.Expr.TheVariants as expr
use Rattle.xpath_syntax.specs.declared.expr.PathStart.{PathStart}
use Rattle.xpath_syntax.specs.declared.expr.PathStart.TheVariants as start
use Rattle.xpath_syntax.specs.declared.expr.PathStep.{PathStep, roll-PathStep}

-- The level of an operator: a higher one binds tighter. The unary minus has 6, and a path 8. (3.3 to 3.5)
abbrev pub level : BinaryOp → ℕ
level op.Or = 0
level op.And = 1
level op.Equal = 2
level op.NotEqual = 2
level op.Less = 3
level op.LessEqual = 3
level op.Greater = 3
level op.GreaterEqual = 3
level op.Add = 4
level op.Subtract = 4
level op.Multiply = 5
level op.Mod = 5
level op.Union = 7

-- the operator that a terminal is between two operands
abbrev pub operator_of : Terminal → Option BinaryOp
operator_of (t.Operator o) = Some o
operator_of t.Minus = Some op.Subtract
operator_of _ = None

abbrev pub step_with : AxisName → NodeTest → List Expr → PathStep
step_with d x ps = roll-PathStep (record { axis = d; test = x; predicates = ps })

-- `//` is `/descendant-or-self::node()/`, `.` is `self::node()` and `..` is `parent::node()`. (2.5)
abbrev pub anywhere : PathStep
anywhere = step_with axis.DescendantOrSelf test.Node []

abbrev pub itself : PathStep
itself = step_with axis.SelfNode test.Node []

abbrev pub parent : PathStep
parent = step_with axis.Parent test.Node []

-- a primary expression with predicates, or alone where there are none
abbrev pub filtered : Expr → List Expr → Expr
filtered b [] = b
filtered b (p ∷ ps) = expr.Filtered b (p ∷ ps)

-- What a part of an expression stands for.
pub data Part : Type 0 where
  -- an expression of this level: 0 OrExpr, 1 AndExpr, 2 EqualityExpr, 3 RelationalExpr, 4 AdditiveExpr,
  -- 5 MultiplicativeExpr, 6 UnaryExpr, 7 UnionExpr, 8 PathExpr
  Level : ℕ → Expr → Part
  -- FilterExpr: a primary expression, and its predicates so far
  Filter : Expr → List Expr → Part
  -- FunctionCall, before its `)`: a function with its arguments so far
  Passing : Function → List Expr → Part
  -- LocationPath, before a step
  Leading : PathStart → List PathStep → Part
  -- LocationPath, whose last step, AxisSpecifier NodeTest Predicate*, has these predicates so far
  Stepping : PathStart → List PathStep → AxisName → NodeTest → List Expr → Part
  -- LocationPath, behind a step
  Located : PathStart → List PathStep → Part

-- These terminals spell this part.
pub data Spells : Part → List Terminal → Type 0 where
  -- OrExpr ::= OrExpr 'or' AndExpr, AndExpr ::= AndExpr 'and' EqualityExpr (3.4), and so each level up to
  -- MultiplicativeExpr (3.5), and UnionExpr ::= UnionExpr '|' PathExpr (3.3)
  binary : (l : ℕ) (a b : List Terminal) (sign : Terminal) (o : BinaryOp) (x y : Expr) → operator_of sign ≡ Some o
      → level o ≡ l → Spells (Level l x) a → Spells (Level (suc l) y) b
      → Spells (Level l (expr.Binary o x y)) (a ++ (sign ∷ b))
  -- OrExpr ::= AndExpr, AndExpr ::= EqualityExpr, and so each level up to UnionExpr ::= PathExpr
  tighter : (l : ℕ) (a : List Terminal) (x : Expr) → Spells (Level (suc l) x) a → Spells (Level l x) a
  -- UnaryExpr ::= '-' UnaryExpr (3.5)
  negation : (a : List Terminal) (x : Expr) → Spells (Level 6 x) a → Spells (Level 6 (expr.Negate x)) (t.Minus ∷ a)
  -- PathExpr ::= FilterExpr (3.3)
  of_filter : (a : List Terminal) (b : Expr) (ps : List Expr) → Spells (Filter b ps) a
      → Spells (Level 8 (filtered b ps)) a
  -- PathExpr ::= LocationPath (3.3)
  of_path : (a : List Terminal) (s : PathStart) (ss : List PathStep) → Spells (Located s ss) a
      → Spells (Level 8 (expr.Path s ss)) a
  -- AbsoluteLocationPath ::= '/' (2)
  root : Spells (Level 8 (expr.Path start.Root [])) (t.Slash ∷ [])
  -- PrimaryExpr ::= Literal (3.1)
  literal : (w : List ℕ) → Spells (Filter (expr.Literal w) []) (t.Literal w ∷ [])
  -- PrimaryExpr ::= Number (3.1)
  number : (n : Number) → Spells (Filter (expr.Number n) []) (t.Number n ∷ [])
  -- PrimaryExpr ::= '(' Expr ')' (3.1)
  group : (a : List Terminal) (x : Expr) → Spells (Level 0 x) a → Spells (Filter x []) (t.Open ∷ (a ++ (t.Close ∷ [])))
  -- FunctionCall ::= FunctionName '(' ')' (3.2)
  no_arguments : (g : Function) → Spells (Filter (expr.Call g []) []) (t.Call g ∷ (t.Close ∷ []))
  -- FunctionCall ::= FunctionName '(' Argument ( ',' Argument )* ')' (3.2): the last parenthesis, the first argument
  -- and one argument more
  call : (a : List Terminal) (g : Function) (args : List Expr) → Spells (Passing g args) a
      → Spells (Filter (expr.Call g args) []) (a ++ (t.Close ∷ []))
  first_argument : (a : List Terminal) (g : Function) (x : Expr) → Spells (Level 0 x) a
      → Spells (Passing g (x ∷ [])) (t.Call g ∷ a)
  next_argument : (a b : List Terminal) (g : Function) (args : List Expr) (x : Expr) → Spells (Passing g args) a
      → Spells (Level 0 x) b → Spells (Passing g (args ++ (x ∷ []))) (a ++ (t.Comma ∷ b))
  -- FilterExpr ::= FilterExpr Predicate (3.3)
  predicate : (a c : List Terminal) (b : Expr) (ps : List Expr) (x : Expr) → Spells (Filter b ps) a
      → Spells (Level 0 x) c → Spells (Filter b (ps ++ (x ∷ []))) (a ++ (t.OpenBracket ∷ (c ++ (t.CloseBracket ∷ []))))
  -- LocationPath ::= RelativeLocationPath (2)
  from_context : Spells (Leading start.Context []) []
  -- AbsoluteLocationPath ::= '/' RelativeLocationPath (2)
  from_root : Spells (Leading start.Root []) (t.Slash ∷ [])
  -- AbbreviatedAbsoluteLocationPath ::= '//' RelativeLocationPath (2.5)
  from_anywhere : Spells (Leading start.Root (anywhere ∷ [])) (t.DoubleSlash ∷ [])
  -- PathExpr ::= FilterExpr '/' RelativeLocationPath (3.3)
  from_filter : (a : List Terminal) (b : Expr) (ps : List Expr) → Spells (Filter b ps) a
      → Spells (Leading (start.From (filtered b ps)) []) (a ++ (t.Slash ∷ []))
  -- PathExpr ::= FilterExpr '//' RelativeLocationPath (3.3)
  below_filter : (a : List Terminal) (b : Expr) (ps : List Expr) → Spells (Filter b ps) a
      → Spells (Leading (start.From (filtered b ps)) (anywhere ∷ [])) (a ++ (t.DoubleSlash ∷ []))
  -- RelativeLocationPath ::= RelativeLocationPath '/' Step (2)
  further : (a : List Terminal) (s : PathStart) (ss : List PathStep) → Spells (Located s ss) a
      → Spells (Leading s ss) (a ++ (t.Slash ∷ []))
  -- AbbreviatedRelativeLocationPath ::= RelativeLocationPath '//' Step (2.5)
  below : (a : List Terminal) (s : PathStart) (ss : List PathStep) → Spells (Located s ss) a
      → Spells (Leading s (ss ++ (anywhere ∷ []))) (a ++ (t.DoubleSlash ∷ []))
  -- AbbreviatedStep ::= '.' (2.5), without predicates
  dot : (a : List Terminal) (s : PathStart) (ss : List PathStep) → Spells (Leading s ss) a
      → Spells (Located s (ss ++ (itself ∷ []))) (a ++ (t.Dot ∷ []))
  -- AbbreviatedStep ::= '..' (2.5), without predicates
  double_dot : (a : List Terminal) (s : PathStart) (ss : List PathStep) → Spells (Leading s ss) a
      → Spells (Located s (ss ++ (parent ∷ []))) (a ++ (t.DoubleDot ∷ []))
  -- Step ::= NodeTest (2.1): no axis is child (2.5)
  child : (a : List Terminal) (s : PathStart) (ss : List PathStep) (x : NodeTest) → Spells (Leading s ss) a
      → Spells (Stepping s ss axis.Child x []) (a ++ (t.Test x ∷ []))
  -- Step ::= AxisName '::' NodeTest (2.1), and `@` is the axis attribute (2.5)
  along : (a : List Terminal) (s : PathStart) (ss : List PathStep) (d : AxisName) (x : NodeTest)
      → Spells (Leading s ss) a → Spells (Stepping s ss d x []) (a ++ (t.Axis d ∷ (t.Test x ∷ [])))
  -- Step ::= AxisSpecifier NodeTest Predicate* (2.1): one predicate more (2.4)
  step_predicate : (a c : List Terminal) (s : PathStart) (ss : List PathStep) (d : AxisName) (x : NodeTest)
      (ps : List Expr) (y : Expr) → Spells (Stepping s ss d x ps) a → Spells (Level 0 y) c
      → Spells (Stepping s ss d x (ps ++ (y ∷ []))) (a ++ (t.OpenBracket ∷ (c ++ (t.CloseBracket ∷ []))))
  -- RelativeLocationPath ::= Step (2): the last step is whole
  stepped : (a : List Terminal) (s : PathStart) (ss : List PathStep) (d : AxisName) (x : NodeTest) (ps : List Expr)
      → Spells (Stepping s ss d x ps) a → Spells (Located s (ss ++ (step_with d x ps ∷ []))) a
