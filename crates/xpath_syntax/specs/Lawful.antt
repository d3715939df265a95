-- An expression is lawful where each call in it, everywhere within, has a permitted number of arguments (XPath 1.0,
-- section 4).
use Rattle.std.specs.Prelude.{◌≡◌, ℕ, true, List, [], ◌∷◌, length}
use Rattle.xpath_value.specs.declared.number.Number.{Number}
use Rattle.xpath_words.specs.declared.operator.BinaryOp.{BinaryOp}
use Rattle.xpath_words.specs.declared.function.Function.{Function}
use Rattle.xpath_words.specs.Functions.{permits}
use Rattle.xpath_words.specs.declared.axis.AxisName.{AxisName}
use Rattle.xpath_words.specs.declared.test.NodeTest.{NodeTest}
use Rattle.xpath_syntax.specs.declared.expr.Expr.{Expr, out-Expr}
use Rattle.xpath_syntax.specs.declared.expr.Expr.TheOpen.{Expr-F, PathStart-F}
use Rattle.xpath_syntax.specs.declared.expr.Expr.TheVariants as expr
use Rattle.xpath_syntax.specs.declared.expr.PathStart.{PathStart, out-PathStart}
use Rattle.xpath_syntax.specs.declared.expr.PathStart.TheVariants as start
use Rattle.xpath_syntax.specs.declared.expr.PathStep.{PathStep, out-PathStep}
use Rattle.xpath_syntax.specs.Grammar.{step_with}

-- an expression, a list of expressions, or the steps of a path
pub data Subject : Type 0 where
  One : Expr → Subject
  All : List Expr → Subject
  Steps : List PathStep → Subject

pub data Lawful : Subject → Type 0 where
  literal : (w : List ℕ) → Lawful (One (expr.Literal w))
  number : (n : Number) → Lawful (One (expr.Number n))
  negate : (x : Expr) → Lawful (One x) → Lawful (One (expr.Negate x))
  binary : (o : BinaryOp) (x y : Expr) → Lawful (One x) → Lawful (One y) → Lawful (One (expr.Binary o x y))
  call : (g : Function) (args : List Expr) → permits g (length args) ≡ true → Lawful (All args)
      → Lawful (One (expr.Call g args))
  filtered : (b : Expr) (ps : List Expr) → Lawful (One b) → Lawful (All ps) → Lawful (One (expr.Filtered b ps))
  from_context : (ss : List PathStep) → Lawful (Steps ss) → Lawful (One (expr.Path start.Context ss))
  from_root : (ss : List PathStep) → Lawful (Steps ss) → Lawful (One (expr.Path start.Root ss))
  from_nodes : (x : Expr) (ss : List PathStep) → Lawful (One x) → Lawful (Steps ss)
      → Lawful (One (expr.Path (start.From x) ss))
  none : Lawful (All [])
  one_more : (x : Expr) (xs : List Expr) → Lawful (One x) → Lawful (All xs) → Lawful (All (x ∷ xs))
  no_steps : Lawful (Steps [])
  one_step_more : (d : AxisName) (x : NodeTest) (ps : List Expr) (ss : List PathStep) → Lawful (All ps)
      → Lawful (Steps ss) → Lawful (Steps (step_with d x ps ∷ ss))

-- ---- what is lawful holds what is lawful

-- the expression that a path begins from
abbrev pub InsideStart : PathStart-F Expr PathStart PathStep → Type 0
InsideStart (PathStart-F.From x) = Lawful (One x)
InsideStart _ = Unit {0}

-- what an expression holds
abbrev pub InsideLayer : Expr-F Expr PathStart PathStep → Type 0
InsideLayer (Expr-F.Binary o x y) = Lawful (One x) × Lawful (One y)
InsideLayer (Expr-F.Negate x) = Lawful (One x)
InsideLayer (Expr-F.Call g args) = (permits g (length args) ≡ true) × Lawful (All args)
InsideLayer (Expr-F.Filtered b ps) = Lawful (One b) × Lawful (All ps)
InsideLayer (Expr-F.Path s ss) = InsideStart (out-PathStart s) × Lawful (Steps ss)
InsideLayer _ = Unit {0}

-- what an expression, a list or steps hold
abbrev pub Inside : Subject → Type 0
Inside (One x) = InsideLayer (out-Expr x)
Inside (All []) = Unit {0}
Inside (All (x ∷ xs)) = Lawful (One x) × Lawful (All xs)
Inside (Steps []) = Unit {0}
Inside (Steps (s ∷ ss)) = Lawful (All (out-PathStep s).predicates) × Lawful (Steps ss)
