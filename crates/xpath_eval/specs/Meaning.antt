-- What an expression means in a context (XPath 1.0, sections 2 and 3): a value, or the first refusal in the order of
-- evaluation. Of each form of expression it is said what it means by what its parts mean.
use Rattle.std.specs.Prelude.{Bool, false, not, List, [], ◌∷◌, ◌++◌, Option, Some, None, Ok, Err, if◌then◌else◌}
use Rattle.xpath_words.specs.declared.operator.BinaryOp.{BinaryOp}
use Rattle.xpath_words.specs.declared.operator.BinaryOp.TheVariants as op
use Rattle.xpath_syntax.specs.declared.expr.Expr.{Expr}
use Rattle.xpath_syntax.specs.declared.expr.Expr.TheOpen.{Expr-F, PathStart-F, PathStep-F}
use Rattle.xpath_syntax.specs.declared.expr.Expr.TheFolds.{fold-Expr}
use Rattle.xpath_eval.specs.declared.found.Found.{Found}
use Rattle.xpath_eval.specs.declared.found.Found.TheVariants.{Truth, Num, Words, Nodes}
use Rattle.xpath_eval.specs.declared.refusal.EvalRefusal.{EvalRefusal}
use Rattle.xpath_eval.specs.declared.refusal.EvalRefusal.TheVariants as refusal
use Rattle.xpath_eval.specs.Arithmetic.{arithmetic, is_arithmetic, negated}
use Rattle.xpath_eval.specs.Comparisons.{compared}
use Rattle.xpath_eval.specs.Context.{Context, in_document_order}
use Rattle.xpath_eval.specs.Found.{Outcome, ◌>>=◌, nodes_in, number_in, truth_of}
use Rattle.xpath_eval.specs.Functions.{applied}
use Rattle.xpath_eval.specs.Steps.{Meaning, StartMeaning, StepMeaning, along, filtered, step_from}

-- ---- operators

-- `or` and `and`: the right side isn't evaluated where the left one decides (XPath 1.0, section 3.4)
abbrev pub decides : BinaryOp → Found → Bool
decides op.Or x = truth_of x
decides op.And x = not (truth_of x)
decides _ x = false

-- the left side of `|` has to be a node set (XPath 1.0, section 3.3)
abbrev pub refused_by : BinaryOp → Found → Option EvalRefusal
refused_by op.Union (Truth b) = Some refusal.NotNodes
refused_by op.Union (Num n) = Some refusal.NotNodes
refused_by op.Union (Words w) = Some refusal.NotNodes
refused_by _ x = None

-- `|`: the nodes of both sides
abbrev pub united : Found → Found → Context → Outcome Found
united x y c = do
  xs ← nodes_in x
  ys ← nodes_in y
  Ok (Nodes (in_document_order c.rows (xs ++ ys)))

-- both sides are evaluated before one of them is converted
abbrev pub calculated : BinaryOp → Found → Found → Context → Outcome Found
calculated o x y c = do
  a ← number_in c.rows x
  b ← number_in c.rows y
  n ← arithmetic o a b
  Ok (Num n)

-- a comparison
abbrev pub related : BinaryOp → Found → Found → Context → Outcome Found
related o x y c = compared o c.rows x y >>= (λ b. Ok (Truth b))

abbrev pub operated : BinaryOp → Found → Found → Context → Outcome Found
operated op.Or x y c = Ok (Truth (truth_of y))
operated op.And x y c = Ok (Truth (truth_of y))
operated op.Union x y c = united x y c
operated o x y c = if is_arithmetic o then calculated o x y c else related o x y c

-- what is left to do behind the left side, where it doesn't decide
abbrev pub behind_left : Option EvalRefusal → BinaryOp → Found → Meaning → Meaning
behind_left (Some e) o x r c = Err e
behind_left None o x r c = r c >>= (λ y. operated o x y c)

-- an operator, once its left side is evaluated
abbrev pub after_left : BinaryOp → Found → Meaning → Meaning
after_left o x r c = if decides o x then Ok (Truth (truth_of x)) else behind_left (refused_by o x) o x r c

abbrev pub binary : BinaryOp → Meaning → Meaning → Meaning
binary o l r c = l c >>= (λ x. after_left o x r c)

-- ---- arguments

-- what the arguments of a call come to, in their order
unfoldable pub arguments_in : List Meaning → Context → Outcome (List Found)
arguments_in [] c = Ok []
arguments_in (m ∷ ms) c = do
  v ← m c
  more ← arguments_in ms c
  Ok (v ∷ more)

-- the nodes of an expression that has to be a node set
abbrev pub nodes_meant : Meaning → StartMeaning
nodes_meant m c = m c >>= nodes_in

-- ---- the parts of an expression

abbrev pub start_meaning : PathStart-F Meaning StartMeaning StepMeaning → StartMeaning
start_meaning PathStart-F.Context c = Ok (c.node ∷ [])
start_meaning PathStart-F.Root c = Ok (0 ∷ [])
start_meaning (PathStart-F.From m) c = nodes_meant m c

abbrev pub step_meaning : PathStep-F Meaning StartMeaning StepMeaning → StepMeaning
step_meaning s = step_from s.axis s.test s.predicates

abbrev pub layer_meaning : Expr-F Meaning StartMeaning StepMeaning → Meaning
layer_meaning (Expr-F.Binary o l r) c = binary o l r c
layer_meaning (Expr-F.Negate m) c = do
  x ← m c
  a ← number_in c.rows x
  n ← negated a
  Ok (Num n)
layer_meaning (Expr-F.Literal w) c = Ok (Words w)
layer_meaning (Expr-F.Number n) c = Ok (Num n)
layer_meaning (Expr-F.Call f args) c = do
  given ← arguments_in args c
  applied f given c
-- predicates behind a primary expression count in document order: XPath 1.0, section 3.3
layer_meaning (Expr-F.Filtered base predicates) c = do
  xs ← nodes_meant base c
  ys ← filtered predicates c xs
  Ok (Nodes ys)
layer_meaning (Expr-F.Path start steps) c = do
  xs ← start c
  ys ← along steps c xs
  Ok (Nodes ys)

-- ---- an expression

abbrev pub meaning : Expr → Meaning
meaning = fold-Expr Meaning StartMeaning StepMeaning layer_meaning start_meaning step_meaning
