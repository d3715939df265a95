-- Reading terminals from left to right, with the parts that wait for an expression on a stack, the innermost first.
use Rattle.std.specs.Prelude.{ℕ, suc, ◌+◌, Bool, true, false, ◌||◌, List, [], ◌∷◌, ◌++◌, Option, Some, None, nat_le, nat_lt, if◌then◌else◌}
use Rattle.sig_base.specs.Options.{◌>>=◌}
use Rattle.xpath_words.specs.declared.operator.BinaryOp.{BinaryOp}
use Rattle.xpath_words.specs.declared.axis.AxisName.{AxisName}
use Rattle.xpath_words.specs.declared.axis.AxisName.TheVariants as axis
use Rattle.xpath_words.specs.declared.terminal.Terminal.{Terminal}
use Rattle.xpath_words.specs.declared.terminal.Terminal.TheVariants as t
use Rattle.xpath_syntax.specs.declared.expr.Expr.{Expr}
use Rattle.xpath_syntax.specs.declared.expr.Expr.TheVariants as expr
use Rattle.xpath_syntax.specs.declared.expr.PathStart.{PathStart}
use Rattle.xpath_syntax.specs.declared.expr.PathStart.TheVariants as start
use Rattle.xpath_syntax.specs.declared.expr.PathStep.{PathStep}
use Rattle.xpath_syntax.specs.declared.frame.OpenStep.{OpenStep}
use Rattle.xpath_syntax.specs.declared.frame.Frame.{Frame}
use Rattle.xpath_syntax.specs.declared.frame.Frame.TheVariants as f
use Rattle.xpath_syntax.specs.declared.mode.Mode.{Mode}
use Rattle.xpath_syntax.specs.declared.mode.Mode.TheVariants as m
use Rattle.xpath_syntax.specs.Grammar.{level, operator_of, filtered, step_with, anywhere, itself, parent}
use Rattle.xpath_syntax.specs.Nesting.{own_levels, limit}

-- the level of the operand that is wanted behind these frames, the innermost first
abbrev pub wanted : List Frame → ℕ
wanted (f.Negation ∷ k) = 6
wanted (f.Left o x ∷ k) = suc (level o)
wanted _ = 0

-- an operand before a terminal of this level belongs to this frame
abbrev pub binds : ℕ → Frame → Bool
binds l f.Negation = nat_le l 6
binds l (f.Left o x) = nat_le l (level o)
binds l _ = false

-- the frame with its operand
abbrev pub completed : Frame → Expr → Expr
completed f.Negation y = expr.Negate y
completed (f.Left o x) y = expr.Binary o x y
completed _ y = y

-- the frames that an operand before a terminal of this level belongs to are completed
unfoldable pub reduced : ℕ → List Frame → Expr → List Frame × Expr
reduced l [] y = ([], y)
reduced l (top ∷ k) y = if binds l top then reduced l k (completed top y) else (top ∷ k, y)

-- the frames, and what was read behind them
abbrev pub State : Type 0
State = List Frame × Mode

-- the path behind an open step
abbrev pub steps_of : OpenStep → List PathStep
steps_of s = s.steps ++ (step_with s.axis s.test s.predicates ∷ [])

-- a predicate more
abbrev pub with_predicate : OpenStep → Expr → OpenStep
with_predicate s y =
    record { start = s.start; steps = s.steps; axis = s.axis; test = s.test; predicates = s.predicates ++ (y ∷ []) }

-- `)` behind an expression
abbrev pub closed : List Frame × Expr → Option State
closed (f.Group ∷ k, y) = Some (k, m.Filter y [])
closed (f.Argument g args ∷ k, y) = Some (k, m.Filter (expr.Call g (args ++ (y ∷ []))) [])
closed (k, y) = None

-- `]` behind an expression
abbrev pub bracket_closed : List Frame × Expr → Option State
bracket_closed (f.Predicate b ps ∷ k, y) = Some (k, m.Filter b (ps ++ (y ∷ [])))
bracket_closed (f.StepPredicate s ∷ k, y) = Some (k, m.Stepping (with_predicate s y))
bracket_closed (k, y) = None

-- `,` behind an expression
abbrev pub separated : List Frame × Expr → Option State
separated (f.Argument g args ∷ k, y) = Some (f.Argument g (args ++ (y ∷ [])) ∷ k, m.Wanted)
separated (k, y) = None

-- an operator behind its left operand
abbrev pub with_operator : BinaryOp → List Frame × Expr → State
with_operator o r = (f.Left o r.1 ∷ r.0, m.Wanted)

-- a mark that ends an operand
abbrev pub ended_by : Terminal → List Frame → Expr → Option State
ended_by t.Close k y = closed (reduced 0 k y)
ended_by t.CloseBracket k y = bracket_closed (reduced 0 k y)
ended_by t.Comma k y = separated (reduced 0 k y)
ended_by _ k y = None

-- an operator behind an operand, or a mark that ends it
abbrev pub continued_by : Option BinaryOp → Terminal → List Frame → Expr → Option State
continued_by (Some o) sign k y = Some (with_operator o (reduced (level o) k y))
continued_by None sign k y = ended_by sign k y

abbrev pub behind : Terminal → List Frame → Expr → Option State
behind sign k y = continued_by (operator_of sign) sign k y

-- a step begins
abbrev pub step_begun : Terminal → List Frame → PathStart → List PathStep → Option State
step_begun t.Dot k s ss = Some (k, m.Located s (ss ++ (itself ∷ [])))
step_begun t.DoubleDot k s ss = Some (k, m.Located s (ss ++ (parent ∷ [])))
step_begun (t.Axis d) k s ss = Some (k, m.Along s ss d)
step_begun (t.Test x) k s ss =
    Some (k, m.Stepping (record { start = s; steps = ss; axis = axis.Child; test = x; predicates = [] }))
step_begun _ k s ss = None

abbrev pub begins_step : Terminal → Bool
begins_step t.Dot = true
begins_step t.DoubleDot = true
begins_step (t.Axis d) = true
begins_step (t.Test x) = true
begins_step _ = false

-- `)` where an expression is wanted: a call without arguments
abbrev pub called : List Frame → Option State
called (f.Argument g [] ∷ k) = Some (k, m.Filter (expr.Call g []) [])
called _ = None

-- where an operand is wanted: a terminal that begins no step
abbrev pub primary_begun : Terminal → List Frame → Option State
primary_begun (t.Literal w) k = Some (k, m.Filter (expr.Literal w) [])
primary_begun (t.Number n) k = Some (k, m.Filter (expr.Number n) [])
primary_begun t.Open k = Some (f.Group ∷ k, m.Wanted)
primary_begun t.Minus k = if nat_le (wanted k) 6 then Some (f.Negation ∷ k, m.Wanted) else None
primary_begun (t.Call g) k = Some (f.Argument g [] ∷ k, m.Wanted)
primary_begun t.Close k = called k
primary_begun t.Slash k = Some (k, m.Root)
primary_begun t.DoubleSlash k = Some (k, m.Leading start.Root (anywhere ∷ []))
primary_begun _ k = None

-- where an operand is wanted
abbrev pub begun : Terminal → List Frame → Option State
begun sign k = if begins_step sign then step_begun sign k start.Context [] else primary_begun sign k

-- behind a primary expression with its predicates so far
abbrev pub behind_filter : Terminal → List Frame → Expr → List Expr → Option State
behind_filter t.OpenBracket k b ps = Some (f.Predicate b ps ∷ k, m.Wanted)
behind_filter t.Slash k b ps = Some (k, m.Leading (start.From (filtered b ps)) [])
behind_filter t.DoubleSlash k b ps = Some (k, m.Leading (start.From (filtered b ps)) (anywhere ∷ []))
behind_filter sign k b ps = behind sign k (filtered b ps)

-- behind a path
abbrev pub behind_path : Terminal → List Frame → PathStart → List PathStep → Option State
behind_path t.Slash k s ss = Some (k, m.Leading s ss)
behind_path t.DoubleSlash k s ss = Some (k, m.Leading s (ss ++ (anywhere ∷ [])))
behind_path sign k s ss = behind sign k (expr.Path s ss)

-- behind a step with its predicates so far
abbrev pub behind_step : Terminal → List Frame → OpenStep → Option State
behind_step t.OpenBracket k s = Some (f.StepPredicate s ∷ k, m.Wanted)
behind_step sign k s = behind_path sign k s.start (steps_of s)

-- behind an axis
abbrev pub behind_axis : Terminal → List Frame → PathStart → List PathStep → AxisName → Option State
behind_axis (t.Test x) k s ss d =
    Some (k, m.Stepping (record { start = s; steps = ss; axis = d; test = x; predicates = [] }))
behind_axis _ k s ss d = None

-- behind a slash with nothing before it
abbrev pub behind_root : Terminal → List Frame → Option State
behind_root sign k =
    if begins_step sign then step_begun sign k start.Root [] else behind sign k (expr.Path start.Root [])

-- one terminal
abbrev pub step : List Frame → Mode → Terminal → Option State
step k m.Wanted sign = begun sign k
step k (m.Filter b ps) sign = behind_filter sign k b ps
step k m.Root sign = behind_root sign k
step k (m.Leading s ss) sign = step_begun sign k s ss
step k (m.Along s ss d) sign = behind_axis sign k s ss d
step k (m.Stepping s) sign = behind_step sign k s
step k (m.Located s ss) sign = behind_path sign k s ss

-- no frame may be left
abbrev pub whole : List Frame × Expr → Option Expr
whole ([], y) = Some y
whole (k, y) = None

-- the operand that ends here
abbrev pub operand_of : Mode → Option Expr
operand_of m.Wanted = None
operand_of (m.Filter b ps) = Some (filtered b ps)
operand_of m.Root = Some (expr.Path start.Root [])
operand_of (m.Leading s ss) = None
operand_of (m.Along s ss d) = None
operand_of (m.Stepping s) = Some (expr.Path s.start (steps_of s))
operand_of (m.Located s ss) = Some (expr.Path s ss)

-- behind the last terminal
abbrev pub finish : List Frame → Mode → Option Expr
finish k mode = operand_of mode >>= (λ y. whole (reduced 0 k y))

-- how many levels the frames are: each but an operator that waits for its right operand
unfoldable pub levels : List Frame → ℕ
levels [] = 0
levels (f.Left o x ∷ k) = levels k
levels (_ ∷ k) = 1 + levels k

-- behind these frames a terminal with so many levels of its own nests too deep
abbrev pub deepens : List Frame → ℕ → Bool
deepens k own = nat_lt limit (levels k + own)

-- the expression, and whether one of the terminals nested too deep
unfoldable pub run : List Frame → Mode → Bool → List Terminal → Option (Expr × Bool)
run k mode deep [] = finish k mode >>= (λ x. Some (x, deep))
run k mode deep (sign ∷ more) = step k mode sign >>= (λ s. run s.0 s.1 (deep || deepens s.0 (own_levels sign)) more)

abbrev pub expression_of : List Terminal → Option (Expr × Bool)
expression_of = run [] m.Wanted false
