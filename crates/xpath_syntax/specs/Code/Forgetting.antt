-- Reading that forgets what it read once the terminals nest too deep. Then it only matters whether they spell an expression.
use Rattle.std.specs.Prelude.{Bool, true, false, List, [], Option, Some, None, option_map}
use Rattle.xpath_value.specs.declared.number.Number.TheVariants as number
use Rattle.xpath_words.specs.declared.axis.AxisName.TheVariants as axis
use Rattle.xpath_words.specs.declared.test.NodeTest.TheVariants as test
use Rattle.xpath_words.specs.declared.terminal.Terminal.{Terminal}
use Rattle.xpath_syntax.specs.declared.expr.Expr.{Expr}
use Rattle.xpath_syntax.specs.declared.expr.Expr.TheVariants as expr
use Rattle.xpath_syntax.specs.declared.expr.PathStart.TheVariants as start
use Rattle.xpath_syntax.specs.declared.frame.OpenStep.{OpenStep}
use Rattle.xpath_syntax.specs.declared.mode.Mode.{Mode}
use Rattle.xpath_syntax.specs.declared.mode.Mode.TheVariants as m
use Rattle.xpath_syntax.specs.Reading.{expression_of}

-- stands for an expression that was forgotten
abbrev pub leaf : Expr
leaf = expr.Number number.Nan

-- stands for a step that was forgotten
abbrev pub bare_step : OpenStep
bare_step = record { start = start.Context; steps = []; axis = axis.Child; test = test.Any; predicates = [] }

-- the mode without what it read
abbrev pub bare : Mode → Mode
bare m.Wanted = m.Wanted
bare (m.Filter b ps) = m.Filter leaf []
bare m.Root = m.Root
bare (m.Leading s ss) = m.Leading start.Context []
bare (m.Along s ss d) = m.Along start.Context [] d
bare (m.Stepping s) = m.Stepping bare_step
bare (m.Located s ss) = m.Located start.Context []

-- what reading goes on with
abbrev pub kept : Bool → Mode → Mode
kept true mode = bare mode
kept false mode = mode

-- the expression, unless it nests too deep
abbrev pub unless_deep : Expr × Bool → Option Expr
unless_deep (x, true) = None
unless_deep (x, false) = Some x

abbrev pub shallow : Option (Expr × Bool) → Option (Option Expr)
shallow read = option_map unless_deep read

-- the expression that the terminals spell, if any, unless it nests too deep
abbrev pub shallow_expression_of : List Terminal → Option (Option Expr)
shallow_expression_of ts = shallow (expression_of ts)
