use Rattle.std.proofs.Common.{◌≤◌}
use Rattle.xpath_syntax.proofs.expr.Expr.TheLaws.{the_size}
use Rattle.xpath_syntax.proofs.+expr.Given as goal

-- what is left to let go is no deeper than the whole
abbrev pub invariant-expr::Expr::drop-loop-self : goal.invariant-expr::Expr::drop-loop-self
invariant-expr::Expr::drop-loop-self l = the_size l.self ≤ the_size l.fn.self
