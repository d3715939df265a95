use Rattle.std.proofs.Common.{◌≡◌, ◌≤◌, map, drop}
use Rattle.std.specs.List.{list_any}
use Rattle.xpath_syntax.specs.declared.expr.Expr.{size-Expr}
use Rattle.xpath_eval.specs.Reads.{reads_context}
use Rattle.xpath_eval.proofs.reads.+reading.Given as goal

abbrev pub invariant-reads_context-loop-lowest : goal.invariant-reads_context-loop-lowest
invariant-reads_context-loop-lowest l = record {
  value : reads_context l.expr ≡ reads_context l.lowest;
  below : size-Expr l.lowest ≤ size-Expr l.expr;
}

abbrev pub invariant-some_reads-loop-arg : goal.invariant-some_reads-loop-arg
invariant-some_reads-loop-arg l = list_any (λ arg. arg) (map reads_context (drop l.arg-index l.args)) ≡ list_any (λ arg. arg) (map reads_context l.args)
