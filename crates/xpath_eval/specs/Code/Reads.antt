use Rattle.std.specs.Prelude.{Bool}
use Rattle.xpath_syntax.specs.declared.expr.PathStart.{PathStart}
use Rattle.xpath_syntax.specs.declared.expr.Expr.TheFolds.{fold-PathStart}
use Rattle.xpath_eval.specs.Reads.{layer_reads, start_reads, step_reads}

abbrev pub reads_of_start : PathStart → Bool
reads_of_start = fold-PathStart Bool Bool Bool layer_reads start_reads step_reads
