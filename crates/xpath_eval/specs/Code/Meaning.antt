use Rattle.xpath_syntax.specs.declared.expr.PathStart.{PathStart}
use Rattle.xpath_syntax.specs.declared.expr.PathStep.{PathStep}
use Rattle.xpath_syntax.specs.declared.expr.Expr.TheFolds.{fold-PathStart, fold-PathStep}
use Rattle.xpath_eval.specs.Steps.{Meaning, StartMeaning, StepMeaning}
use Rattle.xpath_eval.specs.Meaning.{start_meaning, step_meaning, layer_meaning}

abbrev pub meaning_of_start : PathStart → StartMeaning
meaning_of_start = fold-PathStart Meaning StartMeaning StepMeaning layer_meaning start_meaning step_meaning

abbrev pub meaning_of_step : PathStep → StepMeaning
meaning_of_step = fold-PathStep Meaning StartMeaning StepMeaning layer_meaning start_meaning step_meaning
