use Rattle.xpath_eval.proofs.Gatherings.{listed_rows}
use Rattle.xpath_eval.proofs.gathering.gathered_rows.Goals as goal

pub returns-in-Listed-clause-value : goal.returns-in-Listed-clause-value
returns-in-Listed-clause-value c = λ doc h. (listed_rows doc c.args.gathering c.in-Listed.rows _ c.in-Listed.is h).0
