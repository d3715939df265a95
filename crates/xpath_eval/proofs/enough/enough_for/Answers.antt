use Rattle.std.proofs.Common.{◌≡◌, rules}
use Rattle.std.specs.Prelude.{Ok}
use Rattle.xpath_syntax.specs.declared.expr.Expr.{the_lemmas}
use Rattle.xpath_eval.specs.declared.found.Found.TheVariants.{Num}
use Rattle.xpath_eval.specs.Context.{Context}
use Rattle.xpath_eval.specs.Found.{Outcome}
use Rattle.xpath_eval.specs.Meaning.{meaning}
use Rattle.xpath_eval.proofs.Limits.{enough_where_it_ends, number_ends}
use Rattle.xpath_eval.proofs.enough.enough_for.Goals as goal

pub returns-in-Number : goal.returns-in-Number
returns-in-Number c =
    let is : (x : Context) → meaning c.args.predicate.now x ≡ Ok (Num c.in-Number.n) = λ x. search (rules, the_lemmas) in
    enough_where_it_ends (meaning c.args.predicate.now) c.last_place.result c.args.all
    (number_ends (meaning c.args.predicate.now) c.in-Number.n c.last_place.result c.args.all is c.last_place.ensures)
