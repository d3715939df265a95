use Rattle.std.proofs.Common.{arith, ap, ◌∙◌}
use Rattle.c14n_bases.specs.Join as join
use Rattle.c14n_bases.specs.Join.{below, cut, cleaned_value}
use Rattle.c14n_bases.specs.Code.Slices.{parts_of, parts_weight}
use Rattle.c14n_bases.proofs.LengthLemmas.{cut-weight}
use Rattle.c14n_bases.proofs.join.join_values.Goals as goal

pub returns-clause-value : goal.returns-clause-value
returns-clause-value c =
    c.join_parts.ensures.value
    ∙ ap (λ (p : join.Parts). cleaned_value (below p (parts_of c.cut-2.result))) c.cut.ensures
    ∙ ap (λ (p : join.Parts). cleaned_value (below (cut c.args.base.now) p)) c.cut-2.ensures

pub returns-clause-weight : goal.returns-clause-weight
returns-clause-weight c =
    let b = ap parts_weight c.cut.ensures in let o = ap parts_weight c.cut-2.ensures in
    let few = cut-weight c.args.base.now in let less = cut-weight c.args.own.now in
    let w = c.join_parts.ensures.weight in
    omega arith
