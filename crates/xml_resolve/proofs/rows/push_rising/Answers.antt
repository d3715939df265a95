use Rattle.std.proofs.Common.{◌<◌, List, ℕ, [], length, arith, Bor}
use Rattle.std.proofs.lemmas.List.{drop_more}
use Rattle.std.proofs.lemmas.Result.{err_from_is_err_and}
use Rattle.xml_resolve.proofs.RowSteps.{attribute_refused}
use Rattle.xml_resolve.proofs.rows.push_rising.Goals as goal

-- an attribute that is there for want of another
abbrev blank : Bor (List ℕ)
blank = record { ref_ptr = (0, 0); now = [] }

pub returns-in_err-push_attribute : goal.returns-in_err-push_attribute
returns-in_err-push_attribute c =
    let p = err_from_is_err_and c.from_residual.result c.from_residual.ensures.1 in
    let lt : c.loop-attribute.attribute-index < length c.args.attributes.now = omega (arith, c.loop-attribute-test.true) in
    rw (p.1, p.2) (attribute_refused _ c.loop-attribute.rows c.args.rows.now _ c.args.parent _ _ _ _ c.args.attributes.now (drop_more c.args.attributes.now c.loop-attribute.attribute-index ((blank, blank), (blank, blank)) lt) c.loop-attribute.invariant.1 c.in_err-push_attribute.ensures)
