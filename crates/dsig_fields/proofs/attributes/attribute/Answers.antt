use Rattle.std.proofs.Common.{sym, ap, ◌∙◌}
use Rattle.std.specs.Prelude.{Some, option_map}
use Rattle.std.specs.List.{find}
use Rattle.xml_doc.specs.Shape.{row_at}
use Rattle.dsig_fields.specs.Reading.{is_attribute_named}
use Rattle.dsig_fields.proofs.FoundLaws.{found_here, found_later, found_none}
use Rattle.dsig_fields.proofs.attributes.attribute.Goals as goal

pub loop-y-init : goal.loop-y-init
loop-y-init c = ap (find (is_attribute_named c.args.doc.now c.args.name.now)) (sym c.own_rows-own.ensures.attributes)

pub returns-then-is_attribute_named : goal.returns-then-is_attribute_named
returns-then-is_attribute_named c =
    let rows = c.args.doc.now in
    ap Some c.value.ensures
    ∙ ap (option_map (λ y. (row_at rows y).value)) (sym (found_here (is_attribute_named rows c.args.name.now) c.loop-y.y _ c.loop-y-test.true (sym c.if-is_attribute_named.ensures)) ∙ c.loop-y.invariant)

pub loop-y-preserved : goal.loop-y-preserved
loop-y-preserved c =
    found_later (is_attribute_named c.args.doc.now c.args.name.now) c.loop-y.y _ c.loop-y-test.true (sym c.if-is_attribute_named.ensures) ∙ c.loop-y.invariant

pub returns : goal.returns
returns c =
    let rows = c.args.doc.now in
    ap (option_map (λ y. (row_at rows y).value)) (sym (found_none (is_attribute_named rows c.args.name.now) c.loop-y.y _ c.loop-y-test.false) ∙ c.loop-y.invariant)
