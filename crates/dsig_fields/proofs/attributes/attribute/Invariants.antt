use Rattle.std.proofs.Common.{◌≡◌, ◌-◌}
use Rattle.std.specs.List.{find, range_with_len}
use Rattle.xml_doc.specs.Fields.{attribute_rows}
use Rattle.dsig_fields.specs.Reading.{is_attribute_named}
use Rattle.dsig_fields.proofs.attributes.attribute.Given as goal

abbrev pub invariant-loop-y : goal.invariant-loop-y
invariant-loop-y l =
    find (is_attribute_named l.doc l.name) (range_with_len l.y (l.y-end - l.y)) ≡ find (is_attribute_named l.doc l.name) (attribute_rows l.doc l.x)
