use Rattle.std.proofs.Common.{◌≡◌, [], drop, map}
use Rattle.std.specs.Prelude.{option_map}
use Rattle.xml_syntax.specs.Seen.{seen_attributes}
use Rattle.xml_resolve.specs.Keys.{key_of}
use Rattle.xml_resolve.specs.Code.Keys.{attribute_of}
use Rattle.xml_resolve.specs.Table.{bound_by, ordered_behind}
use Rattle.xml_resolve.proofs.RisingLaws.{EndsBelow}
use Rattle.xml_resolve.proofs.attributes.rising.Given as goal

abbrev pub invariant-loop-attribute : goal.invariant-loop-attribute
invariant-loop-attribute l =
    EndsBelow (option_map key_of l.last) (map attribute_of l.list.items) ×
    (ordered_behind (bound_by l.bindings) (map attribute_of l.list.items) (seen_attributes (drop l.attribute-index l.attributes)) ≡ ordered_behind (bound_by l.bindings) [] (seen_attributes l.attributes))
