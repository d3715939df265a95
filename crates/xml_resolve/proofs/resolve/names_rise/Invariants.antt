use Rattle.std.proofs.Common.{◌≡◌, None, drop}
use Rattle.std.specs.Prelude.{option_map}
use Rattle.xml_syntax.specs.Seen.{seen_attributes}
use Rattle.xml_resolve.specs.Keys.{key_of}
use Rattle.xml_resolve.specs.Steps.{bound_in}
use Rattle.xml_resolve.specs.Code.Steps.{rises}
use Rattle.xml_resolve.proofs.resolve.names_rise.Given as goal

abbrev pub invariant-loop-attribute : goal.invariant-loop-attribute
invariant-loop-attribute l = rises (bound_in l.scope) (option_map key_of l.last) (seen_attributes (drop l.attribute-index l.attributes)) ≡ rises (bound_in l.scope) None (seen_attributes l.attributes)
