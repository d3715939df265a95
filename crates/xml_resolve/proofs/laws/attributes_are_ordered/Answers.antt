use Rattle.xml_resolve.proofs.OrderLaws.{values_sorted}
use Rattle.xml_resolve.proofs.AttributeOrder.{same_attributes}
use Rattle.xml_resolve.proofs.laws.attributes_are_ordered.Goals as goal

pub returns : goal.returns
returns c = record { rising = values_sorted; members = same_attributes }
