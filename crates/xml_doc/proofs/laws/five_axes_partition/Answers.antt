use Rattle.xml_doc.proofs.AxisLaws.{five_partition}
use Rattle.xml_doc.proofs.laws.five_axes_partition.Goals as goal

pub returns : goal.returns
returns c = five_partition
