use Rattle.signed_info.proofs.Fixed.{octets_fix}
use Rattle.signed_info.proofs.laws.signed_octets_fix_the_fields.Goals as goal

pub returns : goal.returns
returns c = octets_fix
