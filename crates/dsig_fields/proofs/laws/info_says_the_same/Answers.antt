use Rattle.dsig_fields.proofs.SameLaws.{info_says_the_same}
use Rattle.dsig_fields.proofs.laws.info_says_the_same.Goals as goal

pub returns : goal.returns
returns c = info_says_the_same
