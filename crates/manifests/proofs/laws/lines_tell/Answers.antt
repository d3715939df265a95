use Rattle.manifests.proofs.TellLaws.{lines_tell}
use Rattle.manifests.proofs.laws.lines_tell.Goals as goal

pub returns : goal.returns
returns c = lines_tell
