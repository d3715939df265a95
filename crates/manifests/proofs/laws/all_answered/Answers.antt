use Rattle.manifests.proofs.AnswerLaws.{all_answered}
use Rattle.manifests.proofs.laws.all_answered.Goals as goal

pub returns : goal.returns
returns c = all_answered
