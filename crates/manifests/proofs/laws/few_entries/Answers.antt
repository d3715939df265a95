use Rattle.manifests.proofs.CountLaws.{few_entries}
use Rattle.manifests.proofs.laws.few_entries.Goals as goal

pub returns : goal.returns
returns c = few_entries
