use Rattle.dsig_fields.proofs.ContentLaws.{read_exactly}
use Rattle.dsig_fields.proofs.laws.read_exactly.Goals as goal

pub returns : goal.returns
returns c = read_exactly
