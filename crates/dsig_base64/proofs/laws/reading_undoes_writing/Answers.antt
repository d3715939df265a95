use Rattle.std.proofs.Common.{arith}
use Rattle.dsig_base64.proofs.Reading.{octets_in-base64_of}
use Rattle.dsig_base64.proofs.laws.reading_undoes_writing.Goals as goal

pub returns : goal.returns
returns c = octets_in-base64_of c.args.octets.now (λ i. let f = c.type_inv.octets i in omega arith)
