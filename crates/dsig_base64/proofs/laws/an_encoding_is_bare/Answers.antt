use Rattle.std.proofs.Common.{arith}
use Rattle.dsig_base64.proofs.Bare.{base64_is_bare}
use Rattle.dsig_base64.proofs.laws.an_encoding_is_bare.Goals as goal

pub returns : goal.returns
returns c = base64_is_bare c.args.octets.now (λ i. let f = c.type_inv.octets i in omega arith)
