use Rattle.std.proofs.Common.{arith}
use Rattle.dsig_base64.proofs.Reading.{spells}
use Rattle.dsig_base64.proofs.laws.a_text_spells_what_it_encodes.Goals as goal

pub returns : goal.returns
returns c =
    spells c.args.text.now c.args.octets.now (λ i. let f = c.type_inv.text i in omega arith) (λ i. let f = c.type_inv.octets i in omega arith)
