use Rattle.std.proofs.Common.{ℕ, Vec, Global}
use Rattle.signer.specs.Template.{algorithm_element}
use Rattle.signer.proofs.InsertLaws.{ok_by, parts5}
use Rattle.signer.proofs.inserting.algorithm_element.Goals as goal

pub returns : goal.returns
returns c =
    ok_by (λ (o : Vec ℕ Global). o.items) c.joined.result _ (algorithm_element c.args.name.now c.args.identifier.now) c.joined.ensures
    (parts5 c.as_slice.ensures c.as_bytes.ensures.value c.as_slice-2.ensures c.as_bytes-2.ensures.value c.as_slice-3.ensures)
