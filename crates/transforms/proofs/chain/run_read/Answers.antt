use Rattle.std.proofs.Common.{ap}
use Rattle.transforms.specs.Values.{OfNodes, Nodes, origin_of}
use Rattle.transforms.proofs.ChainLaws.{all_is, left}
use Rattle.transforms.proofs.Stops.{proceeds_as}
use Rattle.transforms.proofs.chain.run_read.Goals as goal

pub returns : goal.returns
returns g c =
    let origin = origin_of c.args.doc.now c.args.signature in
    let all = all_is c.in_ok-all.all c.args.read.now c.in_ok-all.ensures.document c.in_ok-all.ensures.members in
    let same = ap (λ (nodes : Nodes). left origin c.args.steps.now c.args.next (OfNodes nodes)) all in
    proceeds_as _ _ _ same c.run_nodes.ensures
