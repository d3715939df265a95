use Rattle.std.proofs.Common.{◌≡◌, ◌≤◌, ◌+◌, ◌-◌, drop, length}
use Rattle.transforms.specs.Code.Answers.{nodes_of}
use Rattle.transforms.specs.Values.{origin_of}
use Rattle.transforms.specs.Values.{OfNodes, OfOctets}
use Rattle.transforms.proofs.ChainLaws.{left}
use Rattle.transforms.proofs.chain.run_nodes.Given as goal

-- the steps that are left make of the set what all of them make of the first one
abbrev pub invariant-loop-step : goal.invariant-loop-step
invariant-loop-step g l = record {
  from : l.done ≤ l.next;
  within : l.next ≤ length l.steps;
  rows : l.set.rows ≡ l.fn.nodes.rows;
  rest : left (origin_of l.doc l.signature) l.steps l.done (OfNodes (nodes_of l.own l.fn.nodes)) ≡ left (origin_of l.doc l.signature) l.steps l.next (OfNodes (nodes_of l.own l.set));
}

abbrev pub decreases-loop-step : goal.decreases-loop-step
decreases-loop-step g l = length l.steps - l.next
