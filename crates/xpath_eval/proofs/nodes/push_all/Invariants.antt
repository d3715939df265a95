use Rattle.std.proofs.Common.{◌≡◌, ◌++◌, take}
use Rattle.xpath_eval.proofs.nodes.push_all.Given as goal

abbrev pub invariant-loop-y : goal.invariant-loop-y
invariant-loop-y l = l.ys ≡ l.initial.ys ++ take l.y-index l.more
