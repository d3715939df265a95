use Rattle.std.proofs.Common.{◌-◌, length}
use Rattle.c14n_rows.specs.Rules.{rule_of}
use Rattle.c14n_rows.specs.Code.Nearest.{last_part, NearestAt}
use Rattle.c14n_rows.specs.Code.Stacks.{KeepsOrdered}
use Rattle.c14n_rows.proofs.nearest.keep_nearest.Given as goal

abbrev pub invariant-loop-count : goal.invariant-loop-count
invariant-loop-count l = record {
  nearest : NearestAt l.doc (rule_of l.method) l.xml l.nearest;
  kept : KeepsOrdered l.initial.ordered l.ordered;
}

abbrev pub decreases-loop-count : goal.decreases-loop-count
decreases-loop-count l = length l.xml - (last_part l.nearest).count
