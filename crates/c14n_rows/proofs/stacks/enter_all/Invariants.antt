use Rattle.std.proofs.Common.{◌≤◌, ◌-◌}
use Rattle.node_sets.specs.View.{in_view}
use Rattle.c14n_text.specs.Code.Rows.{last_of}
use Rattle.c14n_rows.specs.Rules.{rule_of}
use Rattle.c14n_rows.specs.Code.Stacks.{StacksAt, Keeps}
use Rattle.c14n_rows.proofs.stacks.enter_all.Given as goal

abbrev pub invariant-loop-top : goal.invariant-loop-top
invariant-loop-top l = record {
  stacks : StacksAt l.doc (in_view l.set) (rule_of l.method) l.top l.stacks;
  kept : Keeps l.initial.stacks l.stacks;
  before : l.top ≤ l.x;
  within : l.x ≤ last_of l.doc l.top;
}

abbrev pub decreases-loop-top : goal.decreases-loop-top
decreases-loop-top l = l.x - l.top
