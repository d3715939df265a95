use Rattle.node_sets.specs.View.{in_view}
use Rattle.c14n_text.specs.Rows.{parent_of}
use Rattle.c14n_rows.specs.Rules.{rule_of}
use Rattle.c14n_rows.proofs.FrameLemmas.{Searched}
use Rattle.c14n_rows.proofs.stacks.frame_start.Given as goal

abbrev pub invariant-loop-i : goal.invariant-loop-i
invariant-loop-i l = Searched l.doc (in_view l.set) (rule_of l.method) (parent_of l.doc l.x) l.slots l.i

abbrev pub decreases-loop-i : goal.decreases-loop-i
decreases-loop-i l = l.i
