use Rattle.std.proofs.Common.{ap, sym, ◌∙◌}
use Rattle.node_sets.specs.View.{in_view}
use Rattle.c14n_text.specs.Rows.{parent_of}
use Rattle.c14n_text.specs.Namespaces.{Rule}
use Rattle.c14n_rows.specs.Rules.{rule_of}
use Rattle.c14n_rows.specs.Code.Stacks.{runs_at}
use Rattle.c14n_rows.proofs.RunLemmas.{eleven_is, no_runs}
use Rattle.c14n_rows.proofs.StacksLemmas.{room_for_bases-all}
use Rattle.c14n_rows.proofs.stacks.leave_run.Goals as goal

pub leave_runs-requires-clause-runs_are : goal.leave_runs-requires-clause-runs_are
leave_runs-requires-clause-runs_are c =
    let is = eleven_is (rule_of c.args.method) (sym c.is_eleven.ensures ∙ c.if-is_eleven.true) in
    c.requires.runs_are ∙ ap (λ (r : Rule). runs_at c.args.doc.now (in_view c.args.set) r c.args.x) is

pub returns-then-is_eleven-clause-runs_are : goal.returns-then-is_eleven-clause-runs_are
returns-then-is_eleven-clause-runs_are c =
    let is = eleven_is (rule_of c.args.method) (sym c.is_eleven.ensures ∙ c.if-is_eleven.true) in
    c.leave_runs.ensures.runs_are ∙ ap (λ (r : Rule). runs_at c.args.doc.now (in_view c.args.set) r (parent_of c.args.doc.now c.args.x)) (sym is)

pub returns-else-is_eleven-clause-runs_are : goal.returns-else-is_eleven-clause-runs_are
returns-else-is_eleven-clause-runs_are c =
    c.requires.runs_are ∙ no_runs c.args.doc.now (in_view c.args.set) (rule_of c.args.method) (sym c.is_eleven.ensures ∙ c.if-is_eleven.false) c.args.x (parent_of c.args.doc.now c.args.x)

pub returns-else-is_eleven-clause-prepared_room : goal.returns-else-is_eleven-clause-prepared_room
returns-else-is_eleven-clause-prepared_room c = room_for_bases-all c.args.prepared.now
