use Rattle.std.proofs.Common.{sym}
use Rattle.node_sets.specs.View.{in_view}
use Rattle.c14n_rows.specs.Rules.{rule_of}
use Rattle.c14n_rows.proofs.UtilizedLemmas.{exclusive_marks}
use Rattle.c14n_rows.proofs.namespaces.is_written.Goals as goal

pub visibly_utilizes-requires-clause-marked : goal.visibly_utilizes-requires-clause-marked
visibly_utilizes-requires-clause-marked c =
    exclusive_marks c.args.doc.now (in_view c.args.set) (rule_of c.args.method) c.args.x c.args.marks.now _ c.requires.marked (sym c.if-follows_inclusive_rule.ensures)
