use Rattle.std.proofs.Common.{◌∙◌}
use Rattle.filter2.proofs.SelectionLemmas.{grown}
use Rattle.filter2.proofs.selections.selected_rows.Goals as goal

pub returns-clause-members : goal.returns-clause-members
returns-clause-members c =
    let found = c.in_ok-nodes.ensures in
    grown c.args.doc.now found.0 _ c.in_ok-nodes.nodes c.expand.new.nodes found.1 found.2 c.expand.ensures

pub returns-clause-rows : goal.returns-clause-rows
returns-clause-rows c = c.expand.ensures.rows ∙ c.in_ok-nodes.ensures.2.1
