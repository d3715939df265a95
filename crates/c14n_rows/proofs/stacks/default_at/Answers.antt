use Rattle.std.proofs.Common.{◌-◌, refl, arith}
use Rattle.node_sets.specs.View.{in_view}
use Rattle.c14n_text.specs.Rows.{parent_of}
use Rattle.c14n_rows.specs.Rules.{rule_of}
use Rattle.c14n_rows.proofs.Chains.{parent_there}
use Rattle.c14n_rows.proofs.StackLemmas.{parent_element}
use Rattle.c14n_rows.proofs.FrameLemmas.{default_there}
use Rattle.c14n_rows.proofs.stacks.default_at.Goals as goal

pub returns-else-start-eq0-clause-value : goal.returns-else-start-eq0-clause-value
returns-else-start-eq0-clause-value c =
    let rows = c.args.doc.now in let w = c.rows-rows.ensures.shaped in let x = c.args.x in
    default_there rows w (in_view c.args.set) (rule_of c.args.method) (parent_of rows x) (parent_there rows w x c.requires.here) (parent_element rows w x c.requires.here) c.args.slots.now c.requires.slots_are
    c.args.start _ _ c.requires.start c.if-start-eq0.false refl

pub returns-else-start-eq0-clause-there : goal.returns-else-start-eq0-clause-there
returns-else-start-eq0-clause-there c = (c.requires.slots_fit (c.args.start - 1) _ (let le = c.requires.within in let some = c.if-start-eq0.false in omega arith)).near
