use Rattle.std.proofs.Common.{[], refl, sym, ◌∙◌}
use Rattle.node_sets.specs.View.{in_view}
use Rattle.c14n_rows.specs.Code.Stacks.{is_named}
use Rattle.xml_doc.proofs.Ranges.{find_more, find_here, find_end}
use Rattle.c14n_rows.proofs.stacks.default_row.Goals as goal

pub loop-z-init : goal.loop-z-init
loop-z-init c = refl

pub loop-z-preserved : goal.loop-z-preserved
loop-z-preserved c = c.loop-z.invariant ∙ find_more (is_named c.args.doc.now (in_view c.args.set) []) c.loop-z.z c.args.until c.loop-z-test.true c.if-is_default.ensures

pub returns-then-is_default-clause-value : goal.returns-then-is_default-clause-value
returns-then-is_default-clause-value c = sym (c.loop-z.invariant ∙ find_here (is_named c.args.doc.now (in_view c.args.set) []) c.loop-z.z c.args.until c.loop-z-test.true c.if-is_default.ensures)

pub returns-clause-value : goal.returns-clause-value
returns-clause-value c = sym (c.loop-z.invariant ∙ find_end (is_named c.args.doc.now (in_view c.args.set) []) c.loop-z.z c.args.until c.loop-z-test.false)
