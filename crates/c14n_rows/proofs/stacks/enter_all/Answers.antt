use Rattle.std.proofs.Common.{arith}
use Rattle.node_sets.specs.View.{in_view}
use Rattle.c14n_rows.specs.Rules.{rule_of}
use Rattle.c14n_rows.proofs.StacksLemmas.{stacks-root, keeps-all, keeps-then, room-kept, room-above}
use Rattle.c14n_rows.proofs.stacks.enter_all.Goals as goal

pub loop-top-init : goal.loop-top-init
loop-top-init c =
    let rows = c.args.doc.now in let w = c.rows-rows.ensures.shaped in
    let whole = w.root_last in let here = c.requires.here in
    record {
      stacks = stacks-root rows (in_view c.args.set) (rule_of c.args.method) w _ c.requires.empty;
      kept = keeps-all c.args.stacks.now;
      before = omega arith;
      within = omega arith;
    }

pub mark_prefixes-requires-clause-stacks : goal.mark_prefixes-requires-clause-stacks
mark_prefixes-requires-clause-stacks c = rw c.child_towards-next.ensures.parent c.loop-top.invariant.stacks

pub mark_prefixes-requires-clause-room : goal.mark_prefixes-requires-clause-room
mark_prefixes-requires-clause-room c =
    room-kept c.args.doc.now (rule_of c.args.method) c.child_towards-next.result c.args.stacks.now c.loop-top.stacks c.loop-top.invariant.kept
    (room-above c.args.doc.now (rule_of c.args.method) c.rows-rows.ensures.shaped c.child_towards-next.result c.args.x c.args.stacks.now c.child_towards-next.ensures.before c.child_towards-next.ensures.within c.requires.here c.requires.room)

pub enter-requires-clause-room : goal.enter-requires-clause-room
enter-requires-clause-room c =
    room-kept c.args.doc.now (rule_of c.args.method) c.child_towards-next.result c.args.stacks.now _ (keeps-then c.args.stacks.now c.loop-top.stacks _ c.loop-top.invariant.kept c.mark_prefixes.ensures.kept)
    (room-above c.args.doc.now (rule_of c.args.method) c.rows-rows.ensures.shaped c.child_towards-next.result c.args.x c.args.stacks.now c.child_towards-next.ensures.before c.child_towards-next.ensures.within c.requires.here c.requires.room)

pub loop-top-preserved : goal.loop-top-preserved
loop-top-preserved c = record {
  stacks = c.enter.ensures.stacks;
  kept = keeps-then c.args.stacks.now c.loop-top.stacks _ c.loop-top.invariant.kept (keeps-then c.loop-top.stacks _ _ c.mark_prefixes.ensures.kept c.enter.ensures.kept);
  before = c.child_towards-next.ensures.before;
  within = c.child_towards-next.ensures.within;
}
