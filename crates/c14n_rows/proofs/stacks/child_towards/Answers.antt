use Rattle.std.proofs.Common.{◌≡◌, ◌<◌, length, ap, arith}
use Rattle.c14n_text.specs.Rows.{parent_of}
use Rattle.c14n_text.specs.Code.Rows.{last_of}
use Rattle.c14n_text.proofs.RowTree.{tree_of}
use Rattle.c14n_rows.proofs.stacks.child_towards.Goals as goal

pub above-up-requires-in-loop-up : goal.above-up-requires-in-loop-up
above-up-requires-in-loop-up c =
    let rows = c.args.doc.now in let w = c.rows-rows.ensures.shaped in let i = c.loop-up.invariant in
    let behind = i.behind in let before = i.before in let parent = i.parent in let here = c.requires.here in
    let up = w.nesting.parent_before c.loop-up.y (omega arith) (omega arith) in
    omega arith

pub loop-up-smaller : goal.loop-up-smaller
loop-up-smaller c =
    let rows = c.args.doc.now in let w = c.rows-rows.ensures.shaped in let i = c.loop-up.invariant in
    let behind = i.behind in let before = i.before in let parent = i.parent in let here = c.requires.here in
    let up = w.nesting.parent_before c.loop-up.y (omega arith) (omega arith) in
    omega arith

pub loop-up-preserved : goal.loop-up-preserved
loop-up-preserved c =
    let rows = c.args.doc.now in let w = c.rows-rows.ensures.shaped in let i = c.loop-up.invariant in
    let behind = i.behind in let before = i.before in let parent = i.parent in let within = i.within in let here = c.requires.here in let ends = c.requires.within in
    let there : c.loop-up.y < length rows = omega arith in
    let up = w.nesting.parent_before c.loop-up.y (omega arith) there in
    let reach = (tree_of rows w).below c.args.top c.loop-up.y behind there (omega arith) in
    let nested = w.nesting.last_within c.loop-up.y there in
    let other = c.loop-up-test.true in
    let same : last_of rows c.loop-up.up ≡ last_of rows (parent_of rows c.loop-up.y) = ap (last_of rows) parent in
    record {
      behind = omega arith;
      before = omega arith;
      within = omega arith;
      parent = c.above-up-in-loop-up.ensures;
    }
